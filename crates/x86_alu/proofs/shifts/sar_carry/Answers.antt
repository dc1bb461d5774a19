use Rattle.std.proofs.Common.{◌-◌, ◌/◌, ◌%◌, ◌^◌, ℕ, ap, ◌∙◌, nat_eq, div-one}
use Rattle.x86_alu.specs.Operand.{size_of}
use Rattle.x86_alu.specs.Flags.{is_set}
use Rattle.x86_alu.specs.Shift.{sar_of, sar_carry}
use Rattle.x86_alu.proofs.Masks.{size_pos}
use Rattle.x86_alu.proofs.Moves.{sar_low_bit}
use Rattle.x86_alu.proofs.shifts.sar_carry.Goals as goal

pub returns : goal.returns
unfolding sar_carry is_set
returns c =
    c.is_set.ensures ∙ ap (λ (x : ℕ). nat_eq (x / 2 ^ 0 % 2) 1) c.sar.ensures.result
    ∙ ap (λ (x : ℕ). nat_eq (x % 2) 1) (div-one (sar_of (size_of c.args.width) c.args.a (c.args.n - 1)))
    ∙ ap (λ (x : ℕ). nat_eq x 1) (sar_low_bit (size_of c.args.width) c.args.a (c.args.n - 1) (size_pos c.args.width))
