use Rattle.std.proofs.Common.{ap, ◌∙◌, ℕ, ◌/◌, ◌^◌, ◌-◌, nat_eq}
use Rattle.x86_alu.specs.Operand.{size_of}
use Rattle.x86_alu.proofs.Masks.{top_bit, size_pos}
use Rattle.x86_alu.proofs.operand.is_negative.Goals as goal

pub returns : goal.returns
returns c =
    ap (λ (s : ℕ). nat_eq (c.args.a / 2 ^ (s - 1)) 1) c.size_of.ensures
    ∙ top_bit c.args.a (size_of c.args.width) (size_pos c.args.width) c.requires
