use Rattle.std.proofs.Common.{ap, ℕ, nat_eq}
use Rattle.std.proofs.lemmas.Nat.Bits.{shr_and_one}
use Rattle.x86_alu.specs.Flags.{is_set}
use Rattle.x86_op.proofs.flags.is_set.Goals as goal

pub returns : goal.returns
unfolding is_set
returns c = ap (λ (x : ℕ). nat_eq x 1) (shr_and_one c.args.flags c.args.place)
