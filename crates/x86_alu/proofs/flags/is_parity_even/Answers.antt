use Rattle.std.proofs.Common.{ap, ℕ, ◌%◌, nat_eq, count_ones}
use Rattle.std.proofs.lemmas.Nat.{and_mask}
use Rattle.x86_alu.specs.Flags.{is_parity_even}
use Rattle.x86_alu.proofs.flags.is_parity_even.Goals as goal

pub returns : goal.returns
unfolding is_parity_even
returns c = ap (λ (x : ℕ). nat_eq (count_ones x % 2) 0) (and_mask c.args.result_word 8)
