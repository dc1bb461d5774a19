use Rattle.std.proofs.Common.{ℕ, subst, Result}
use Rattle.std.specs.Prelude.{IfOk, ◌≤◌, length, take}
use Rattle.vm_law.specs.declared.insn.Insn.{Insn}
use Rattle.x86_grammar.specs.Grammar.{Spelled}
use Rattle.x86_decode.specs.declared.fault.DecodeFault.{DecodeFault}
use Rattle.x86_decode.specs.Reading.{decoded}
use Rattle.x86_decode.proofs.Exact.{found, only, short, unknown}
use Rattle.x86_decode.proofs.decoder.decoding_is_the_grammar.Goals as goal

abbrev Answer : Type 0
Answer = Result (Insn × ℕ) DecodeFault

pub returns-clause-found : goal.returns-clause-found
unfolding decoded
returns-clause-found c = λ bs insn n b. (
  λ e. subst (λ (r : Answer). IfOk r (λ x. (x.1 ≤ length bs) × Spelled (take x.1 bs) x.0)) e (found bs b),
  λ s. only bs insn n s.0 s.1,
)

pub returns-clause-short : goal.returns-clause-short
unfolding decoded
returns-clause-short c = λ bs b. short bs b

pub returns-clause-unknown : goal.returns-clause-unknown
unfolding decoded
returns-clause-unknown c = λ bs b. unknown bs b
