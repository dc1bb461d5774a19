use Rattle.std.proofs.Common.{◌≡◌, ℕ, ◌∙◌, sym, subst, arith, length, take, Result, Err}
use Rattle.std.specs.Prelude.{IfOk, ◌↔◌, ◌≤◌}
use Rattle.vm_law.specs.declared.insn.Insn.{Insn}
use Rattle.x86_decode.specs.declared.fault.DecodeFault.{DecodeFault}
use Rattle.x86_decode.specs.declared.fault.DecodeFault.TheVariants.{Short, Unknown}
use Rattle.x86_grammar.specs.Grammar.{Spelled, IsPartial, IsUnknown}
use Rattle.x86_decode.specs.Reading.{decoded}
use Rattle.x86_decode.proofs.Exact.{found, only, short, unknown}
use Rattle.x86_decode.proofs.decoder.decode.Goals as goal

abbrev Answer : Type 0
Answer = Result (Insn × ℕ) DecodeFault

pub returns-clause-found : goal.returns-clause-found
returns-clause-found c =
    let bs = c.args.bytes.now in
    subst (λ (r : Answer). IfOk r (λ x. (x.1 ≤ length bs) × Spelled (take x.1 bs) x.0)) (sym c.decode_at.ensures) (found bs (λ i. omega (arith, c.type_inv.bytes i)))

pub returns-clause-only : goal.returns-clause-only
returns-clause-only c = λ insn n le s. c.decode_at.ensures ∙ only c.args.bytes.now insn n le s

pub returns-clause-short : goal.returns-clause-short
returns-clause-short c =
    let bs = c.args.bytes.now in
    subst (λ (r : Answer). (r ≡ Err Short) ↔ IsPartial bs) (sym c.decode_at.ensures) (short bs (λ i. omega (arith, c.type_inv.bytes i)))

pub returns-clause-unknown : goal.returns-clause-unknown
returns-clause-unknown c =
    let bs = c.args.bytes.now in
    subst (λ (r : Answer). (r ≡ Err Unknown) ↔ IsUnknown bs) (sym c.decode_at.ensures) (unknown bs (λ i. omega (arith, c.type_inv.bytes i)))

pub returns-clause-computed : goal.returns-clause-computed
unfolding decoded
returns-clause-computed c = c.decode_at.ensures
