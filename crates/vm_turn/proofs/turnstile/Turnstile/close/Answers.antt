use Rattle.std.proofs.Common.{ap, ◌∙◌, sym, subst}
use Rattle.vm_turn.specs.View.{IsLone}
use Rattle.vm_turn.proofs.Steps.{ends_some, ends_at}
use Rattle.vm_turn.proofs.turnstile.Turnstile.close.Goals as goal

pub unwrap-requires : goal.unwrap-requires
unwrap-requires g c =
    let is = ap (λ k. k.view) c.pass.view_is in
    ends_some g.L.Logged.root g.L.Logged.entries _ _ _ _ _ c.pass.invariant.live (ap (λ v. v.holds) is ∙ c.requires.idle) (subst (λ v. IsLone v) (sym is) c.requires.last) c.close_with-closed.ensures.values.2 c.take-value.ensures.value

pub returns-clause-finds : goal.returns-clause-finds
returns-clause-finds g c =
    let is = ap (λ k. k.view) c.pass.view_is in
    (ends_at g.L.Logged.root g.L.Logged.entries _ _ _ _ _ _ _ is c.pass.invariant.live c.requires.idle c.requires.last c.close_with-closed.ensures.values.2 c.take-value.ensures.value c.unwrap.ensures).0

pub returns-clause-others : goal.returns-clause-others
returns-clause-others g c =
    let is = ap (λ k. k.view) c.pass.view_is in
    (ends_at g.L.Logged.root g.L.Logged.entries _ _ _ _ _ _ _ is c.pass.invariant.live c.requires.idle c.requires.last c.close_with-closed.ensures.values.2 c.take-value.ensures.value c.unwrap.ensures).1
