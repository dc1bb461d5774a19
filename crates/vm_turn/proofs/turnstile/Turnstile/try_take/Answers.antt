use Rattle.std.proofs.Common.{rules, Some, ◌∷◌, ap, ◌∙◌, sym}
use Rattle.atomic_table.specs.Table.{rest}
use Rattle.vm_turn.proofs.Steps.{tries}
use Rattle.vm_turn.proofs.turnstile.Turnstile.try_take.Goals as goal

pub compare_exchange-found-requires : goal.compare_exchange-found-requires
compare_exchange-found-requires g c = (search rules, search rules, tries g.L.Logged.root g.L.Logged.entries _ _ _ _ c.pass.invariant.live (ap (λ k. k.view.holds) c.pass.view_is ∙ c.requires.idle) (search rules))

pub exchange-requires : goal.exchange-requires
exchange-requires g c = let t = c.compare_exchange-found.ensures.2.0 c.if-found-eq0.true in
    (search rules, (Some t.0, t.1 ∙ ap (λ l. (0, Some t.0) ∷ rest l) (sym t.1)))
