use Rattle.std.proofs.Common.{rules, ap, ◌∙◌, sym, subst}
use Rattle.vm_turn.specs.History.{Adds}
use Rattle.vm_turn.proofs.Steps.{gives_back_as}
use Rattle.vm_turn.proofs.turnstile.Turnstile.give.Goals as goal

pub store-requires : goal.store-requires
store-requires g c =
    let is = ap (λ k. k.view) c.pass.view_is in
    let i = c.pass.invariant in (
      search rules,
      search rules,
      gives_back_as g.L.Logged.root g.L.Logged.entries _ _ c.exchange.new.seat.me _ _ c.args.held.value c.exchange.ensures.3 i.slots i.live (ap (λ v. v.holds) is ∙ c.requires.holds) (ap (λ v. v.root) is ∙ c.requires.root)
          (subst (λ v. Adds v.number v.seen (g.L.Logged.entries c.args.held.value)) (sym is) c.requires.history),
    )
