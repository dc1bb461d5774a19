use Rattle.std.proofs.Common.{rules, ap, ◌∙◌, sym, subst, ◌≢◌}
use Rattle.vm_turn.specs.Seat.{held_slots}
use Rattle.vm_turn.proofs.Steps.{joins}
use Rattle.vm_turn.proofs.turnstile.Turnstile.join.Goals as goal

pub join_seat-requires : goal.join_seat-requires
join_seat-requires g c =
    let is = ap (λ k. k.view) c.keeper.view_is in
    let is' = ap (λ k. k.view) c.ended.view_is in
    let idle' = ap (λ v. v.holds) is' ∙ c.requires.idle.1 in (
      search rules,
      search rules,
      c.ended.invariant.slots ∙ ap held_slots idle',
      search rules,
      joins g.L.Logged.root g.L.Logged.entries _ _ _ _ c.keeper.invariant.live (ap (λ v. v.number) is ∙ c.requires.numbers.0) (ap (λ v. v.holds) is ∙ c.requires.idle.0) c.ended.invariant.live (subst (λ v. v.number ≢ 0) (sym is') c.requires.numbers.1) idle',
    )
