use Rattle.std.proofs.Common.{◌≡◌}
use Rattle.vm_threads.proofs.actor.work.Given as goal

abbrev pub invariant-loop : goal.invariant-loop
invariant-loop g l =
    (goal.iterator-loop g).can_next l.iterator' × (goal.iterator-loop g).is_finite l.iterator'
    × ((g.A.Seated.pass_of l.actor).turnstile ≡ (g.A.Seated.pass_of l.initial.actor).turnstile)
    × ((g.A.Seated.pass_of l.actor).view.number ≡ (g.A.Seated.pass_of l.initial.actor).view.number)
