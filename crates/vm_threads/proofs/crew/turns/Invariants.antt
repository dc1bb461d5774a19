use Rattle.std.proofs.Common.{◌≡◌, All, vec_len}
use Rattle.vm_threads.specs.Chair.{HasTurned}
use Rattle.vm_threads.proofs.crew.turns.Given as goal

abbrev pub invariant-loop : goal.invariant-loop
invariant-loop g l =
    (goal.iterator-loop g).can_next l.iterator' × (goal.iterator-loop g).is_finite l.iterator'
    × HasTurned l.initial.chair l.chair (g.S.Sink.seen l.initial.console) (g.S.Sink.seen l.console)
    × All (λ e. (g.A.Seated.pass_of e.actor).turnstile ≡ l.turnstile) l.runners.items
    × All (λ e. (g.B.Seated.pass_of e.actor).turnstile ≡ l.turnstile) l.workers.items
    × (vec_len l.runners ≡ vec_len l.initial.runners) × (vec_len l.workers ≡ vec_len l.initial.workers)
