use Rattle.std.proofs.Common.{◌≡◌, ◌-◌, ◌≤◌, All, vec_len}
use Rattle.std.specs.Vec.Iter.{into_iter_items, into_iter_len}
use Rattle.vm_threads.specs.Chair.{HasJoined}
use Rattle.vm_threads.proofs.ending.finish_all.Given as goal

abbrev pub invariant-loop-kept : goal.invariant-loop-kept
invariant-loop-kept g l =
    (goal.iterator-loop-kept g).can_next l.kept-iterator
    × (goal.iterator-loop-kept g).is_finite l.kept-iterator
    × All (λ e. (g.A.Seated.pass_of e.actor).turnstile ≡ l.turnstile) (into_iter_items l.kept-iterator)
    × (l.chair.pass.turnstile ≡ l.turnstile)
    × (into_iter_len l.kept-iterator ≤ vec_len l.fn.here)
    × HasJoined l.initial.chair (vec_len l.fn.here - into_iter_len l.kept-iterator) l.chair
