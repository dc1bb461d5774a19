use Rattle.std.proofs.Common.{◌≡◌, ◌-◌, ◌≤◌, All, vec_len}
use Rattle.std.specs.Vec.Iter.{into_iter_items, into_iter_len}
use Rattle.vm_threads.specs.Chair.{HasJoined}
use Rattle.vm_threads.proofs.ending.join_all.Given as goal

abbrev pub invariant-loop-handle : goal.invariant-loop-handle
invariant-loop-handle g l =
    (goal.iterator-loop-handle g).can_next l.handle-iterator
    × (goal.iterator-loop-handle g).is_finite l.handle-iterator
    × All (λ h. h.promise.turnstile.now ≡ l.turnstile) (into_iter_items l.handle-iterator)
    × (l.chair.pass.turnstile ≡ l.turnstile)
    × (into_iter_len l.handle-iterator ≤ vec_len l.fn.there)
    × HasJoined l.initial.chair (vec_len l.fn.there - into_iter_len l.handle-iterator) l.chair
