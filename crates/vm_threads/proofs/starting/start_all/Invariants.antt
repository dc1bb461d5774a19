use Rattle.std.proofs.Common.{◌≡◌, ◌+◌, ◌≤◌, All, vec_len, vec_capacity}
use Rattle.std.specs.Vec.Iter.{into_iter_items, into_iter_len}
use Rattle.vm_threads.proofs.starting.start_all.Given as goal

abbrev pub invariant-loop-actor : goal.invariant-loop-actor
invariant-loop-actor g l =
    (goal.iterator-loop-actor g).can_next l.actor-iterator
    × (goal.iterator-loop-actor g).is_finite l.actor-iterator
    × (l.k + into_iter_len l.actor-iterator ≡ vec_len l.fn.actors)
    × All (λ a. (g.A.Seated.pass_of a).turnstile ≡ l.turnstile) (into_iter_items l.actor-iterator)
    × (vec_len l.there + vec_len l.here ≡ vec_len l.initial.there + vec_len l.initial.here + l.k)
    × (vec_len l.there + into_iter_len l.actor-iterator ≤ vec_capacity l.there)
    × (vec_len l.here + into_iter_len l.actor-iterator ≤ vec_capacity l.here)
    × All (λ h. h.promise.turnstile.now ≡ l.turnstile) l.there.items
    × All (λ e. (g.A.Seated.pass_of e.actor).turnstile ≡ l.turnstile) l.here.items
