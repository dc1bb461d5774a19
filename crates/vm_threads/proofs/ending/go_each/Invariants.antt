use Rattle.std.proofs.Common.{◌≡◌, All, vec_len}
use Rattle.vm_threads.proofs.ending.go_each.Given as goal

abbrev pub invariant-loop-k : goal.invariant-loop-k
invariant-loop-k g l =
    (vec_len l.here ≡ l.k-end)
    × All (λ e. (g.A.Seated.pass_of e.actor).turnstile ≡ l.turnstile) l.here.items
