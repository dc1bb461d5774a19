use Rattle.std.proofs.Common.{◌≡◌}
use Rattle.std.specs.Prelude.{replicate}
use Rattle.vm_state.specs.State.{empty_seat}
use Rattle.vm_state.proofs.booting.boot_seats.Given as goal

abbrev pub invariant-loop-k : goal.invariant-loop-k
invariant-loop-k l = l.seats.items ≡ replicate l._k empty_seat
