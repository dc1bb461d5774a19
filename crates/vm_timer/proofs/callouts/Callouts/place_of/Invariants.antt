use Rattle.std.proofs.Common.{◌<◌, ◌≤◌, ℕ, slice_index}
use Rattle.vm_timer.specs.Timers as spec
use Rattle.vm_timer.proofs.callouts.Callouts.place_of.Given as goal

abbrev pub invariant-loop-place : goal.invariant-loop-place
invariant-loop-place l = (k : ℕ) → k < l.place → spec.left_of l.self (slice_index l.cpus k) ≤ l.left
