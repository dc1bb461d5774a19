use Rattle.std.proofs.Common.{◌≡◌, drop}
use Rattle.std.specs.List.{find}
use Rattle.vm_state.specs.Requests.{is_busy_by}
use Rattle.vm_disks.proofs.requests.place_busy.Given as goal

abbrev pub invariant-loop-k : goal.invariant-loop-k
invariant-loop-k l = find (is_busy_by l.by) l.queue.requests ≡ find (is_busy_by l.by) (drop l.k l.queue.requests)
