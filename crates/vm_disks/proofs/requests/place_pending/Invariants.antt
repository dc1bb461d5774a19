use Rattle.std.proofs.Common.{◌≡◌, drop}
use Rattle.std.specs.List.{find}
use Rattle.blk_queue.specs.Progress.{is_pending}
use Rattle.vm_disks.proofs.requests.place_pending.Given as goal

abbrev pub invariant-loop-k : goal.invariant-loop-k
invariant-loop-k l = find is_pending l.queue.requests ≡ find is_pending (drop l.k l.queue.requests)
