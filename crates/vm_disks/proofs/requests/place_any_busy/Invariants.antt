use Rattle.std.proofs.Common.{◌≡◌, drop}
use Rattle.std.specs.List.{find}
use Rattle.blk_queue.specs.Progress.{is_busy}
use Rattle.vm_disks.proofs.requests.place_any_busy.Given as goal

abbrev pub invariant-loop-k : goal.invariant-loop-k
invariant-loop-k l = find is_busy l.queue.requests ≡ find is_busy (drop l.k l.queue.requests)
