use Rattle.std.proofs.Common.{◌≡◌, drop}
use Rattle.std.specs.List.{find}
use Rattle.blk_queue.specs.Progress.{is_pending}
use Rattle.blk_queue.proofs.list.first_pending.Given as goal

abbrev pub invariant-loop-i : goal.invariant-loop-i
invariant-loop-i l = find is_pending l.list ≡ find is_pending (drop l.i l.list)
