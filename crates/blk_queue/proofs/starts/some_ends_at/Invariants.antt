use Rattle.std.proofs.Common.{◌≡◌, false, take}
use Rattle.std.specs.List.{list_any}
use Rattle.blk_queue.specs.Starts.{ends_at}
use Rattle.blk_queue.proofs.starts.some_ends_at.Given as goal

abbrev pub invariant-loop-mark : goal.invariant-loop-mark
invariant-loop-mark l = list_any (ends_at l.sector) (take l.mark-index l.marks) ≡ false
