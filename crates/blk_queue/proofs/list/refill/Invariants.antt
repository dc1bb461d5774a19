use Rattle.std.proofs.Common.{take}
use Rattle.blk_queue.specs.Starts.{Indexes}
use Rattle.blk_queue.proofs.list.refill.Given as goal

abbrev pub invariant-loop-entry : goal.invariant-loop-entry
invariant-loop-entry l = Indexes (take l.entry-index l.list) l.starts
