use Rattle.std.proofs.Common.{◌≡◌, ◌++◌, map, take, drop}
use Rattle.blk_queue.specs.Steps as steps
use Rattle.blk_queue.proofs.list.mark_dropped.Given as goal

abbrev pub invariant-loop-entry : goal.invariant-loop-entry
invariant-loop-entry l = l.list ≡ map steps.mark_dropped (take l.entry-index l.fn.list) ++ drop l.entry-index l.fn.list
