use Rattle.std.proofs.Common.{◌≡◌, map, take}
use Rattle.blk_queue.specs.Starts.{woken, AreAscending}
use Rattle.blk_queue.proofs.list.wake.Given as goal

abbrev pub invariant-loop-mark : goal.invariant-loop-mark
invariant-loop-mark l = record { woken : l.list ≡ map (woken (take l.mark-index l.marks)) l.fn.list; ids : AreAscending l.list }
