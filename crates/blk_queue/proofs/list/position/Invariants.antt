use Rattle.std.proofs.Common.{◌≡◌, false, take}
use Rattle.std.specs.List.{list_any}
use Rattle.blk_queue.proofs.Ids.{named}
use Rattle.blk_queue.proofs.list.position.Given as goal

abbrev pub invariant-loop-i : goal.invariant-loop-i
invariant-loop-i l = list_any (named l.id) (take l.i l.list) ≡ false
