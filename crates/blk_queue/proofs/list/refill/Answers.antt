use Rattle.std.proofs.Common.{take, arith}
use Rattle.std.proofs.lemmas.List.{length-take}
use Rattle.blk_queue.proofs.Index.{marks_few}
use Rattle.blk_queue.proofs.list.refill.Goals as goal

pub mark-requires : goal.mark-requires
mark-requires c =
    let front = take c.loop-entry.entry-index c.args.list.now in
    let few = marks_few front c.loop-entry.starts c.loop-entry.invariant in
    let short = length-take c.loop-entry.entry-index c.args.list.now in
    omega (arith, few, short)
