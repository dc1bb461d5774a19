use Rattle.std.proofs.Common.{arith}
use Rattle.blk_queue.proofs.Index.{marks_few}
use Rattle.blk_queue.proofs.list.add.Goals as goal

pub mark-requires : goal.mark-requires
mark-requires c = let few = marks_few c.args.list.now.items c.args.starts.now c.requires.indexed in omega (arith, few)
