use Rattle.blk_queue.proofs.Sound.{more_from_put}
use Rattle.blk_queue.proofs.queue.BlkQueue.put.Goals as goal

pub advance-requires : goal.advance-requires
advance-requires c = more_from_put c.args.self.now.requests c.args.id c.requires
