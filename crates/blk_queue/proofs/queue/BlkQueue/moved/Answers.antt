use Rattle.blk_queue.proofs.Sound.{more_from_move}
use Rattle.blk_queue.proofs.queue.BlkQueue.moved.Goals as goal

pub advance-requires : goal.advance-requires
advance-requires c = more_from_move c.args.self.now.requests c.args.id c.requires
