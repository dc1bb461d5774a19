use Rattle.blk_queue.specs.declared.progress.Unfinished.{Unfinished}
use Rattle.blk_queue.specs.Progress.{is_over}
use Rattle.blk_queue.proofs.Ids.{has_from_test}
use Rattle.blk_queue.proofs.queue.BlkQueue.finish.Goals as goal

pub leave-requires : goal.leave-requires
leave-requires c = has_from_test c.args.id (λ (x : Unfinished). is_over x.request.count x.progress) c.args.self.now.requests c.requires
