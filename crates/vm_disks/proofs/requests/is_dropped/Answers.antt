use Rattle.std.proofs.Common.{◌∙◌}
use Rattle.blk_queue.specs.Progress.{dropped_of}
use Rattle.vm_disks.proofs.Lookup.{known}
use Rattle.vm_disks.proofs.requests.is_dropped.Goals as goal

pub returns : goal.returns
returns c = c.is_gone.ensures ∙ known c.args.queue.now c.args.id dropped_of c.progress_of.result c.is_sound.ensures c.progress_of.ensures
