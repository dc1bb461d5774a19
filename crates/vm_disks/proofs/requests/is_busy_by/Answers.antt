use Rattle.std.proofs.Common.{◌∙◌}
use Rattle.vm_state.specs.Requests.{has_worker}
use Rattle.vm_disks.proofs.Lookup.{known}
use Rattle.vm_disks.proofs.requests.is_busy_by.Goals as goal

pub returns : goal.returns
returns c = c.has_worker.ensures ∙ known c.args.queue.now c.args.id (has_worker c.args.by) c.progress_of.result c.is_sound.ensures c.progress_of.ensures
