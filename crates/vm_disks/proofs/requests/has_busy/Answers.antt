use Rattle.std.proofs.Common.{◌∙◌}
use Rattle.blk_queue.specs.Progress.{is_busy}
use Rattle.vm_disks.proofs.Lookup.{first_any}
use Rattle.vm_disks.proofs.requests.has_busy.Goals as goal

pub returns : goal.returns
returns c = c.is_some.ensures ∙ first_any is_busy c.args.drive.now.queue.requests c.place_any_busy.result c.place_any_busy.ensures
