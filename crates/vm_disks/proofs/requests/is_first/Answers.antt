use Rattle.std.proofs.Common.{ap, ◌∙◌}
use Rattle.blk_queue.specs.Steps.{first_pending}
use Rattle.vm_disks.specs.Requests.{is_id}
use Rattle.vm_disks.proofs.Lookup.{same_id}
use Rattle.vm_disks.proofs.requests.is_first.Goals as goal

pub returns : goal.returns
returns c = c.is_id.ensures ∙ ap (is_id c.args.id) c.first_pending.ensures ∙ same_id c.args.id (first_pending c.args.queue.now)
