use Rattle.std.proofs.Common.{◌∙◌}
use Rattle.vm_state.specs.Requests.{is_busy_by}
use Rattle.vm_disks.proofs.Lookup.{first_any}
use Rattle.vm_disks.proofs.requests.has_request.Goals as goal

pub returns : goal.returns
returns c = c.is_some.ensures ∙ first_any (is_busy_by c.args.by) c.args.queue.now.requests c.place_busy.result c.place_busy.ensures
