use Rattle.std.proofs.Common.{ap, ◌∙◌}
use Rattle.vm_orders.specs.Done.{said_by}
use Rattle.vm_orders.proofs.Noted.{said_known}
use Rattle.vm_orders.proofs.orders.said_of.Goals as goal

pub returns : goal.returns
returns c = c.said_by.ensures ∙ said_known c.args.queue.now c.args.id c.progress_of.result c.is_sound.ensures c.progress_of.ensures
