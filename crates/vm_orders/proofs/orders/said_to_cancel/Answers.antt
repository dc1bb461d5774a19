use Rattle.std.proofs.Common.{sym, ◌∙◌}
use Rattle.vm_orders.proofs.Noted.{said_past}
use Rattle.vm_orders.proofs.orders.said_to_cancel.Goals as goal

pub returns-else-is_drive : goal.returns-else-is_drive
returns-else-is_drive c = sym (said_past c.args.machine.now.state c.args.disk c.args.id (sym c.is_drive.ensures ∙ c.if-is_drive.false))
