use Rattle.std.proofs.Common.{sym, ◌∙◌}
use Rattle.vm_orders.proofs.Noted.{none_frozen}
use Rattle.vm_orders.proofs.conditions.is_stopped.Goals as goal

pub returns-else-is_cpu : goal.returns-else-is_cpu
returns-else-is_cpu c = c.if-is_cpu.false ∙ sym (none_frozen c.args.machine.now.state c.args.i (sym c.is_cpu.ensures ∙ c.if-is_cpu.false))
