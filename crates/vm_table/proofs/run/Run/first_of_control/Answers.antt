use Rattle.std.proofs.Common.{sym, ◌∙◌}
use Rattle.vm_table.proofs.Stages.{control_last}
use Rattle.vm_table.proofs.run.Run.first_of_control.Goals as goal

pub returns-else-any_free : goal.returns-else-any_free
returns-else-any_free c = c.first_for_all.ensures ∙ sym (control_last c.args.self.now.state (c.any_free.ensures c.if-any_free.false))
