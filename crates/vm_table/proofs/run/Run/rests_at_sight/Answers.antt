use Rattle.std.proofs.Common.{sym, ◌∙◌}
use Rattle.vm_table.proofs.Resting.{nothing_at_all}
use Rattle.vm_table.proofs.run.Run.rests_at_sight.Goals as goal

pub returns : goal.returns
returns c = λ e. nothing_at_all c.args.self.now.state (sym c.rests_for_all.ensures ∙ e) (c.any_free.ensures c.if-any_free.false)
