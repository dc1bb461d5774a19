use Rattle.std.proofs.Common.{sym, ◌∙◌}
use Rattle.vm_table.proofs.Stages.{no_care}
use Rattle.vm_table.proofs.run.Run.may_care.Goals as goal

pub returns : goal.returns
returns c = sym (no_care c.args.self.now.state c.args.care c.args.cpu (sym c.is_free.ensures ∙ c.if-is_free.false))
