use Rattle.std.proofs.Common.{◌∙◌}
use Rattle.vm_start.proofs.Named.{any_lent}
use Rattle.vm_start.proofs.names.is_among.Goals as goal

pub returns : goal.returns
returns c = c.has_name.ensures ∙ any_lent c.args.name.now c.args.names.now
