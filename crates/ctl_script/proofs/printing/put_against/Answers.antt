use Rattle.std.proofs.Common.{◌∙◌, append_assoc}
use Rattle.ctl_script.proofs.printing.put_against.Goals as goal

pub returns : goal.returns
returns c = (c.in_ok-write.ensures {u = tt}).bytes ∙ simp append_assoc
