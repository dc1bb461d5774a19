use Rattle.ctl_script.proofs.Reread.{reads_as_itself}
use Rattle.ctl_script.proofs.law.a_print_reads_as_itself.Goals as goal

pub returns : goal.returns
returns c = reads_as_itself
