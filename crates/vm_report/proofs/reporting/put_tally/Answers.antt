use Rattle.std.proofs.Common.{◌∙◌, append_assoc}
use Rattle.vm_report.proofs.reporting.put_tally.Goals as goal

pub returns : goal.returns
returns c = (c.in_ok-write-2.ensures {u = tt}).bytes ∙ rw (c.in_ok-write.ensures {u = tt}).bytes (simp append_assoc)
