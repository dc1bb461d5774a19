use Rattle.vm_control.proofs.Growing.{any_fits}
use Rattle.vm_control.proofs.law.entries_keep_control.Goals as goal

pub returns : goal.returns
returns c = any_fits
