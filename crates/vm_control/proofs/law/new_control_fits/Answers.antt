use Rattle.vm_control.proofs.Growing.{new_fits}
use Rattle.vm_control.proofs.law.new_control_fits.Goals as goal

pub returns : goal.returns
returns c = new_fits
