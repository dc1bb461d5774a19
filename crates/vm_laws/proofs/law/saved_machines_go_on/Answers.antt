use Rattle.vm_laws.proofs.Cutting.{saved_goes_on}
use Rattle.vm_laws.proofs.law.saved_machines_go_on.Goals as goal

pub returns : goal.returns
returns c = λ start m e. saved_goes_on start m e
