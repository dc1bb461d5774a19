use Rattle.vm_vcpu.proofs.Beginning.{new_fit}
use Rattle.vm_vcpu.proofs.law.new_runners_fit.Goals as goal

pub returns : goal.returns
returns c = new_fit
