use Rattle.vm_vcpu.proofs.Standing.{others_keep}
use Rattle.vm_vcpu.proofs.law.others_keep_runners.Goals as goal

pub returns : goal.returns
returns c = others_keep
