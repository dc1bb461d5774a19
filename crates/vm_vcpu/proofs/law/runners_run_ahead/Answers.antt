use Rattle.vm_vcpu.proofs.Beginning.{ahead}
use Rattle.vm_vcpu.proofs.law.runners_run_ahead.Goals as goal

pub returns : goal.returns
returns c = ahead
