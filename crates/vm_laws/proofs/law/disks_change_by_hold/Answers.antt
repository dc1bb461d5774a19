use Rattle.vm_laws.proofs.Bytes.{by_hold_alone}
use Rattle.vm_laws.proofs.law.disks_change_by_hold.Goals as goal

pub returns : goal.returns
returns c = λ s x d m w. by_hold_alone s x d m w
