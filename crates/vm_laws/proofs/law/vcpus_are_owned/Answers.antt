use Rattle.vm_laws.proofs.Owning.{after_keeps}
use Rattle.vm_laws.proofs.law.vcpus_are_owned.Goals as goal

pub returns : goal.returns
returns c = λ s x i p m h ne. after_keeps s x i p m h ne
