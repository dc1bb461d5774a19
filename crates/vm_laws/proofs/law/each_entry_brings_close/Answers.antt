use Rattle.vm_laws.proofs.Closing.{closing}
use Rattle.vm_laws.proofs.law.each_entry_brings_close.Goals as goal

pub returns : goal.returns
returns c = λ s x h e m. closing s x h e m
