use Rattle.vm_laws.proofs.Waiting.{others_ease}
use Rattle.vm_laws.proofs.law.others_leave_the_end.Goals as goal

pub returns : goal.returns
returns c = λ s x h l m. others_ease s x h l m
