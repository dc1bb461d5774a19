use Rattle.vm_laws.proofs.Cutting.{cuts_rest}
use Rattle.vm_laws.proofs.law.cuts_are_at_rest.Goals as goal

pub returns : goal.returns
returns c = λ start history k m legal c. cuts_rest start history k m legal c
