use Rattle.vm_laws.proofs.Sounding.{no_state_is_stuck}
use Rattle.vm_laws.proofs.law.no_state_is_stuck.Goals as goal

pub returns : goal.returns
returns c = λ start history sound legal g. no_state_is_stuck start history sound legal g
