use Rattle.vm_laws.proofs.Going.{goes_on}
use Rattle.vm_laws.proofs.law.sound_states_go_on.Goals as goal

pub returns : goal.returns
returns c = λ s h g. goes_on s h g
