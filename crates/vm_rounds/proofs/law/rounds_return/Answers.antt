use Rattle.vm_rounds.proofs.Returning.{rounds_return}
use Rattle.vm_rounds.proofs.law.rounds_return.Goals as goal

pub returns : goal.returns
returns c = λ start calls sound. rounds_return start calls sound
