use Rattle.vm_rounds.proofs.Returning.{rounds_legal}
use Rattle.vm_rounds.proofs.law.rounds_are_legal.Goals as goal

pub returns : goal.returns
returns c = λ start calls n sound. rounds_legal start calls n sound
