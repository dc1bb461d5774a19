use Rattle.vm_rounds.proofs.Returning.{rounds_orderly}
use Rattle.vm_rounds.proofs.law.rounds_are_orderly.Goals as goal

pub returns : goal.returns
returns c = λ start calls n sound. rounds_orderly start calls n sound
