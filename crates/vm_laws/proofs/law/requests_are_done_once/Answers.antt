use Rattle.vm_laws.proofs.Doing.{done_once}
use Rattle.vm_laws.proofs.law.requests_are_done_once.Goals as goal

pub returns : goal.returns
returns c = λ start history d id sound legal. done_once start history d id sound legal
