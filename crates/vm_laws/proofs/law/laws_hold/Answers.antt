use Rattle.vm_laws.proofs.Laws.{laws_hold}
use Rattle.vm_laws.proofs.law.laws_hold.Goals as goal

pub returns : goal.returns
returns c = λ start history sound legal. laws_hold start history sound legal
