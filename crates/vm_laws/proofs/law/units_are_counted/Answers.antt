use Rattle.vm_laws.proofs.Counted.{units_counted}
use Rattle.vm_laws.proofs.law.units_are_counted.Goals as goal

pub returns : goal.returns
returns c = λ start history d id sound legal g. units_counted start history d id sound legal g
