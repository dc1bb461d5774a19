use Rattle.vm_laws.proofs.Balance.{balanced}
use Rattle.vm_laws.proofs.law.vectors_balance.Goals as goal

pub returns : goal.returns
returns c = λ start history i v h. balanced start history i v h
