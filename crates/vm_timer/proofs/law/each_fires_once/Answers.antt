use Rattle.vm_timer.proofs.Orders.{fired_once}
use Rattle.vm_timer.proofs.law.each_fires_once.Goals as goal

pub returns : goal.returns
returns c = fired_once
