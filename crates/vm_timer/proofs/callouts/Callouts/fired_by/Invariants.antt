use Rattle.vm_timer.proofs.Orders.{AreFiredBelow}
use Rattle.vm_timer.proofs.callouts.Callouts.fired_by.Given as goal

abbrev pub invariant-loop-cpu : goal.invariant-loop-cpu
invariant-loop-cpu l = AreFiredBelow l.self l.n l.cpu l.fired
