use Rattle.std.proofs.Common.{◌≡◌}
use Rattle.vm_irq.specs.Destination as spec
use Rattle.vm_irq.proofs.destination.targets.Given as goal

abbrev pub invariant-loop-cpu : goal.invariant-loop-cpu
invariant-loop-cpu l = l.set ≡ spec.targets_of l.message l.cpu
