use Rattle.std.proofs.Common.{◌≡◌}
use Rattle.vm_devices.proofs.Started.{started_below}
use Rattle.vm_devices.proofs.messages.started_cpus.Given as goal

abbrev pub invariant-loop-i : goal.invariant-loop-i
invariant-loop-i l = l.set ≡ started_below l.machine.state l.i
