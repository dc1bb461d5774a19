use Rattle.std.proofs.Common.{◌≡◌}
use Rattle.vm_devices.proofs.Live.{least_below}
use Rattle.vm_devices.proofs.timers.least_live.Given as goal

abbrev pub invariant-loop-i : goal.invariant-loop-i
invariant-loop-i l = l.least ≡ least_below l.machine.state l.i
