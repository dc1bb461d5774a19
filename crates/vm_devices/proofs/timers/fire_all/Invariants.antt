use Rattle.std.proofs.Common.{◌≡◌, length}
use Rattle.vm_devices.specs.Timers as spec
use Rattle.vm_devices.proofs.timers.fire_all.Given as goal

abbrev pub invariant-loop-i : goal.invariant-loop-i
invariant-loop-i l =
    record {
      count : l.count ≡ length l.fn.machine.state.cpus;
      so_far : l.machine ≡ record l.fn.machine { state = spec.fired_below l.fn.machine.state l.n l.i };
    }
