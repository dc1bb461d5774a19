use Rattle.std.proofs.Common.{◌≡◌, length}
use Rattle.vm_devices.specs.Messages as spec
use Rattle.vm_devices.proofs.messages.send.Given as goal

abbrev pub invariant-loop-i : goal.invariant-loop-i
invariant-loop-i l =
    record {
      count : l.count ≡ length l.fn.machine.state.cpus;
      so_far : l.machine ≡ record l.fn.machine { state = spec.sent_below l.fn.machine.state l.message l.targets l.i };
    }
