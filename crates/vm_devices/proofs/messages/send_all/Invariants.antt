use Rattle.std.proofs.Common.{◌≡◌, ◌≤◌, length, drop}
use Rattle.vm_devices.specs.Messages as spec
use Rattle.vm_devices.proofs.messages.send_all.Given as goal

abbrev pub invariant-loop-message : goal.invariant-loop-message
invariant-loop-message l =
    record {
      cpus : length l.machine.state.cpus ≤ 16;
      rest : record l.machine { state = spec.all_sent l.machine.state (drop l.message-index l.messages) } ≡ record l.fn.machine { state = spec.all_sent l.fn.machine.state l.messages };
    }
