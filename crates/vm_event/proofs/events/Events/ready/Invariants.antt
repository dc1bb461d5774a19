use Rattle.std.proofs.Common.{◌≡◌, ◌++◌, length, drop}
use Rattle.vm_event.specs.Events as spec
use Rattle.vm_event.proofs.events.Events.ready.Given as goal

abbrev pub invariant-loop-id : goal.invariant-loop-id
invariant-loop-id l =
    record {
      count : l.count ≡ length (spec.ready_below l.self l.raised l.id);
      front : l.out ≡ spec.ready_below l.self l.raised l.id ++ drop l.count l.fn.out;
    }
