use Rattle.std.proofs.Common.{◌≡◌, ◌≤◌, length}
use Rattle.vm_ioapic.specs.Pin as spec
use Rattle.vm_ioapic.proofs.Loops.{MappedSoFar, GivenSoFar}
use Rattle.vm_ioapic.proofs.ioapic.Ioapic.eoi.Given as goal

abbrev pub invariant-loop-pin : goal.invariant-loop-pin
invariant-loop-pin l = record {
  pins : MappedSoFar (spec.after_eoi l.vector) l.fn.self.pins l.pin-items l.pin-index;
  messages : GivenSoFar (spec.eoi_message l.vector) l.fn.self.pins l.pin-items l.messages l.pin-index;
  long : length l.pin-items ≡ 32;
  few : length l.messages ≤ l.pin-index;
}
