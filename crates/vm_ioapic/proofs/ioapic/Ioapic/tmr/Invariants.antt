use Rattle.std.proofs.Common.{◌≡◌, take}
use Rattle.vm_ioapic.specs.Ioapic.{vectors_of}
use Rattle.vm_ioapic.proofs.ioapic.Ioapic.tmr.Given as goal

abbrev pub invariant-loop-pin : goal.invariant-loop-pin
invariant-loop-pin l = l.vectors ≡ vectors_of (take l.pin-index l.pin-items) l.cpu l.cpus
