use Rattle.std.proofs.Common.{arith, refl}
use Rattle.vm_ioapic.proofs.Sound.{each_start}
use Rattle.vm_ioapic.proofs.ioapic.Ioapic.new.Goals as goal

pub invariant_of-result : goal.invariant_of-result
invariant_of-result c = record { id = omega arith; long = refl; each = each_start 32 }
