use Rattle.std.proofs.Common.{sym, subst}
use Rattle.vm_ioapic.specs.Pin.{IsPin}
use Rattle.vm_ioapic.proofs.Sound.{chip_set, lowered_ok, read_ok}
use Rattle.vm_ioapic.proofs.ioapic.Ioapic.lower.Goals as goal

pub invariant_of-self : goal.invariant_of-self
invariant_of-self c = chip_set _ _ _ _ _ c.self.invariant (subst IsPin (sym c.lower.ensures) (lowered_ok _ (read_ok _ _ c.self.invariant.each)))
