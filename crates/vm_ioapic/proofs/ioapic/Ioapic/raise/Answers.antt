use Rattle.std.proofs.Common.{sym, subst}
use Rattle.vm_ioapic.specs.Pin.{IsPin}
use Rattle.vm_ioapic.proofs.Sound.{chip_set, raised_ok, read_ok}
use Rattle.vm_ioapic.proofs.ioapic.Ioapic.raise.Goals as goal

pub invariant_of-self : goal.invariant_of-self
invariant_of-self c = chip_set _ _ _ _ _ c.self.invariant (subst IsPin (sym c.raise.ensures.after) (raised_ok _ (read_ok _ _ c.self.invariant.each)))
