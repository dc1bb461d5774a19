use Rattle.std.proofs.Common.{sym, subst}
use Rattle.vm_ioapic.specs.Pin.{IsPin}
use Rattle.vm_ioapic.proofs.Sound.{chip_set, low_ok, high_ok, read_ok}
use Rattle.vm_ioapic.proofs.ioapic.Ioapic.write.Goals as goal

pub invariant_of-self-in-Low : goal.invariant_of-self-in-Low
invariant_of-self-in-Low c = chip_set _ _ _ _ _ c.self.invariant (subst IsPin (sym c.change.ensures.after) (low_ok _ _ _ (read_ok _ _ c.self.invariant.each) c.with_low-entry.ensures))

pub invariant_of-self-in-High : goal.invariant_of-self-in-High
invariant_of-self-in-High c = chip_set _ _ _ _ _ c.self.invariant (subst IsPin (sym c.change-in-High.ensures.after) (high_ok _ _ _ (read_ok _ _ c.self.invariant.each) c.with_high-entry.ensures))
