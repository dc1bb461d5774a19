use Rattle.std.proofs.Common.{◌∙◌, arith}
use Rattle.vm_ioapic.proofs.Stored.{state_ok, chip_back}
use Rattle.vm_ioapic.proofs.ioapic.Ioapic.saved.Goals as goal

pub returns-clause-lawful : goal.returns-clause-lawful
returns-clause-lawful c = state_ok _ _ _ _ _ _ c.self.invariant (omega (arith, c.self.invariant.id)) c.words.ensures

pub returns-clause-whole : goal.returns-clause-whole
returns-clause-whole c = chip_back _ _ _ _ _ _ c.self.invariant (omega (arith, c.self.invariant.id)) c.words.ensures c.counts.ensures ∙ c.self.view_is
