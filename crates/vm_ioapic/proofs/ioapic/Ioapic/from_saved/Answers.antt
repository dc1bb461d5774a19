use Rattle.vm_ioapic.proofs.Stored.{chip_ok, state_back}
use Rattle.vm_ioapic.proofs.ioapic.Ioapic.from_saved.Goals as goal

pub invariant_of-result : goal.invariant_of-result
invariant_of-result c = chip_ok c.args.state.now c.pins.result c.requires c.pins.ensures.pins

pub returns-clause-whole : goal.returns-clause-whole
returns-clause-whole c = state_back c.args.state.now c.pins.result c.requires c.pins.ensures.pins c.pins.ensures.long c.pins.ensures.counts c.pins.ensures.words
