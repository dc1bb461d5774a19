use Rattle.std.proofs.Common.{◌∙◌, sym, arith}
use Rattle.vm_ioapic.specs.declared.pin.Pin.{Pin}
use Rattle.vm_ioapic.proofs.Loops.{map_all}
use Rattle.vm_ioapic.proofs.saving.counts.Goals as goal

pub returns : goal.returns
returns c = map_all (λ (p : Pin). p.count) c.loop-n.count-items c.args.pins.now (c.loop-n-test.array_long ∙ sym c.told-pins) (λ k l. c.loop-n.invariant k (omega (arith, c.loop-n-test.array_long)))
