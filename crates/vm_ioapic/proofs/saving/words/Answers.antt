use Rattle.std.proofs.Common.{◌∙◌, sym, arith}
use Rattle.vm_ioapic.specs.Saved.{word_of}
use Rattle.vm_ioapic.proofs.Loops.{map_all}
use Rattle.vm_ioapic.proofs.saving.words.Goals as goal

pub returns : goal.returns
returns c = map_all word_of c.loop-n.word-items c.args.pins.now (c.loop-n-test.array_long ∙ sym c.told-pins) (λ k l. c.loop-n.invariant k (omega (arith, c.loop-n-test.array_long)))
