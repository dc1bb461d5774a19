use Rattle.vm_vblk.specs.Window.{LiesOver}
use Rattle.chip_tests.proofs.vm_vblk_calls.start.Given as goal

abbrev pub invariant-loop-offset : goal.invariant-loop-offset
invariant-loop-offset l = LiesOver (record { bytes = l.ram.bytes; code = 16 }) l.window
