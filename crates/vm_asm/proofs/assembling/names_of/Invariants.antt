use Rattle.std.proofs.Common.{◌≡◌, ◌≤◌, ◌+◌, ◌-◌, length}
use Rattle.text_reader.specs.Line.{lines_after, left}
use Rattle.text_reader.specs.Word.{texts}
use Rattle.vm_asm.specs.Layout.{names_after, names_of}
use Rattle.vm_asm.proofs.assembling.names_of.Given as goal

abbrev pub invariant-loop-rest : goal.invariant-loop-rest
invariant-loop-rest l = record {
  told : names_after (texts l.names.items) (lines_after l.rest) ≡ names_of l.fn.text;
  few : length l.names.items + (left l.rest - 1) ≤ length l.fn.text;
}

abbrev pub decreases-loop-rest : goal.decreases-loop-rest
decreases-loop-rest l = left l.rest
