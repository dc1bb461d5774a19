use Rattle.std.proofs.Common.{◌≡◌, ◌≤◌, ◌+◌, length}
use Rattle.text_reader.specs.Line.{lines, lines_after, left, read_lines}
use Rattle.text_reader.specs.Word.{texts}
use Rattle.vm_asm.specs.Layout.{laid_of, nothing_laid, line_step, IsSound}
use Rattle.asm_insn.specs.Spelling.{Speller, IsSpeller}
use Rattle.vm_asm.proofs.assembling.laid.Given as goal

abbrev pub invariant-loop-rest : goal.invariant-loop-rest
invariant-loop-rest l = record {
  told : (spell : Speller) → IsSpeller spell
      → read_lines (line_step spell (texts l.names)) l.number (laid_of l.layout) (lines_after l.rest)
      ≡ read_lines (line_step spell (texts l.names)) 1 (nothing_laid (texts l.names)) (lines l.fn.text);
  few : l.number + left l.rest ≤ length l.fn.text + 2;
  sound : IsSound (laid_of l.layout);
}

abbrev pub decreases-loop-rest : goal.decreases-loop-rest
decreases-loop-rest l = left l.rest
