use Rattle.std.proofs.Common.{◌≡◌, ◌≤◌, ◌+◌, ◌-◌, length}
use Rattle.indexmap.specs.IndexMap.{index_map_len}
use Rattle.text_reader.specs.Line.{read_lines, lines_after, left}
use Rattle.cfg_text.specs.Lines.{read_written, line_step, variables_of}
use Rattle.cfg_text.proofs.reading.written.Given as goal

abbrev pub invariant-loop-rest : goal.invariant-loop-rest
invariant-loop-rest l = record {
  told : read_lines line_step l.number (variables_of l.variables.entries) (lines_after l.rest) ≡ read_written l.bytes;
  small : l.number + left l.rest ≤ length l.bytes + 2;
  few : index_map_len l.variables + (left l.rest - 1) ≤ length l.bytes;
}

abbrev pub decreases-loop-rest : goal.decreases-loop-rest
decreases-loop-rest l = left l.rest
