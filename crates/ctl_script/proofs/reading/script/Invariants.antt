use Rattle.std.proofs.Common.{◌≡◌, ◌≤◌, ◌+◌, length, []}
use Rattle.text_reader.specs.Line.{lines, lines_after, left, read_lines}
use Rattle.ctl_script.specs.Script.{line_step}
use Rattle.ctl_script.specs.Answers.{Tells}
use Rattle.ctl_script.proofs.reading.script.Given as goal

abbrev pub invariant-loop-rest : goal.invariant-loop-rest
invariant-loop-rest l = record {
  told : read_lines (line_step l.plan) l.number l.so_far.orders.items (lines_after l.rest) ≡ read_lines (line_step l.plan) 1 [] (lines l.bytes);
  counts : Tells l.so_far;
  few : l.number + left l.rest ≤ length l.bytes + 2;
}

abbrev pub decreases-loop-rest : goal.decreases-loop-rest
decreases-loop-rest l = left l.rest
