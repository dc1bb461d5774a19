use Rattle.std.proofs.Common.{◌≡◌, length}
use Rattle.text_reader.specs.Line.{without_indent}
use Rattle.text_reader.proofs.line.without_indent.Given as goal

abbrev pub invariant-loop-rest : goal.invariant-loop-rest
invariant-loop-rest l = without_indent l.rest ≡ without_indent l.text

abbrev pub decreases-loop-rest : goal.decreases-loop-rest
decreases-loop-rest l = length l.rest
