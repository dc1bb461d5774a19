use Rattle.std.proofs.Common.{◌≡◌, length}
use Rattle.std.specs.Str.{IsUtf8}
use Rattle.text_reader.specs.Line.{without_indent}
use Rattle.asm_words.proofs.blank.without_front.Given as goal

abbrev pub invariant-loop-after : goal.invariant-loop-after
invariant-loop-after l = record { told : without_indent l.rest ≡ without_indent l.text; text : IsUtf8 l.rest }

abbrev pub decreases-loop-after : goal.decreases-loop-after
decreases-loop-after l = length l.rest
