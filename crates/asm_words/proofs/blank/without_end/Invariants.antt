use Rattle.std.proofs.Common.{◌≡◌, length}
use Rattle.std.specs.Str.{IsUtf8}
use Rattle.asm_words.specs.Blank.{without_end}
use Rattle.asm_words.proofs.blank.without_end.Given as goal

abbrev pub invariant-loop-front : goal.invariant-loop-front
invariant-loop-front l = record { told : without_end l.rest ≡ without_end l.text; text : IsUtf8 l.rest }

abbrev pub decreases-loop-front : goal.decreases-loop-front
decreases-loop-front l = length l.rest
