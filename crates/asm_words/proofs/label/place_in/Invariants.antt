use Rattle.std.proofs.Common.{◌≡◌, drop}
use Rattle.text_reader.specs.Word.{texts}
use Rattle.asm_words.specs.Register.{place_from}
use Rattle.asm_words.proofs.label.place_in.Given as goal

abbrev pub invariant-loop-place : goal.invariant-loop-place
invariant-loop-place l = place_from l.place (texts (drop l.place l.names)) l.name ≡ place_from 0 (texts l.names) l.name
