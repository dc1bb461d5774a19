use Rattle.std.proofs.Common.{◌≡◌, ◌==◌, ◌++◌, drop}
use Rattle.std.specs.List.{flat_map}
use Rattle.text_reader.specs.Word.{texts, words_by}
use Rattle.text_reader.proofs.word.parted.Given as goal

abbrev pub invariant-loop-part : goal.invariant-loop-part
invariant-loop-part l = texts l.words.items ++ flat_map (words_by (λ b. b == 9)) (texts (drop l.part-index l.parts)) ≡ flat_map (words_by (λ b. b == 9)) (texts l.parts)
