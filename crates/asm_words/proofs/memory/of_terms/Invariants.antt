use Rattle.std.proofs.Common.{◌≡◌, drop}
use Rattle.text_reader.specs.Word.{texts}
use Rattle.asm_words.specs.Memory.{of_terms, nowhere}
use Rattle.asm_words.proofs.memory.of_terms.Given as goal

abbrev pub invariant-loop-part : goal.invariant-loop-part
invariant-loop-part l = of_terms (texts l.names) nowhere (texts l.parts) ≡ of_terms (texts l.names) l.begun (texts (drop l.part-index l.parts))
