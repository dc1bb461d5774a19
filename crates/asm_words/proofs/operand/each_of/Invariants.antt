use Rattle.std.proofs.Common.{◌≡◌, ◌++◌, drop}
use Rattle.std.specs.Prelude.{option_map}
use Rattle.text_reader.specs.Word.{texts}
use Rattle.asm_words.specs.Operand.{each_of}
use Rattle.asm_words.proofs.operand.each_of.Given as goal

abbrev pub invariant-loop-part : goal.invariant-loop-part
invariant-loop-part l = each_of (texts l.names) (texts l.parts) ≡ option_map (λ more. l.operands.items ++ more) (each_of (texts l.names) (texts (drop l.part-index l.parts)))
