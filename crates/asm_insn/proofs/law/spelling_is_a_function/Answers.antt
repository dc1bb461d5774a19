use Rattle.asm_insn.proofs.Speller.{speller_law}
use Rattle.asm_insn.proofs.law.spelling_is_a_function.Goals as goal

pub returns : goal.returns
returns c = speller_law
