-- What the definitions mean to each other.
use Rattle.asm_insn.specs.Spelling.{Speller, IsSpeller}

-- there is a speller, and so the clauses that speak of any say something
abbrev pub SpellerLaw : Type 0
SpellerLaw = (spell : Speller) × IsSpeller spell
