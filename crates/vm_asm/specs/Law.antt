-- What comes back of code that is taken apart and assembled again.
use Rattle.std.specs.Prelude.{ℕ, List}
use Rattle.vm_asm.specs.Disassembly.{Piece, AreRead, AreSpelled, IsAssembledTo, IsDisassembly}

-- each instruction that is read of the code stands there as its canonical spelling
abbrev pub IsCanonicalCode : List ℕ → Type 0
IsCanonicalCode code = (ps : List Piece) × AreRead ps code × AreSpelled ps code

-- a disassembly of such code is assembled to the code, byte for byte
abbrev pub ComesBackLaw : Type 0
ComesBackLaw = (code text : List ℕ) → IsCanonicalCode code → IsDisassembly code text → IsAssembledTo text code
