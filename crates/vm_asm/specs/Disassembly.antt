-- A code part as text: its instructions, and the single bytes at which none stands, as they are read one after the other.
use Rattle.std.specs.Prelude.{◌≡◌, ℕ, List, [], ◌∷◌, ◌++◌, length, drop, Result, Ok, Err, ⊤, codes}
use Rattle.std.specs.List.{flat_map}
use Rattle.vm_law.specs.declared.image.FlatImage.{FlatImage}
use Rattle.vm_law.specs.declared.insn.Insn.{Insn}
use Rattle.x86_decode.specs.declared.fault.DecodeFault.{DecodeFault}
use Rattle.x86_decode.specs.Reading.{decoded}
use Rattle.x86_encode.specs.Canonical.{IsCanonical}
use Rattle.vm_asm.specs.Assembly.{assembled}
use Rattle.asm_insn.specs.Printing.{hex_text, instruction_text}
use Rattle.asm_insn.specs.Spelling.{Speller, IsSpeller}
use Rattle.asm_insn.specs.Parts.{taken_apart}

pub data Piece : Type 0 where
  instruction : Insn → Piece
  byte : ℕ → Piece

-- no instruction stands there
abbrev pub IsUndecoded : Result (Insn × ℕ) DecodeFault → Type 0
IsUndecoded (Ok x) = ⊥
IsUndecoded (Err e) = ⊤

-- the piece that the code begins with, and how many bytes it is of
abbrev pub IsFirst : Piece → ℕ → List ℕ → Type 0
IsFirst (instruction i) n code = decoded code ≡ Ok (i, n)
IsFirst (byte b) n code = (n ≡ 1) × (code ≡ b ∷ drop 1 code) × IsUndecoded (decoded code)

-- the pieces that are read of the code one after the other
abbrev pub AreRead : List Piece → List ℕ → Type 0
AreRead [] code = code ≡ []
AreRead (p ∷ ps) code = (n : ℕ) × IsFirst p n code × AreRead ps (drop n code)

-- ---- their text

-- a line each
abbrev pub piece_text : Piece → List ℕ
piece_text (instruction i) = instruction_text (taken_apart i) ++ 10 ∷ []
piece_text (byte b) = codes ".byte " ++ (hex_text b ++ 10 ∷ [])

abbrev pub pieces_text : List Piece → List ℕ
pieces_text ps = flat_map piece_text ps

-- ---- what the text is assembled to

-- the canonical spelling of an instruction, or the single byte
abbrev pub IsSpelled : Piece → List ℕ → Type 0
IsSpelled (instruction i) bytes = IsCanonical i bytes
IsSpelled (byte b) bytes = bytes ≡ b ∷ []

-- the bytes so far with those of one piece more
abbrev pub AddsSpelled : Piece → List ℕ → List ℕ → Type 0
AddsSpelled p old new = (bytes : List ℕ) × IsSpelled p bytes × (new ≡ old ++ bytes)

-- the bytes of the pieces one after the other
abbrev pub AreSpelled : List Piece → List ℕ → Type 0
AreSpelled [] out = out ≡ []
AreSpelled (p ∷ ps) out = (bytes : List ℕ) × (more : List ℕ) × IsSpelled p bytes × AreSpelled ps more × (out ≡ bytes ++ more)

-- the image of these bytes, all of them code, which is entered at its begin
abbrev pub code_alone : List ℕ → FlatImage
code_alone bytes = record { entry = 0; code = length bytes; payload = bytes }

abbrev pub IsAssembledTo : List ℕ → List ℕ → Type 0
IsAssembledTo text out = (spell : Speller) → IsSpeller spell → assembled spell text ≡ Ok (code_alone out)

-- the text has a line for each piece that is read of the code, and is assembled to the pieces' bytes
abbrev pub IsDisassembly : List ℕ → List ℕ → Type 0
IsDisassembly code text = (ps : List Piece) × (out : List ℕ) × AreRead ps code × AreSpelled ps out × (text ≡ pieces_text ps) × IsAssembledTo text out
