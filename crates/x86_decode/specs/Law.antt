-- What decoding means, said of lists of bytes by the grammar of instructions alone.
use Rattle.std.specs.Prelude.{◌≡◌, ◌↔◌, ℕ, ◌≤◌, List, length, take, Ok, Err}
use Rattle.vm_law.specs.declared.insn.Insn.{Insn}
use Rattle.x86_grammar.specs.Grammar.{IsBytes, Spelled, IsPartial, IsUnknown}
use Rattle.x86_decode.specs.declared.fault.DecodeFault.TheVariants.{Short, Unknown}
use Rattle.x86_decode.specs.Reading.{decoded}

-- an instruction is decoded exactly where a front of the bytes spells it
abbrev pub FoundLaw : Type 0
FoundLaw =
    (bs : List ℕ) (insn : Insn) (n : ℕ) → IsBytes bs
    → (decoded bs ≡ Ok (insn, n)) ↔ ((n ≤ length bs) × Spelled (take n bs) insn)

-- the bytes are too short exactly where more bytes would make a spelling of them
abbrev pub ShortLaw : Type 0
ShortLaw = (bs : List ℕ) → IsBytes bs → (decoded bs ≡ Err Short) ↔ IsPartial bs

-- they are unknown exactly where no front of them is a spelling and they are no front of one
abbrev pub UnknownLaw : Type 0
UnknownLaw = (bs : List ℕ) → IsBytes bs → (decoded bs ≡ Err Unknown) ↔ IsUnknown bs
