-- Reading an instruction part by part, as functions on lists of bytes.
use Rattle.std.specs.Prelude.{◌≡◌, ℕ, ◌-◌, nat_lt, ◌==◌, Option, Some, None, Result, Ok, Err, List, [], ◌∷◌, length, take, drop, if◌then◌else◌}
use Rattle.x86_grammar.specs.declared.head.Prefixes.{Prefixes}
use Rattle.x86_grammar.specs.declared.head.Rex.{Rex}
use Rattle.x86_grammar.specs.declared.head.Head.{Head}
use Rattle.x86_decode.specs.declared.fault.DecodeFault.{DecodeFault}
use Rattle.x86_decode.specs.declared.fault.DecodeFault.TheVariants.{Short, Unknown}
use Rattle.x86_grammar.specs.declared.table.Map.TheVariants.{One, Two}
use Rattle.x86_grammar.specs.declared.table.Row.{Row}
use Rattle.vm_law.specs.declared.insn.Insn.{Insn}
use Rattle.x86_grammar.specs.Rows.{no_prefix, add_prefix, clashes, is_rex, rex_of, any_row, row_for}
use Rattle.x86_grammar.specs.Operands.{width_of, sib_len, disp_len, imm_len}
use Rattle.x86_grammar.specs.Meaning.{meaning}
use Rattle.byte_reader.specs.Reader.{Read, Reader, ◌>>=◌}

-- what a function returned is what reading gives
abbrev pub Gives : {X Y : Type 0} → (X → Y) → Result X DecodeFault → Result Y DecodeFault → Type 0
Gives view (Ok x) read = read ≡ Ok (view x)
Gives view (Err e) read = read ≡ Err e

-- so many bytes
abbrev pub chunk : ℕ → Reader DecodeFault (List ℕ)
chunk n bs = if nat_lt (length bs) n then Err Short else Ok (take n bs, drop n bs)

-- prefixes, as long as there is one that may be added
abbrev pub scan : Prefixes → List ℕ → Prefixes × List ℕ
scan p [] = (p, [])
scan p (b ∷ bs) = elim (add_prefix b p) [ None ↦ (p, b ∷ bs) | Some q ↦ scan q bs ]

-- a REX byte, if one stands there
abbrev pub rex_at : List ℕ → Option Rex × List ℕ
rex_at [] = (None, [])
rex_at (b ∷ bs) = if is_rex b then (Some (rex_of b), bs) else (None, b ∷ bs)

-- a head that some row has
abbrev pub known : Head → Reader DecodeFault Head
known h bs = if any_row h then Ok (h, bs) else Err Unknown

-- the opcode byte behind 0F
abbrev pub second_at : Prefixes → Option Rex → Reader DecodeFault Head
second_at p rex [] = Err Short
second_at p rex (b ∷ bs) = known (record { prefixes = p; rex = rex; map = Two; byte = b }) bs

-- the opcode
unfoldable pub opcode_at : Prefixes → Option Rex → Reader DecodeFault Head
opcode_at p rex [] = Err Short
opcode_at p rex (b ∷ bs) = if b == 15 then second_at p rex bs else known (record { prefixes = p; rex = rex; map = One; byte = b }) bs

-- prefixes, REX byte and opcode
unfoldable pub head_at : Reader DecodeFault Head
head_at bs =
    let s = scan no_prefix bs in
    let r = rex_at s.1 in
    if clashes s.0 then Err Unknown else opcode_at s.0 r.0 r.1

-- the row, with the ModRM byte where it has one
abbrev pub row_found : Option Row → List ℕ → Reader DecodeFault (Row × List ℕ)
row_found None ms bs = Err Unknown
row_found (Some row) ms bs = Ok ((row, ms), bs)

-- the row by the ModRM byte
abbrev pub modrm_at : Head → Reader DecodeFault (Row × List ℕ)
modrm_at h [] = Err Short
modrm_at h (m ∷ bs) = row_found (row_for h (m ∷ [])) (m ∷ []) bs

-- the row without a ModRM byte, or else by one
abbrev pub row_or : Option Row → Head → Reader DecodeFault (Row × List ℕ)
row_or None h bs = modrm_at h bs
row_or (Some row) h bs = Ok ((row, []), bs)

-- the row of an opcode
unfoldable pub row_at : Head → Reader DecodeFault (Row × List ℕ)
row_at h bs = row_or (row_for h []) h bs

-- an instruction that the parts mean
abbrev pub meant : Option Insn → Reader DecodeFault Insn
meant None bs = Err Unknown
meant (Some insn) bs = Ok (insn, bs)

-- what stands behind a row's ModRM byte
unfoldable pub tail_at : Head → Row → List ℕ → Reader DecodeFault Insn
tail_at h row modrm = do
  sib ← chunk (sib_len modrm)
  disp ← chunk (disp_len modrm sib)
  imm ← chunk (imm_len row.imm (width_of row.class h.prefixes h.rex))
  meant (meaning row h modrm sib disp imm)

-- an instruction
unfoldable pub insn_at : Reader DecodeFault Insn
insn_at = do
  h ← head_at
  r ← row_at h
  tail_at h r.0 r.1

-- the instruction, and how many bytes it took
abbrev pub sized : List ℕ → Read DecodeFault Insn → Result (Insn × ℕ) DecodeFault
sized bs (Ok x) = Ok (x.0, length bs - length x.1)
sized bs (Err e) = Err e

-- what the bytes decode as
unfoldable pub decoded : List ℕ → Result (Insn × ℕ) DecodeFault
decoded bs = sized bs (insn_at bs)
