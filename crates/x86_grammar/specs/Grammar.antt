-- The grammar of instructions in 64-bit mode: which bytes spell which instruction.
-- A spelling is prefixes, REX byte, opcode, ModRM byte, SIB byte, displacement and immediate. That none has more
-- than 15 bytes follows.
-- Source: Intel SDM volume 2, sections 2.1 to 2.2.1.
use Rattle.std.specs.Prelude.{◌≡◌, ℕ, ◌<◌, true, Option, Some, None, List, [], ◌∷◌, ◌++◌, length, take, slice_index, Contains}
use Rattle.x86_grammar.specs.declared.head.Prefixes.{Prefixes}
use Rattle.x86_grammar.specs.declared.head.Rex.{Rex}
use Rattle.x86_grammar.specs.declared.head.Head.{Head}
use Rattle.vm_law.specs.declared.insn.Insn.{Insn}
use Rattle.x86_grammar.specs.declared.table.Map.{Map}
use Rattle.x86_grammar.specs.declared.table.Map.TheVariants.{One, Two}
use Rattle.x86_grammar.specs.declared.table.Row.{Row}
use Rattle.x86_grammar.specs.declared.table.TheConstants.{ROWS}
use Rattle.x86_grammar.specs.Rows.{no_prefix, add_prefix, is_rex, rex_of, fits}
use Rattle.x86_grammar.specs.Operands.{width_of, sib_len, disp_len, imm_len}
use Rattle.x86_grammar.specs.Meaning.{meaning}

-- each is a byte
abbrev pub IsBytes : List ℕ → Type 0
IsBytes bs = (i : ℕ) → slice_index bs i < 256

-- behind the prefixes p, the bytes are more prefixes, each at most once, which make q of them
abbrev pub ArePrefixes : Prefixes → List ℕ → Prefixes → Type 0
ArePrefixes p [] q = p ≡ q
ArePrefixes p (b ∷ bs) q = (m : Prefixes) × (add_prefix b p ≡ Some m) × ArePrefixes m bs q

-- no REX byte, or one
abbrev pub IsRex : Option Rex → List ℕ → Type 0
IsRex None bs = bs ≡ []
IsRex (Some r) bs = (b : ℕ) × (bs ≡ b ∷ []) × (is_rex b ≡ true) × (rex_of b ≡ r)

-- the opcode's byte, behind 0F in the second map
abbrev pub IsOpcode : Map → ℕ → List ℕ → Type 0
IsOpcode One byte bs = (bs ≡ byte ∷ [])
IsOpcode Two byte bs = (bs ≡ 15 ∷ byte ∷ [])

-- prefixes, REX and opcode
pub record IsHead (h : Head) (bs : List ℕ) : Type 0 where
  pub prefixes : List ℕ
  pub rex : List ℕ
  pub opcode : List ℕ
  pub parts : bs ≡ prefixes ++ (rex ++ opcode)
  pub are_prefixes : ArePrefixes no_prefix prefixes h.prefixes
  pub is_rex : IsRex h.rex rex
  pub is_opcode : IsOpcode h.map h.byte opcode

-- the bytes spell the instruction by a row of the table
pub record Spells (row : Row) (bs : List ℕ) (insn : Insn) : Type 0 where
  pub head : Head
  pub first : List ℕ
  pub modrm : List ℕ
  pub sib : List ℕ
  pub disp : List ℕ
  pub imm : List ℕ
  pub parts : bs ≡ first ++ (modrm ++ (sib ++ (disp ++ imm)))
  pub bytes : IsBytes modrm × IsBytes sib × IsBytes disp × IsBytes imm
  pub is_head : IsHead head first
  pub fits : fits row head modrm ≡ true
  pub sib_len : length sib ≡ sib_len modrm
  pub disp_len : length disp ≡ disp_len modrm sib
  pub imm_len : length imm ≡ imm_len row.imm (width_of row.class head.prefixes head.rex)
  pub value : meaning row head modrm sib disp imm ≡ Some insn

-- the bytes, all of them, are a spelling of the instruction
abbrev pub Spelled : List ℕ → Insn → Type 0
Spelled bs insn = (row : Row) × Contains ROWS row × Spells row bs insn

-- less than a whole spelling
abbrev pub IsPartial : List ℕ → Type 0
IsPartial bs = (more : List ℕ) × (insn : Insn) × (0 < length more) × Spelled (bs ++ more) insn

-- no front of the bytes is a spelling, and they are no front of one
pub record IsUnknown (bs : List ℕ) : Type 0 where
  pub no_front : (n : ℕ) (insn : Insn) → Spelled (take n bs) insn → ⊥
  pub no_partial : IsPartial bs → ⊥
