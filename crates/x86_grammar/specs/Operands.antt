-- The parts behind the opcode: how long they are, and which operands they are. Where a part is absent or has a length
-- without a meaning, there is none.
-- Source: Intel SDM volume 2, sections 2.1.3 to 2.1.5, 2.2.1 and 3.1.1, and appendix A.2.
use Rattle.std.specs.Prelude.{ℕ, ◌-◌, ◌%◌, ◌^◌, ℤ, pos, Bool, true, false, ◌&&◌, nat_lt, ◌==◌, Option, Some, None, List, [], ◌∷◌, if◌then◌else◌}
use Rattle.std.specs.Option.{option_map}
use Rattle.std.specs.Int.{w8, w16, w32, w64, cast_signed, from_le_bytes}
use Rattle.x86_grammar.specs.declared.head.Prefixes.{Prefixes}
use Rattle.x86_grammar.specs.declared.head.Rex.{Rex}
use Rattle.x86_grammar.specs.declared.head.Head.{Head}
use Rattle.vm_law.specs.declared.insn.Width.{Width}
use Rattle.vm_law.specs.declared.insn.Width.TheVariants as width
use Rattle.vm_law.specs.declared.insn.Mem.{Mem}
use Rattle.vm_law.specs.declared.insn.Loc.{Loc}
use Rattle.vm_law.specs.declared.insn.Loc.TheVariants as loc
use Rattle.x86_grammar.specs.declared.operands.Immediate.{Immediate}
use Rattle.x86_grammar.specs.declared.operands.Immediate.TheVariants.{Imm8, Imm16, Imm32, Imm64}
use Rattle.x86_grammar.specs.declared.operands.Operands.{Operands}
use Rattle.x86_grammar.specs.declared.operands.Operands.TheVariants as operands
use Rattle.x86_grammar.specs.declared.table.Class.{Class}
use Rattle.x86_grammar.specs.declared.table.Class.TheVariants as class
use Rattle.x86_grammar.specs.declared.table.Imm.{Imm}
use Rattle.x86_grammar.specs.declared.table.Imm.TheVariants as imm
use Rattle.x86_grammar.specs.declared.table.Form.{Form}
use Rattle.x86_grammar.specs.declared.table.Form.TheVariants as form
use Rattle.x86_grammar.specs.declared.table.Row.{Row}
use Rattle.x86_grammar.specs.Fields.{modrm_mod, modrm_reg, modrm_rm, names_register, names_memory, sib_scale, sib_index, sib_base, rex_w, rex_r, rex_x, rex_b, extended}

-- ---- the operand size, section 2.2.1.2

abbrev pub word_or_doubleword : Bool → Width
word_or_doubleword true = width.W
word_or_doubleword false = width.D

-- by REX.W and 66; the letters of the classes are those of appendix A.2.2
unfoldable pub width_of : Class → Prefixes → Option Rex → Width
width_of class.B p rex = width.B
width_of class.V p rex = if rex_w rex then width.Q else word_or_doubleword p.size
width_of class.W p rex = word_or_doubleword p.size
width_of class.Q p rex = width.Q
width_of class.N p rex = width.Q
width_of class.L p rex = if rex_w rex then width.Q else width.D

-- ---- how many bytes a part has

-- a SIB byte stands where the operand is in memory and rm is 4. Source: table 2-2, note 1
abbrev pub sib_len : List ℕ → ℕ
sib_len [] = 0
sib_len (m ∷ ms) = if names_memory m && (modrm_rm m == 4) then 1 else 0

-- the field that names the base: SIB's, or rm
abbrev pub base_field : ℕ → List ℕ → ℕ
base_field m [] = modrm_rm m
base_field m (s ∷ ss) = sib_base s

-- in this field, 5 names no base at mod 0. Source: table 2-2, note 2, and table 2-3, note 1
abbrev pub lacks_base : ℕ → ℕ → Bool
lacks_base m field = (modrm_mod m == 0) && (field == 5)

-- the displacement: disp8 at mod 1, disp32 at mod 2 and in place of a base. Source: table 2-2
unfoldable pub disp_len : List ℕ → List ℕ → ℕ
disp_len [] sib = 0
disp_len (m ∷ ms) sib =
    if modrm_mod m == 1 then 1
    else (if modrm_mod m == 2 then 4
    else (if lacks_base m (base_field m sib) then 4 else 0))

-- the immediate; the letters are those of appendix A.2.2
unfoldable pub imm_len : Imm → Width → ℕ
imm_len imm.None w = 0
imm_len imm.B w = 1
imm_len imm.W w = 2
imm_len imm.D w = 4
imm_len imm.Z width.B = 4
imm_len imm.Z width.W = 2
imm_len imm.Z width.D = 4
imm_len imm.Z width.Q = 4
imm_len imm.V width.B = 1
imm_len imm.V width.W = 2
imm_len imm.V width.D = 4
imm_len imm.V width.Q = 8

-- ---- registers and places in memory

-- going on, where there is something
infixl 10 ◌>>=◌
abbrev pub ◌>>=◌ : {A B : Type 0} → Option A → (A → Option B) → Option B
None >>= f = None
(Some x) >>= f = f x

-- a register by its number: the byte registers 4 to 7 without REX are AH, CH, DH and BH. Source: table 3-1
unfoldable pub general_register : Width → Option Rex → ℕ → Loc
general_register width.B None n = if nat_lt n 4 then loc.Reg n else loc.High (n - 4)
general_register width.B (Some r) n = loc.Reg n
general_register width.W rex n = loc.Reg n
general_register width.D rex n = loc.Reg n
general_register width.Q rex n = loc.Reg n

-- disp8 or disp32 with its sign, and 0 where there is none
unfoldable pub displacement : List ℕ → Option ℤ
displacement [] = Some (pos 0)
displacement (a ∷ []) = Some (cast_signed w8 a)
displacement (a ∷ b ∷ c ∷ d ∷ []) = Some (cast_signed w32 (from_le_bytes w32 (a ∷ b ∷ c ∷ d ∷ [])))
displacement _ = None

-- SIB's base
abbrev pub base_of : ℕ → ℕ → Option Rex → Option ℕ
base_of m s rex = if lacks_base m (sib_base s) then None else Some (extended (rex_b rex) (sib_base s))

-- the factor of SIB's index: 1, 2, 4 or 8
unfoldable pub scale_of : ℕ → ℕ
scale_of s = 2 ^ sib_scale s

-- SIB's index and its factor: index 4 is none. Source: table 2-3
abbrev pub index_of : ℕ → Option Rex → Option ℕ × ℕ
index_of s rex =
    if extended (rex_x rex) (sib_index s) == 4 then (None, 1)
    else (Some (extended (rex_x rex) (sib_index s)), scale_of s)

-- The place in memory. Without a base and a SIB byte the displacement counts from RIP on. Source: section 2.2.1.6
unfoldable pub address : ℕ → Option Rex → List ℕ → ℤ → Option Mem
address m rex [] d =
    if lacks_base m (modrm_rm m) then Some (record { base = None; index = None; scale = 1; disp = d; rip = true })
    else Some (record { base = Some (extended (rex_b rex) (modrm_rm m)); index = None; scale = 1; disp = d; rip = false })
address m rex (s ∷ []) d = Some (record { base = base_of m s rex; index = (index_of s rex).0; scale = (index_of s rex).1; disp = d; rip = false })
address m rex (s ∷ t ∷ ss) d = None

-- the operand that mod and rm name, E in appendix A.2.1
unfoldable pub rm_operand : Width → Option Rex → List ℕ → List ℕ → List ℕ → Option Loc
rm_operand w rex [] sib disp = None
rm_operand w rex (m ∷ []) sib disp =
    if names_register m then Some (general_register w rex (extended (rex_b rex) (modrm_rm m)))
    else option_map (λ mem. loc.Mem mem) (displacement disp >>= λ d. address m rex sib d)
rm_operand w rex (m ∷ n ∷ ms) sib disp = None

-- the register that reg names, G in appendix A.2.1
unfoldable pub reg_operand : Width → Option Rex → List ℕ → Option Loc
reg_operand w rex [] = None
reg_operand w rex (m ∷ []) = Some (general_register w rex (extended (rex_r rex) (modrm_reg m)))
reg_operand w rex (m ∷ n ∷ ms) = None

-- the register that the low three bits of the opcode name, +r in section 3.1.1.1
unfoldable pub opcode_operand : Width → Option Rex → ℕ → Loc
opcode_operand w rex byte = general_register w rex (extended (rex_b rex) (byte % 8))

-- AL, AX, EAX or RAX
abbrev pub accumulator : Loc
accumulator = loc.Reg 0

-- ---- immediates

-- imm8 to imm64, the low byte first
unfoldable pub immediate : List ℕ → Option Immediate
immediate (a ∷ []) = Some (Imm8 a)
immediate (a ∷ b ∷ []) = Some (Imm16 (from_le_bytes w16 (a ∷ b ∷ [])))
immediate (a ∷ b ∷ c ∷ d ∷ []) = Some (Imm32 (from_le_bytes w32 (a ∷ b ∷ c ∷ d ∷ [])))
immediate (a ∷ b ∷ c ∷ d ∷ e ∷ f ∷ g ∷ h ∷ []) = Some (Imm64 (from_le_bytes w64 (a ∷ b ∷ c ∷ d ∷ e ∷ f ∷ g ∷ h ∷ [])))
immediate _ = None

-- with its sign
unfoldable pub signed : Immediate → ℤ
signed (Imm8 n) = cast_signed w8 n
signed (Imm16 n) = cast_signed w16 n
signed (Imm32 n) = cast_signed w32 n
signed (Imm64 n) = cast_signed w64 n

-- the same of at most 32 bits
unfoldable pub signed32 : Immediate → Option ℤ
signed32 (Imm8 n) = Some (cast_signed w8 n)
signed32 (Imm16 n) = Some (cast_signed w16 n)
signed32 (Imm32 n) = Some (cast_signed w32 n)
signed32 (Imm64 n) = None

-- one byte without a sign
abbrev pub unsigned8 : Immediate → Option ℕ
unsigned8 (Imm8 n) = Some n
unsigned8 (Imm16 n) = None
unsigned8 (Imm32 n) = None
unsigned8 (Imm64 n) = None

-- two bytes without a sign
abbrev pub unsigned16 : Immediate → Option ℕ
unsigned16 (Imm8 n) = None
unsigned16 (Imm16 n) = Some n
unsigned16 (Imm32 n) = None
unsigned16 (Imm64 n) = None

-- ---- the operands of a form

abbrev pub place : Option Loc → Option Operands
place a = option_map (λ l. operands.Place l) a

abbrev pub places : Option Loc → Option Loc → Option Operands
places a b = a >>= λ l. b >>= λ k. Some (operands.Places l k)

abbrev pub immediate_alone : Option Immediate → Option Operands
immediate_alone i = option_map (λ n. operands.Immediate n) i

abbrev pub place_and_immediate : Option Loc → Option Immediate → Option Operands
place_and_immediate a i = a >>= λ l. i >>= λ n. Some (operands.PlaceAndImmediate l n)

abbrev pub places_and_immediate : Option Loc → Option Loc → Option Immediate → Option Operands
places_and_immediate a b i = a >>= λ l. b >>= λ k. i >>= λ n. Some (operands.PlacesAndImmediate l k n)

-- of the operands that rm, reg, the opcode and the immediate name, those of the form in their order
unfoldable pub operands_of : Form → Option Loc → Option Loc → Loc → Option Immediate → Option Operands
operands_of form.EG rm reg opcode i = places rm reg
operands_of form.GE rm reg opcode i = places reg rm
operands_of form.EI rm reg opcode i = place_and_immediate rm i
operands_of form.GEI rm reg opcode i = places_and_immediate reg rm i
operands_of form.E rm reg opcode i = place rm
operands_of form.AI rm reg opcode i = place_and_immediate (Some accumulator) i
operands_of form.OI rm reg opcode i = place_and_immediate (Some opcode) i
operands_of form.OA rm reg opcode i = places (Some opcode) (Some accumulator)
operands_of form.O rm reg opcode i = place (Some opcode)
operands_of form.I rm reg opcode i = immediate_alone i
operands_of form.Z rm reg opcode i = Some operands.None

-- the operands of a row; those that mod and rm name have a width of their own
unfoldable pub row_operands : Row → Width → Width → Head → List ℕ → List ℕ → List ℕ → List ℕ → Option Operands
row_operands row w rm_w h modrm sib disp imm = operands_of row.form (rm_operand rm_w h.rex modrm sib disp) (reg_operand w h.rex modrm) (opcode_operand w h.rex h.byte) (immediate imm)
