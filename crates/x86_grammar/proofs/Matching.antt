-- The parts of each row fit together, so that what fits a row means an instruction.
use Rattle.std.proofs.Common.{◌≡◌, ℕ, zero, suc, ◌+◌, ◌-◌, ◌/◌, ◌%◌, ◌<◌, ◌≤◌, Bool, true, false, cond, List, [], ◌∷◌, length, Option, Some, None, refl, sym, ap, subst, ◌∙◌, arith, ◌⊎◌, inl, inr}
use Rattle.std.specs.Prelude.{ℤ, not, ◌&&◌, ◌||◌, nat_lt, ◌==◌, Contains, slice_get}
use Rattle.std.specs.List.{list_all}
use Rattle.std.specs.Option.{is_some, option_map}
use Rattle.std.proofs.lemmas.Bool.{cases_Bool, and_parts, not-true}
use Rattle.x86_grammar.specs.declared.head.Rex.{Rex}
use Rattle.x86_grammar.specs.declared.head.Head.{Head}
use Rattle.x86_grammar.specs.declared.head.Prefixes.{Prefixes}
use Rattle.vm_law.specs.declared.insn.Width.{Width}
use Rattle.vm_law.specs.declared.insn.Width.TheVariants as width
use Rattle.vm_law.specs.declared.insn.Mem.{Mem}
use Rattle.vm_law.specs.declared.insn.Loc.{Loc}
use Rattle.vm_law.specs.declared.insn.Loc.TheVariants as loc
use Rattle.vm_law.specs.declared.insn.Condition.{Condition}
use Rattle.vm_law.specs.declared.insn.Op.{Op}
use Rattle.vm_law.specs.declared.insn.Insn.{Insn}
use Rattle.x86_grammar.specs.declared.operands.Immediate.{Immediate}
use Rattle.x86_grammar.specs.declared.operands.Immediate.TheVariants.{Imm8, Imm16, Imm32, Imm64}
use Rattle.x86_grammar.specs.declared.operands.Operands.{Operands}
use Rattle.x86_grammar.specs.declared.operands.Operands.TheVariants as operands
use Rattle.x86_grammar.specs.declared.condition.TheConstants.{CONDITIONS}
use Rattle.x86_grammar.specs.declared.table.Class.{Class}
use Rattle.x86_grammar.specs.declared.table.Class.TheVariants as class
use Rattle.x86_grammar.specs.declared.table.Imm.{Imm}
use Rattle.x86_grammar.specs.declared.table.Imm.TheVariants as imm
use Rattle.x86_grammar.specs.declared.table.Form.{Form}
use Rattle.x86_grammar.specs.declared.table.Form.TheVariants as form
use Rattle.x86_grammar.specs.declared.table.Side.{Side}
use Rattle.x86_grammar.specs.declared.table.Side.TheVariants as side
use Rattle.x86_grammar.specs.declared.table.Slash.{Slash}
use Rattle.x86_grammar.specs.declared.table.Slash.TheVariants as slash
use Rattle.x86_grammar.specs.declared.table.OpKind.{OpKind}
use Rattle.x86_grammar.specs.declared.table.OpKind.TheVariants as kind
use Rattle.x86_grammar.specs.declared.table.Row.{Row}
use Rattle.x86_grammar.specs.declared.table.TheConstants.{ROWS}
use Rattle.x86_grammar.specs.Fields.{names_register, names_memory, modrm_mod, modrm_rm, modrm_reg, rex_b, rex_r, extended}
use Rattle.x86_grammar.specs.Rows.{fits, fits_slash, fits_side, has_modrm}
use Rattle.x86_grammar.specs.Operands.{◌>>=◌, width_of, word_or_doubleword, sib_len, disp_len, imm_len, base_field, lacks_base, general_register, displacement, address, rm_operand, reg_operand, opcode_operand, accumulator, immediate, signed32, place, places, immediate_alone, place_and_immediate, places_and_immediate, operands_of, row_operands}
use Rattle.x86_grammar.specs.Meaning.{nothing, place_alone, register_alone, memory_alone, source_alone, destination_and_source, two_places, register_and_place, register_and_memory, register_place_and_number, place_and_byte, offset_alone, byte_alone, word_alone, condition_of, op_of, rm_width, meaning}
use Rattle.x86_grammar.proofs.Finding.{all_at}
use Rattle.x86_grammar.proofs.Opcodes.{FitsByte, fits_parts, no_second, fits_none}

-- ---- what an operation takes

pub data Wants : Type 0 where
  w_source : Wants
  w_places : Wants
  w_register_place : Wants
  w_register_memory : Wants
  w_register_place_number : Wants
  w_place : Wants
  w_place_byte : Wants
  w_register : Wants
  w_memory : Wants
  w_source_alone : Wants
  w_byte : Wants
  w_word : Wants
  w_offset : Wants
  w_nothing : Wants

abbrev pub wants : OpKind → Wants
wants (kind.Alu k) = w_source
wants kind.Test = w_source
wants (kind.Unary k) = w_place
wants kind.Inc = w_place
wants kind.Dec = w_place
wants kind.Imul2 = w_register_place
wants kind.Imul3 = w_register_place_number
wants kind.Mov = w_source
wants (kind.MovZx w) = w_register_place
wants (kind.MovSx w) = w_register_place
wants kind.Lea = w_register_memory
wants kind.Xchg = w_places
wants kind.CmpXchg = w_places
wants kind.Xadd = w_places
wants (kind.Shift k) = w_place_byte
wants (kind.ShiftOne k) = w_place
wants (kind.ShiftCl k) = w_place
wants (kind.Bit k) = w_source
wants kind.Bsf = w_register_place
wants kind.Bsr = w_register_place
wants kind.Bswap = w_register
wants kind.SetCc = w_place
wants kind.CMov = w_register_place
wants kind.Jcc = w_offset
wants kind.Jmp = w_offset
wants kind.Call = w_offset
wants kind.JmpTo = w_place
wants kind.CallReg = w_register
wants kind.RetImmediate = w_word
wants kind.Push = w_source_alone
wants kind.Pop = w_register
wants kind.In = w_byte
wants kind.Out = w_byte
wants kind.Int = w_byte
wants kind.Lidt = w_memory
wants kind.NopAt = w_place
wants _ = w_nothing

-- the operands are such
abbrev pub suits : Wants → Operands → Bool
suits w_source o = is_some (destination_and_source o)
suits w_places o = is_some (two_places o)
suits w_register_place o = is_some (register_and_place o)
suits w_register_memory o = is_some (register_and_memory o)
suits w_register_place_number o = is_some (register_place_and_number o)
suits w_place o = is_some (place_alone o)
suits w_place_byte o = is_some (place_and_byte o)
suits w_register o = is_some (register_alone o)
suits w_memory o = is_some (memory_alone o)
suits w_source_alone o = is_some (source_alone o)
suits w_byte o = is_some (byte_alone o)
suits w_word o = is_some (word_alone o)
suits w_offset o = is_some (offset_alone o)
suits w_nothing o = is_some (nothing o)

pub map_some : {A B : Type 0} (f : A → B) (x : Option A) → is_some x ≡ true → is_some (option_map f x) ≡ true
map_some f None e = absurd cc
map_some f (Some x) e = refl

bind_some : {A B : Type 0} (x : Option A) (f : A → Option B) → is_some x ≡ true → ((a : A) → is_some (f a) ≡ true) → is_some (x >>= f) ≡ true
bind_some None f e g = absurd cc
bind_some (Some a) f e g = g a

sixteen : (n : ℕ) → n < 16 → is_some (slice_get CONDITIONS n) ≡ true
sixteen zero l = refl
sixteen (suc zero) l = refl
sixteen (suc (suc zero)) l = refl
sixteen (suc (suc (suc zero))) l = refl
sixteen (suc (suc (suc (suc zero)))) l = refl
sixteen (suc (suc (suc (suc (suc zero))))) l = refl
sixteen (suc (suc (suc (suc (suc (suc zero)))))) l = refl
sixteen (suc (suc (suc (suc (suc (suc (suc zero))))))) l = refl
sixteen (suc (suc (suc (suc (suc (suc (suc (suc zero)))))))) l = refl
sixteen (suc (suc (suc (suc (suc (suc (suc (suc (suc zero))))))))) l = refl
sixteen (suc (suc (suc (suc (suc (suc (suc (suc (suc (suc zero)))))))))) l = refl
sixteen (suc (suc (suc (suc (suc (suc (suc (suc (suc (suc (suc zero))))))))))) l = refl
sixteen (suc (suc (suc (suc (suc (suc (suc (suc (suc (suc (suc (suc zero)))))))))))) l = refl
sixteen (suc (suc (suc (suc (suc (suc (suc (suc (suc (suc (suc (suc (suc zero))))))))))))) l = refl
sixteen (suc (suc (suc (suc (suc (suc (suc (suc (suc (suc (suc (suc (suc (suc zero)))))))))))))) l = refl
sixteen (suc (suc (suc (suc (suc (suc (suc (suc (suc (suc (suc (suc (suc (suc (suc zero))))))))))))))) l = refl
sixteen (suc (suc (suc (suc (suc (suc (suc (suc (suc (suc (suc (suc (suc (suc (suc (suc n)))))))))))))))) l = absurd (omega arith)

condition_some : (byte : ℕ) → is_some (condition_of byte) ≡ true
unfolding condition_of
condition_some byte = sixteen (byte % 16) (omega arith)

op_some : (k : OpKind) (byte : ℕ) (o : Operands) → suits (wants k) o ≡ true → is_some (op_of k byte o) ≡ true
unfolding op_of
op_some (kind.Alu k) byte o e = map_some _ (destination_and_source o) e
op_some kind.Test byte o e = map_some _ (destination_and_source o) e
op_some (kind.Unary k) byte o e = map_some _ (place_alone o) e
op_some kind.Inc byte o e = map_some _ (place_alone o) e
op_some kind.Dec byte o e = map_some _ (place_alone o) e
op_some kind.Imul2 byte o e = map_some _ (register_and_place o) e
op_some kind.Imul3 byte o e = map_some _ (register_place_and_number o) e
op_some kind.Mov byte o e = map_some _ (destination_and_source o) e
op_some (kind.MovZx w) byte o e = map_some _ (register_and_place o) e
op_some (kind.MovSx w) byte o e = map_some _ (register_and_place o) e
op_some kind.Lea byte o e = map_some _ (register_and_memory o) e
op_some kind.Xchg byte o e = map_some _ (two_places o) e
op_some kind.CmpXchg byte o e = map_some _ (two_places o) e
op_some kind.Xadd byte o e = map_some _ (two_places o) e
op_some (kind.Shift k) byte o e = map_some _ (place_and_byte o) e
op_some (kind.ShiftOne k) byte o e = map_some _ (place_alone o) e
op_some (kind.ShiftCl k) byte o e = map_some _ (place_alone o) e
op_some (kind.Bit k) byte o e = map_some _ (destination_and_source o) e
op_some kind.Bsf byte o e = map_some _ (register_and_place o) e
op_some kind.Bsr byte o e = map_some _ (register_and_place o) e
op_some kind.Bswap byte o e = map_some _ (register_alone o) e
op_some kind.SetCc byte o e = bind_some (condition_of byte) _ (condition_some byte) (λ c. map_some _ (place_alone o) e)
op_some kind.CMov byte o e = bind_some (condition_of byte) _ (condition_some byte) (λ c. map_some _ (register_and_place o) e)
op_some kind.Jcc byte o e = bind_some (condition_of byte) _ (condition_some byte) (λ c. map_some _ (offset_alone o) e)
op_some kind.Jmp byte o e = map_some _ (offset_alone o) e
op_some kind.Call byte o e = map_some _ (offset_alone o) e
op_some kind.JmpTo byte o e = map_some _ (place_alone o) e
op_some kind.CallReg byte o e = map_some _ (register_alone o) e
op_some kind.Ret byte o e = map_some _ (nothing o) e
op_some kind.RetImmediate byte o e = map_some _ (word_alone o) e
op_some kind.Push byte o e = map_some _ (source_alone o) e
op_some kind.Pop byte o e = map_some _ (register_alone o) e
op_some kind.Leave byte o e = map_some _ (nothing o) e
op_some kind.PushF byte o e = map_some _ (nothing o) e
op_some kind.PopF byte o e = map_some _ (nothing o) e
op_some kind.Clc byte o e = map_some _ (nothing o) e
op_some kind.Stc byte o e = map_some _ (nothing o) e
op_some kind.Cmc byte o e = map_some _ (nothing o) e
op_some kind.Cld byte o e = map_some _ (nothing o) e
op_some kind.Std byte o e = map_some _ (nothing o) e
op_some kind.Int3 byte o e = map_some _ (nothing o) e
op_some kind.Hlt byte o e = map_some _ (nothing o) e
op_some kind.Sti byte o e = map_some _ (nothing o) e
op_some kind.Cli byte o e = map_some _ (nothing o) e
op_some kind.Widen byte o e = map_some _ (nothing o) e
op_some kind.SignFill byte o e = map_some _ (nothing o) e
op_some kind.In byte o e = map_some _ (byte_alone o) e
op_some kind.Out byte o e = map_some _ (byte_alone o) e
op_some kind.InDx byte o e = map_some _ (nothing o) e
op_some kind.OutDx byte o e = map_some _ (nothing o) e
op_some kind.Int byte o e = map_some _ (byte_alone o) e
op_some kind.Iret byte o e = map_some _ (nothing o) e
op_some kind.Ud2 byte o e = map_some _ (nothing o) e
op_some kind.Lidt byte o e = map_some _ (memory_alone o) e
op_some kind.Nop byte o e = map_some _ (nothing o) e
op_some kind.NopAt byte o e = map_some _ (place_alone o) e
op_some kind.Pause byte o e = map_some _ (nothing o) e
op_some kind.Endbr byte o e = map_some _ (nothing o) e
op_some (kind.Fence m) byte o e = map_some _ (nothing o) e

-- ---- what a form has

abbrev pub has_rm : Form → Bool
has_rm form.EG = true
has_rm form.GE = true
has_rm form.EI = true
has_rm form.GEI = true
has_rm form.E = true
has_rm _ = false

abbrev pub has_reg : Form → Bool
has_reg form.EG = true
has_reg form.GE = true
has_reg form.GEI = true
has_reg _ = false

abbrev pub has_immediate : Form → Bool
has_immediate form.EI = true
has_immediate form.GEI = true
has_immediate form.AI = true
has_immediate form.OI = true
has_immediate form.I = true
has_immediate _ = false

abbrev pub is_narrow : Width → Bool
is_narrow width.B = true
is_narrow _ = false

abbrev pub is_byte_class : Class → Bool
is_byte_class class.B = true
is_byte_class _ = false

abbrev pub extends : OpKind → Bool
extends (kind.MovZx w) = true
extends (kind.MovSx w) = true
extends _ = false

abbrev pub only_register : Side → Bool
only_register side.Reg = true
only_register _ = false

abbrev pub only_memory : Side → Bool
only_memory side.Mem = true
only_memory _ = false

abbrev pub has_imm : Imm → Bool
has_imm imm.None = false
has_imm _ = true

abbrev pub is_imm8 : Imm → Bool
is_imm8 imm.B = true
is_imm8 _ = false

abbrev pub is_imm16 : Imm → Bool
is_imm16 imm.W = true
is_imm16 _ = false

abbrev pub is_short : Imm → Bool
is_short imm.V = false
is_short _ = true

-- operands of a form serve: rm is sure to be a register, or sure to be in memory; reg and the opcode name whole registers
abbrev pub serves : Wants → Form → Bool → Bool → Bool → Imm → Bool
serves w_source form.EG rm mem reg i = true
serves w_source form.GE rm mem reg i = true
serves w_source form.EI rm mem reg i = true
serves w_source form.AI rm mem reg i = true
serves w_source form.OI rm mem reg i = true
serves w_places form.EG rm mem reg i = true
serves w_places form.OA rm mem reg i = true
serves w_register_place form.GE rm mem reg i = reg
serves w_register_memory form.GE rm mem reg i = reg && mem
serves w_register_place_number form.GEI rm mem reg i = reg && is_short i
serves w_place form.E rm mem reg i = true
serves w_place_byte form.EI rm mem reg i = is_imm8 i
serves w_register form.E rm mem reg i = rm
serves w_register form.O rm mem reg i = reg
serves w_memory form.E rm mem reg i = mem
serves w_source_alone form.O rm mem reg i = true
serves w_source_alone form.I rm mem reg i = true
serves w_byte form.I rm mem reg i = is_imm8 i
serves w_word form.I rm mem reg i = is_imm16 i
serves w_offset form.I rm mem reg i = is_short i
serves w_nothing form.Z rm mem reg i = true
serves _ f rm mem reg i = false

-- a ModRM byte stands exactly where the form has an operand in it, or where it belongs to the opcode; with reg for an
-- operand it is not a digit
abbrev pub modrm_serves : Form → Slash → Bool
modrm_serves f slash.None = not (has_rm f)
modrm_serves f slash.Any = has_rm f
modrm_serves f (slash.Digit d) = has_rm f && not (has_reg f)
modrm_serves f (slash.Byte b) = not (has_rm f)

abbrev pub same_truth : Bool → Bool → Bool
same_truth true b = b
same_truth false b = not b

abbrev pub matches : Row → Bool
matches row =
    serves (wants row.kind) row.form (only_register row.side && (not (is_byte_class row.class) && not (extends row.kind))) (only_memory row.side) (not (is_byte_class row.class)) row.imm
    && (modrm_serves row.form row.slash && same_truth (has_immediate row.form) (has_imm row.imm))

-- form, kind, immediate and ModRM byte of each row fit together
pub rows_match : list_all matches ROWS ≡ true
rows_match = refl

-- ---- what the parts give

record Given (f : Form) (rm_sure mem_sure reg_sure : Bool) (i : Imm) (rm reg : Option Loc) (opcode : Loc) (value : Option Immediate) : Type 0 where
  rm_is : has_rm f ≡ true → (l : Loc) × (rm ≡ Some l)
  rm_register : rm_sure ≡ true → has_rm f ≡ true → (n : ℕ) × (rm ≡ Some (loc.Reg n))
  rm_memory : mem_sure ≡ true → has_rm f ≡ true → (m : Mem) × (rm ≡ Some (loc.Mem m))
  reg_is : has_reg f ≡ true → (l : Loc) × (reg ≡ Some l)
  reg_register : reg_sure ≡ true → has_reg f ≡ true → (n : ℕ) × (reg ≡ Some (loc.Reg n))
  opcode_register : reg_sure ≡ true → (n : ℕ) × (opcode ≡ loc.Reg n)
  value_is : has_immediate f ≡ true → (n : Immediate) × (value ≡ Some n)
  value_8 : is_imm8 i ≡ true → (n : ℕ) × (value ≡ Some (Imm8 n))
  value_16 : is_imm16 i ≡ true → (n : ℕ) × (value ≡ Some (Imm16 n))
  value_32 : is_short i ≡ true → (n : Immediate) → value ≡ Some n → is_some (signed32 n) ≡ true

abbrev pub Formed : Wants → Form → Option Loc → Option Loc → Loc → Option Immediate → Type 0
Formed w f rm reg opcode value = (o : Operands) × (operands_of f rm reg opcode value ≡ Some o) × (suits w o ≡ true)

formed : (w : Wants) (f : Form) (rs ms gs : Bool) (i : Imm) (rm reg : Option Loc) (opcode : Loc) (value : Option Immediate) → serves w f rs ms gs i ≡ true → Given f rs ms gs i rm reg opcode value → Formed w f rm reg opcode value
unfolding operands_of
formed w_source form.EG rs ms gs i rm reg opcode value e g =
    let a = g.rm_is refl in
    let b = g.reg_is refl in
    (operands.Places a.0 b.0, ap (λ (x : Option Loc). places x reg) a.1 ∙ ap (λ (x : Option Loc). places (Some a.0) x) b.1, refl)
formed w_source form.GE rs ms gs i rm reg opcode value e g =
    let a = g.rm_is refl in
    let b = g.reg_is refl in
    (operands.Places b.0 a.0, ap (λ (x : Option Loc). places x rm) b.1 ∙ ap (λ (x : Option Loc). places (Some b.0) x) a.1, refl)
formed w_source form.EI rs ms gs i rm reg opcode value e g =
    let a = g.rm_is refl in
    let v = g.value_is refl in
    (operands.PlaceAndImmediate a.0 v.0, ap (λ (x : Option Loc). place_and_immediate x value) a.1 ∙ ap (λ (x : Option Immediate). place_and_immediate (Some a.0) x) v.1, refl)
formed w_source form.AI rs ms gs i rm reg opcode value e g =
    let v = g.value_is refl in
    (operands.PlaceAndImmediate accumulator v.0, ap (λ (x : Option Immediate). place_and_immediate (Some accumulator) x) v.1, refl)
formed w_source form.OI rs ms gs i rm reg opcode value e g =
    let v = g.value_is refl in
    (operands.PlaceAndImmediate opcode v.0, ap (λ (x : Option Immediate). place_and_immediate (Some opcode) x) v.1, refl)
formed w_places form.EG rs ms gs i rm reg opcode value e g =
    let a = g.rm_is refl in
    let b = g.reg_is refl in
    (operands.Places a.0 b.0, ap (λ (x : Option Loc). places x reg) a.1 ∙ ap (λ (x : Option Loc). places (Some a.0) x) b.1, refl)
formed w_places form.OA rs ms gs i rm reg opcode value e g = (operands.Places opcode accumulator, refl, refl)
formed w_register_place form.GE rs ms gs i rm reg opcode value e g =
    let a = g.rm_is refl in
    let b = g.reg_register e refl in
    (operands.Places (loc.Reg b.0) a.0, ap (λ (x : Option Loc). places x rm) b.1 ∙ ap (λ (x : Option Loc). places (Some (loc.Reg b.0)) x) a.1, refl)
formed w_register_memory form.GE rs ms gs i rm reg opcode value e g =
    let t = and_parts gs ms e in
    let a = g.rm_memory t.1 refl in
    let b = g.reg_register t.0 refl in
    (operands.Places (loc.Reg b.0) (loc.Mem a.0), ap (λ (x : Option Loc). places x rm) b.1 ∙ ap (λ (x : Option Loc). places (Some (loc.Reg b.0)) x) a.1, refl)
formed w_register_place_number form.GEI rs ms gs i rm reg opcode value e g =
    let t = and_parts gs (is_short i) e in
    let a = g.rm_is refl in
    let b = g.reg_register t.0 refl in
    let v = g.value_is refl in (
      operands.PlacesAndImmediate (loc.Reg b.0) a.0 v.0,
      ap (λ (x : Option Loc). places_and_immediate x rm value) b.1 ∙ ap (λ (x : Option Loc). places_and_immediate (Some (loc.Reg b.0)) x value) a.1 ∙ ap (λ (x : Option Immediate). places_and_immediate (Some (loc.Reg b.0)) (Some a.0) x) v.1,
      map_some _ (signed32 v.0) (g.value_32 t.1 v.0 v.1),
    )
formed w_place form.E rs ms gs i rm reg opcode value e g =
    let a = g.rm_is refl in
    (operands.Place a.0, ap place a.1, refl)
formed w_place_byte form.EI rs ms gs i rm reg opcode value e g =
    let a = g.rm_is refl in
    let v = g.value_8 e in
    (operands.PlaceAndImmediate a.0 (Imm8 v.0), ap (λ (x : Option Loc). place_and_immediate x value) a.1 ∙ ap (λ (x : Option Immediate). place_and_immediate (Some a.0) x) v.1, refl)
formed w_register form.E rs ms gs i rm reg opcode value e g =
    let a = g.rm_register e refl in
    (operands.Place (loc.Reg a.0), ap place a.1, refl)
formed w_register form.O rs ms gs i rm reg opcode value e g =
    let a = g.opcode_register e in
    (operands.Place (loc.Reg a.0), ap (λ (x : Loc). place (Some x)) a.1, refl)
formed w_memory form.E rs ms gs i rm reg opcode value e g =
    let a = g.rm_memory e refl in
    (operands.Place (loc.Mem a.0), ap place a.1, refl)
formed w_source_alone form.O rs ms gs i rm reg opcode value e g = (operands.Place opcode, refl, refl)
formed w_source_alone form.I rs ms gs i rm reg opcode value e g =
    let v = g.value_is refl in
    (operands.Immediate v.0, ap immediate_alone v.1, refl)
formed w_byte form.I rs ms gs i rm reg opcode value e g =
    let v = g.value_8 e in
    (operands.Immediate (Imm8 v.0), ap immediate_alone v.1, refl)
formed w_word form.I rs ms gs i rm reg opcode value e g =
    let v = g.value_16 e in
    (operands.Immediate (Imm16 v.0), ap immediate_alone v.1, refl)
formed w_offset form.I rs ms gs i rm reg opcode value e g =
    let v = g.value_is refl in
    (operands.Immediate v.0, ap immediate_alone v.1, g.value_32 e v.0 v.1)
formed w_nothing form.Z rs ms gs i rm reg opcode value e g = (operands.None, refl, refl)
formed w f rs ms gs i rm reg opcode value e g = absurd cc

-- ---- the parts of a spelling by a row

abbrev some_mem : Mem → Option Mem
some_mem m = Some m

abbrev some_immediate : Immediate → Option Immediate
some_immediate i = Some i

abbrev made : Bool → Width → Op → Insn
made lock w x = record { lock = lock; width = w; op = x }

wide_register : (w : Width) (rex : Option Rex) (n : ℕ) → is_narrow w ≡ false → general_register w rex n ≡ loc.Reg n
unfolding general_register
wide_register width.B rex n e = absurd cc
wide_register width.W rex n e = refl
wide_register width.D rex n e = refl
wide_register width.Q rex n e = refl

wide_size : (s : Bool) → is_narrow (word_or_doubleword s) ≡ false
wide_size true = refl
wide_size false = refl

wide_class : (c : Class) (p : Prefixes) (rex : Option Rex) → is_byte_class c ≡ false → is_narrow (width_of c p rex) ≡ false
unfolding width_of
wide_class class.B p rex e = absurd cc
wide_class class.V p None e = wide_size p.size
wide_class class.V p (Some r) e = elim (cases_Bool r.w) [ inl t ↦ rw t refl | inr t ↦ rw t (wide_size p.size) ]
wide_class class.W p rex e = wide_size p.size
wide_class class.Q p rex e = refl
wide_class class.N p rex e = refl
wide_class class.L p None e = refl
wide_class class.L p (Some r) e = elim (cases_Bool r.w) [ inl t ↦ rw t refl | inr t ↦ rw t refl ]

same_width : (k : OpKind) (w : Width) → extends k ≡ false → rm_width k w ≡ w
unfolding rm_width
same_width (kind.MovZx v) w e = absurd cc
same_width (kind.MovSx v) w e = absurd cc
same_width k w e = refl

abbrev pub disp_size : Bool → Bool → Bool → ℕ
disp_size one two base = cond one 1 (cond two 4 (cond base 4 0))

disp_sizes : (one two base : Bool) → (disp_size one two base ≡ 0) ⊎ ((disp_size one two base ≡ 1) ⊎ (disp_size one two base ≡ 4))
disp_sizes true two base = inr (inl refl)
disp_sizes false true base = inr (inr refl)
disp_sizes false false true = inr (inr refl)
disp_sizes false false false = inl refl

-- a displacement of none, one or four bytes
displaced : (d : List ℕ) → (length d ≡ 0) ⊎ ((length d ≡ 1) ⊎ (length d ≡ 4)) → (v : ℤ) × (displacement d ≡ Some v)
unfolding displacement
displaced [] n = (_, refl)
displaced (a ∷ []) n = (_, refl)
displaced (a ∷ b ∷ []) n = absurd (elim n [ inl z ↦ omega arith | inr y ↦ elim y [ inl z ↦ omega arith | inr z ↦ omega arith ] ])
displaced (a ∷ b ∷ c ∷ []) n = absurd (elim n [ inl z ↦ omega arith | inr y ↦ elim y [ inl z ↦ omega arith | inr z ↦ omega arith ] ])
displaced (a ∷ b ∷ c ∷ d ∷ []) n = (_, refl)
displaced (a ∷ b ∷ c ∷ d ∷ e ∷ f) n = absurd (elim n [ inl z ↦ omega arith | inr y ↦ elim y [ inl z ↦ omega arith | inr z ↦ omega arith ] ])

displaced_at : (m : ℕ) (sib disp : List ℕ) → length disp ≡ disp_len (m ∷ []) sib → (v : ℤ) × (displacement disp ≡ Some v)
unfolding disp_len
displaced_at m sib disp n =
    let k = disp_sizes (modrm_mod m == 1) (modrm_mod m == 2) (lacks_base m (base_field m sib)) in
    displaced disp (elim k [ inl z ↦ inl (n ∙ z) | inr y ↦ elim y [ inl z ↦ inr (inl (n ∙ z)) | inr z ↦ inr (inr (n ∙ z)) ] ])

either_some : (t : Bool) (a b : Mem) → (m : Mem) × (cond t (some_mem a) (some_mem b) ≡ Some m)
either_some true a b = (a, refl)
either_some false a b = (b, refl)

addressed : (m : ℕ) (rex : Option Rex) (sib : List ℕ) (d : ℤ) → length sib ≤ 1 → (mem : Mem) × (address m rex sib d ≡ Some mem)
unfolding address
addressed m rex [] d l = either_some (lacks_base m (modrm_rm m)) _ _
addressed m rex (s ∷ []) d l = (_, refl)
addressed m rex (s ∷ t ∷ ss) d l = absurd (omega arith)

pub one_if : (t : Bool) → cond t 1 0 ≤ 1
one_if true = omega arith
one_if false = omega arith

-- rm names a register, or a place in memory
pub rm_in_register : (w : Width) (rex : Option Rex) (m : ℕ) (sib disp : List ℕ) → names_register m ≡ true → rm_operand w rex (m ∷ []) sib disp ≡ Some (general_register w rex (extended (rex_b rex) (modrm_rm m)))
unfolding rm_operand
rm_in_register w rex m sib disp e = ap (λ (t : Bool). cond t (Some (general_register w rex (extended (rex_b rex) (modrm_rm m)))) (option_map (λ (x : Mem). loc.Mem x) (displacement disp >>= λ d. address m rex sib d))) e

pub rm_in_memory : (w : Width) (rex : Option Rex) (m : ℕ) (sib disp : List ℕ) → names_register m ≡ false → length sib ≡ sib_len (m ∷ []) → length disp ≡ disp_len (m ∷ []) sib → (mem : Mem) × (rm_operand w rex (m ∷ []) sib disp ≡ Some (loc.Mem mem))
unfolding rm_operand
rm_in_memory w rex m sib disp e ns nd =
    let v = displaced_at m sib disp nd in
    let small = one_if (names_memory m && (modrm_rm m == 4)) in
    let a = addressed m rex sib v.0 (omega arith) in (
      a.0,
      ap (λ (t : Bool). cond t (Some (general_register w rex (extended (rex_b rex) (modrm_rm m)))) (option_map (λ (x : Mem). loc.Mem x) (displacement disp >>= λ d. address m rex sib d))) e
          ∙ ap (λ (o : Option ℤ). option_map (λ (x : Mem). loc.Mem x) (o >>= λ d. address m rex sib d)) v.1
          ∙ ap (λ (o : Option Mem). option_map (λ (x : Mem). loc.Mem x) o) a.1,
    )

pub rm_somewhere : (w : Width) (rex : Option Rex) (m : ℕ) (sib disp : List ℕ) → length sib ≡ sib_len (m ∷ []) → length disp ≡ disp_len (m ∷ []) sib → (l : Loc) × (rm_operand w rex (m ∷ []) sib disp ≡ Some l)
rm_somewhere w rex m sib disp ns nd =
    elim (cases_Bool (names_register m)) [
      | inl t ↦ (_, rm_in_register w rex m sib disp t)
      | inr t ↦ let k = rm_in_memory w rex m sib disp t ns nd in (loc.Mem k.0, k.1)
    ]

in_side : (s : Side) (m : ℕ) → fits_side s m ≡ true → (only_register s ≡ true → names_register m ≡ true) × (only_memory s ≡ true → names_register m ≡ false)
in_side side.Any m e = (λ t. absurd (cc t), λ t. absurd (cc t))
in_side side.Mem m e = (λ t. absurd (cc t), λ t. not-true _ e)
in_side side.Reg m e = (λ t. e, λ t. absurd (cc t))

no_rm : (f : Form) (s : Slash) → modrm_serves f s ≡ true → has_modrm s ≡ false → has_rm f ≡ false
no_rm f slash.None e h = not-true _ e
no_rm f slash.Any e h = absurd cc
no_rm f (slash.Digit d) e h = absurd cc
no_rm f (slash.Byte b) e h = absurd cc

pub no_reg : (f : Form) → has_rm f ≡ false → has_reg f ≡ false
no_reg form.EG e = absurd cc
no_reg form.GE e = absurd cc
no_reg form.GEI e = absurd cc
no_reg form.EI e = refl
no_reg form.E e = refl
no_reg f e = refl

pub differ : {P : Type 0} (t : Bool) → t ≡ true → t ≡ false → P
differ t e f = absurd (let bad : true ≡ false = sym e ∙ f in cc bad)

-- the immediate by how long it is
immediate_1 : (l : List ℕ) → length l ≡ 1 → (n : ℕ) × (immediate l ≡ Some (Imm8 n))
unfolding immediate
immediate_1 [] e = absurd (omega arith)
immediate_1 (a ∷ []) e = (a, refl)
immediate_1 (a ∷ b ∷ l) e = absurd (omega arith)

immediate_2 : (l : List ℕ) → length l ≡ 2 → (n : ℕ) × (immediate l ≡ Some (Imm16 n))
unfolding immediate
immediate_2 [] e = absurd (omega arith)
immediate_2 (a ∷ []) e = absurd (omega arith)
immediate_2 (a ∷ b ∷ []) e = (_, refl)
immediate_2 (a ∷ b ∷ c ∷ l) e = absurd (omega arith)

immediate_4 : (l : List ℕ) → length l ≡ 4 → (n : ℕ) × (immediate l ≡ Some (Imm32 n))
unfolding immediate
immediate_4 [] e = absurd (omega arith)
immediate_4 (a ∷ []) e = absurd (omega arith)
immediate_4 (a ∷ b ∷ []) e = absurd (omega arith)
immediate_4 (a ∷ b ∷ c ∷ []) e = absurd (omega arith)
immediate_4 (a ∷ b ∷ c ∷ d ∷ []) e = (_, refl)
immediate_4 (a ∷ b ∷ c ∷ d ∷ f ∷ l) e = absurd (omega arith)

immediate_8 : (l : List ℕ) → length l ≡ 8 → (n : ℕ) × (immediate l ≡ Some (Imm64 n))
unfolding immediate
immediate_8 [] e = absurd (omega arith)
immediate_8 (a ∷ []) e = absurd (omega arith)
immediate_8 (a ∷ b ∷ []) e = absurd (omega arith)
immediate_8 (a ∷ b ∷ c ∷ []) e = absurd (omega arith)
immediate_8 (a ∷ b ∷ c ∷ d ∷ []) e = absurd (omega arith)
immediate_8 (a ∷ b ∷ c ∷ d ∷ f ∷ []) e = absurd (omega arith)
immediate_8 (a ∷ b ∷ c ∷ d ∷ f ∷ g ∷ []) e = absurd (omega arith)
immediate_8 (a ∷ b ∷ c ∷ d ∷ f ∷ g ∷ h ∷ []) e = absurd (omega arith)
immediate_8 (a ∷ b ∷ c ∷ d ∷ f ∷ g ∷ h ∷ i ∷ []) e = (_, refl)
immediate_8 (a ∷ b ∷ c ∷ d ∷ f ∷ g ∷ h ∷ i ∷ j ∷ l) e = absurd (omega arith)

record Sized (i : Imm) (l : List ℕ) : Type 0 where
  is : has_imm i ≡ true → (n : Immediate) × (immediate l ≡ Some n)
  is_8 : is_imm8 i ≡ true → (n : ℕ) × (immediate l ≡ Some (Imm8 n))
  is_16 : is_imm16 i ≡ true → (n : ℕ) × (immediate l ≡ Some (Imm16 n))
  is_32 : is_short i ≡ true → (n : Immediate) → immediate l ≡ Some n → is_some (signed32 n) ≡ true

same_immediate : (l : List ℕ) (m n : Immediate) → immediate l ≡ Some m → immediate l ≡ Some n → m ≡ n
same_immediate l m n p q = let e : some_immediate m ≡ Some n = sym p ∙ q in cc

short_1 : (l : List ℕ) → length l ≡ 1 → (n : Immediate) → immediate l ≡ Some n → is_some (signed32 n) ≡ true
unfolding signed32
short_1 l e n q = let k = immediate_1 l e in subst (λ (x : Immediate). is_some (signed32 x) ≡ true) (same_immediate l (Imm8 k.0) n k.1 q) refl

short_2 : (l : List ℕ) → length l ≡ 2 → (n : Immediate) → immediate l ≡ Some n → is_some (signed32 n) ≡ true
unfolding signed32
short_2 l e n q = let k = immediate_2 l e in subst (λ (x : Immediate). is_some (signed32 x) ≡ true) (same_immediate l (Imm16 k.0) n k.1 q) refl

short_4 : (l : List ℕ) → length l ≡ 4 → (n : Immediate) → immediate l ≡ Some n → is_some (signed32 n) ≡ true
unfolding signed32
short_4 l e n q = let k = immediate_4 l e in subst (λ (x : Immediate). is_some (signed32 x) ≡ true) (same_immediate l (Imm32 k.0) n k.1 q) refl

no_immediate : (l : List ℕ) → length l ≡ 0 → (n : Immediate) → immediate l ≡ Some n → is_some (signed32 n) ≡ true
unfolding immediate
no_immediate [] e n q = absurd (cc q)
no_immediate (a ∷ l) e n q = absurd (omega arith)

sized_1 : (i : Imm) (l : List ℕ) → length l ≡ 1 → is_imm16 i ≡ false → Sized i l
sized_1 i l e f = record { is = λ t. let k = immediate_1 l e in (Imm8 k.0, k.1); is_8 = λ t. immediate_1 l e; is_16 = λ t. differ _ t f; is_32 = λ t. short_1 l e }

sized_2 : (i : Imm) (l : List ℕ) → length l ≡ 2 → is_imm8 i ≡ false → Sized i l
sized_2 i l e f = record { is = λ t. let k = immediate_2 l e in (Imm16 k.0, k.1); is_8 = λ t. differ _ t f; is_16 = λ t. immediate_2 l e; is_32 = λ t. short_2 l e }

sized_4 : (i : Imm) (l : List ℕ) → length l ≡ 4 → is_imm8 i ≡ false → is_imm16 i ≡ false → Sized i l
sized_4 i l e f g = record { is = λ t. let k = immediate_4 l e in (Imm32 k.0, k.1); is_8 = λ t. differ _ t f; is_16 = λ t. differ _ t g; is_32 = λ t. short_4 l e }

sized : (i : Imm) (w : Width) (l : List ℕ) → length l ≡ imm_len i w → Sized i l
unfolding imm_len
sized imm.None w l e = record { is = λ t. absurd (cc t); is_8 = λ t. absurd (cc t); is_16 = λ t. absurd (cc t); is_32 = λ t. no_immediate l e }
sized imm.B w l e = sized_1 imm.B l e refl
sized imm.W w l e = sized_2 imm.W l e refl
sized imm.D w l e = sized_4 imm.D l e refl refl
sized imm.Z width.B l e = sized_4 imm.Z l e refl refl
sized imm.Z width.W l e = sized_2 imm.Z l e refl
sized imm.Z width.D l e = sized_4 imm.Z l e refl refl
sized imm.Z width.Q l e = sized_4 imm.Z l e refl refl
sized imm.V width.B l e = sized_1 imm.V l e refl
sized imm.V width.W l e = sized_2 imm.V l e refl
sized imm.V width.D l e = sized_4 imm.V l e refl refl
sized imm.V width.Q l e = record { is = λ t. let k = immediate_8 l e in (Imm64 k.0, k.1); is_8 = λ t. absurd (cc t); is_16 = λ t. absurd (cc t); is_32 = λ t. absurd (cc t) }

implied_imm : (a b : Bool) → same_truth a b ≡ true → a ≡ true → b ≡ true
implied_imm true b e f = e
implied_imm false b e f = absurd cc

is_some_value : {A : Type 0} (o : Option A) → is_some o ≡ true → (a : A) × (o ≡ Some a)
is_some_value None e = absurd cc
is_some_value (Some a) e = (a, refl)

module _ (row : Row) (h : Head) (sib disp imm : List ℕ) (among : Contains ROWS row) where
  given : (ms : List ℕ) → fits row h ms ≡ true → length sib ≡ sib_len ms → length disp ≡ disp_len ms sib → length imm ≡ imm_len row.imm (width_of row.class h.prefixes h.rex)
      → Given row.form (only_register row.side && (not (is_byte_class row.class) && not (extends row.kind))) (only_memory row.side) (not (is_byte_class row.class)) row.imm
      (rm_operand (rm_width row.kind (width_of row.class h.prefixes h.rex)) h.rex ms sib disp) (reg_operand (width_of row.class h.prefixes h.rex) h.rex ms) (opcode_operand (width_of row.class h.prefixes h.rex) h.rex h.byte) (immediate imm)
  unfolding reg_operand opcode_operand
  given [] fit ns nd ni =
      let w = width_of row.class h.prefixes h.rex in
      let law1 = and_parts (serves (wants row.kind) row.form (only_register row.side && (not (is_byte_class row.class) && not (extends row.kind))) (only_memory row.side) (not (is_byte_class row.class)) row.imm) _ (all_at matches ROWS row rows_match among) in
      let law2 = and_parts (modrm_serves row.form row.slash) _ law1.1 in
      let none = no_rm row.form row.slash law2.0 (fits_none row h fit) in
      let none_reg = no_reg row.form none in
      let s = sized row.imm w imm ni in
      record {
        rm_is = λ t. differ _ t none;
        rm_register = λ t u. differ _ u none;
        rm_memory = λ t u. differ _ u none;
        reg_is = λ t. differ _ t none_reg;
        reg_register = λ t u. differ _ u none_reg;
        opcode_register = λ t. (_, wide_register w h.rex _ (wide_class row.class h.prefixes h.rex (not-true _ t)));
        value_is = λ t. s.is (implied_imm _ _ law2.1 t);
        value_8 = s.is_8;
        value_16 = s.is_16;
        value_32 = s.is_32;
      }
  given (m ∷ []) fit ns nd ni =
      let w = width_of row.class h.prefixes h.rex in
      let ew = rm_width row.kind w in
      let law1 = and_parts (serves (wants row.kind) row.form (only_register row.side && (not (is_byte_class row.class) && not (extends row.kind))) (only_memory row.side) (not (is_byte_class row.class)) row.imm) _ (all_at matches ROWS row rows_match among) in
      let law2 = and_parts (modrm_serves row.form row.slash) _ law1.1 in
      let s = sized row.imm w imm ni in
      let b = fits_parts row h m fit in
      let d = in_side row.side m b.side in
      let wide : (is_byte_class row.class ≡ false) → is_narrow w ≡ false = λ t. wide_class row.class h.prefixes h.rex t in
      record {
        rm_is = λ t. rm_somewhere ew h.rex m sib disp ns nd;
        rm_register = λ t u.
            let t1 = and_parts (only_register row.side) _ t in
            let t2 = and_parts (not (is_byte_class row.class)) _ t1.1 in
            let same : rm_width row.kind w ≡ w = same_width row.kind w (not-true _ t2.1) in
            let narrow : is_narrow ew ≡ false = ap is_narrow same ∙ wide (not-true _ t2.0) in
            (_, rm_in_register ew h.rex m sib disp (d.0 t1.0) ∙ ap (λ (l : Loc). Some l) (wide_register ew h.rex _ narrow));
        rm_memory = λ t u. rm_in_memory ew h.rex m sib disp (d.1 t) ns nd;
        reg_is = λ t. (_, refl);
        reg_register = λ t u. (_, ap (λ (l : Loc). Some l) (wide_register w h.rex _ (wide (not-true _ t))));
        opcode_register = λ t. (_, wide_register w h.rex _ (wide (not-true _ t)));
        value_is = λ t. s.is (implied_imm _ _ law2.1 t);
        value_8 = s.is_8;
        value_16 = s.is_16;
        value_32 = s.is_32;
      }
  given (m ∷ n ∷ ms) fit ns nd ni = absurd (no_second row h m n ms fit)

  -- what fits a row means an instruction
  pub meant : (ms : List ℕ) → fits row h ms ≡ true → length sib ≡ sib_len ms → length disp ≡ disp_len ms sib → length imm ≡ imm_len row.imm (width_of row.class h.prefixes h.rex) → (insn : Insn) × (meaning row h ms sib disp imm ≡ Some insn)
  unfolding row_operands meaning
  meant ms fit ns nd ni =
      let w = width_of row.class h.prefixes h.rex in
      let law1 = and_parts (serves (wants row.kind) row.form (only_register row.side && (not (is_byte_class row.class) && not (extends row.kind))) (only_memory row.side) (not (is_byte_class row.class)) row.imm) _ (all_at matches ROWS row rows_match among) in
      let o = formed (wants row.kind) row.form _ _ _ row.imm _ _ _ _ law1.0 (given ms fit ns nd ni) in
      let x = is_some_value (op_of row.kind h.byte o.0) (op_some row.kind h.byte o.0 o.2) in (
        record { lock = h.prefixes.lock; width = w; op = x.0 },
        ap (λ (p : Option Operands). p >>= λ q. option_map (made h.prefixes.lock w) (op_of row.kind h.byte q)) o.1 ∙ ap (λ (p : Option Op). option_map (made h.prefixes.lock w) p) x.1,
      )
