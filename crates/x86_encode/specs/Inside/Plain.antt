-- The plain spelling of an instruction by a row, where the row can spell it.
use Rattle.std.specs.Prelude.{ℕ, ◌+◌, ◌*◌, ◌%◌, ℤ, pos, Bool, true, false, ◌&&◌, ◌||◌, nat_lt, nat_le, Option, Some, None, List, [], ◌∷◌, ◌++◌, take, if◌then◌else◌}
use Rattle.std.specs.Int.{w64, cast_unsigned, to_le_bytes}
use Rattle.x86_grammar.specs.declared.head.Rex.{Rex}
use Rattle.x86_grammar.specs.declared.head.Head.{Head}
use Rattle.vm_law.specs.declared.insn.Width.{Width}
use Rattle.vm_law.specs.declared.insn.Width.TheVariants as width
use Rattle.vm_law.specs.declared.insn.Loc.{Loc}
use Rattle.vm_law.specs.declared.insn.Loc.TheVariants as loc
use Rattle.vm_law.specs.declared.insn.Src.{Src}
use Rattle.vm_law.specs.declared.insn.Src.TheVariants as src
use Rattle.vm_law.specs.declared.insn.Condition.{Condition}
use Rattle.vm_law.specs.declared.insn.Condition.TheVariants as condition
use Rattle.vm_law.specs.declared.insn.Count.{Count}
use Rattle.vm_law.specs.declared.insn.Count.TheVariants as count
use Rattle.vm_law.specs.declared.insn.Op.{Op}
use Rattle.vm_law.specs.declared.insn.Op.TheVariants as op
use Rattle.vm_law.specs.declared.insn.Insn.{Insn}
use Rattle.x86_grammar.specs.declared.table.Map.{Map}
use Rattle.x86_grammar.specs.declared.table.Map.TheVariants.{One, Two}
use Rattle.x86_grammar.specs.declared.table.Class.{Class}
use Rattle.x86_grammar.specs.declared.table.Class.TheVariants as class
use Rattle.x86_grammar.specs.declared.table.Need.{Need}
use Rattle.x86_grammar.specs.declared.table.Need.TheVariants as need
use Rattle.x86_grammar.specs.declared.table.Form.{Form}
use Rattle.x86_grammar.specs.declared.table.Form.TheVariants as form
use Rattle.x86_grammar.specs.declared.table.Slash.{Slash}
use Rattle.x86_grammar.specs.declared.table.Slash.TheVariants as slash
use Rattle.x86_grammar.specs.declared.table.Row.{Row}
use Rattle.x86_grammar.specs.Rows.{takes_size}
use Rattle.x86_grammar.specs.Operands.{imm_len}
use Rattle.x86_grammar.specs.Meaning.{rm_width}
use Rattle.x86_encode.specs.Inside.Place.{Place, place_of}

-- ---- the operands of an operation, in the order in which it names them

abbrev pub no_loc : Loc
no_loc = loc.Reg 0

abbrev pub loc_of : Src → Loc
loc_of (src.Loc l) = l
loc_of (src.Imm v) = no_loc

abbrev pub optional_loc : Option Loc → Loc
optional_loc None = no_loc
optional_loc (Some a) = a

unfoldable pub first_of : Op → Loc
first_of (op.Alu k a b) = a
first_of (op.Test a b) = a
first_of (op.Unary k a) = a
first_of (op.Inc a) = a
first_of (op.Dec a) = a
first_of (op.Imul2 n b) = loc.Reg n
first_of (op.Imul3 n b v) = loc.Reg n
first_of (op.Mov a b) = a
first_of (op.MovZx n w b) = loc.Reg n
first_of (op.MovSx n w b) = loc.Reg n
first_of (op.Lea n m) = loc.Reg n
first_of (op.Xchg a b) = a
first_of (op.CmpXchg a b) = a
first_of (op.Xadd a b) = a
first_of (op.Shift k a c) = a
first_of (op.Bit k a b) = a
first_of (op.Bsf n b) = loc.Reg n
first_of (op.Bsr n b) = loc.Reg n
first_of (op.Bswap n) = loc.Reg n
first_of (op.SetCc c a) = a
first_of (op.CMov c n b) = loc.Reg n
first_of (op.JmpTo a) = a
first_of (op.CallReg n) = loc.Reg n
first_of (op.Push b) = loc_of b
first_of (op.Pop n) = loc.Reg n
first_of (op.Lidt m) = loc.Mem m
first_of (op.Nop a) = optional_loc a
first_of _ = no_loc

unfoldable pub second_of : Op → Loc
second_of (op.Alu k a b) = loc_of b
second_of (op.Test a b) = loc_of b
second_of (op.Imul2 n b) = b
second_of (op.Imul3 n b v) = b
second_of (op.Mov a b) = loc_of b
second_of (op.MovZx n w b) = b
second_of (op.MovSx n w b) = b
second_of (op.Lea n m) = loc.Mem m
second_of (op.Xchg a b) = b
second_of (op.CmpXchg a b) = b
second_of (op.Xadd a b) = b
second_of (op.Bit k a b) = loc_of b
second_of (op.Bsf n b) = b
second_of (op.Bsr n b) = b
second_of (op.CMov c n b) = b
second_of _ = no_loc

-- what stands in the ModRM byte's last field, in its middle field, and in the opcode
unfoldable pub e_loc : Form → Op → Loc
e_loc form.EG o = first_of o
e_loc form.GE o = second_of o
e_loc form.EI o = first_of o
e_loc form.GEI o = second_of o
e_loc form.E o = first_of o
e_loc _ o = no_loc

unfoldable pub g_loc : Form → Op → Loc
g_loc form.EG o = second_of o
g_loc form.GE o = first_of o
g_loc form.GEI o = first_of o
g_loc _ o = no_loc

unfoldable pub o_loc : Form → Op → Loc
o_loc form.OI o = first_of o
o_loc form.OA o = first_of o
o_loc form.O o = first_of o
o_loc _ o = no_loc

-- the number of a condition in an opcode byte
unfoldable pub condition_number : Condition → ℕ
condition_number condition.O = 0
condition_number condition.No = 1
condition_number condition.B = 2
condition_number condition.Ae = 3
condition_number condition.E = 4
condition_number condition.Ne = 5
condition_number condition.Be = 6
condition_number condition.A = 7
condition_number condition.S = 8
condition_number condition.Ns = 9
condition_number condition.P = 10
condition_number condition.Np = 11
condition_number condition.L = 12
condition_number condition.Ge = 13
condition_number condition.Le = 14
condition_number condition.G = 15

-- the number of the condition in an operation
unfoldable pub condition_of : Op → ℕ
condition_of (op.SetCc c a) = condition_number c
condition_of (op.CMov c n b) = condition_number c
condition_of (op.Jcc c d) = condition_number c
condition_of _ = 0

-- the number in an operation
abbrev pub source_number : Src → ℤ
source_number (src.Loc l) = pos 0
source_number (src.Imm v) = v

abbrev pub count_number : Count → ℤ
count_number (count.Imm c) = pos c
count_number count.Cl = pos 0

abbrev pub port_number : Option ℕ → ℤ
port_number None = pos 0
port_number (Some p) = pos p

unfoldable pub number_of : Op → ℤ
number_of (op.Alu k a b) = source_number b
number_of (op.Test a b) = source_number b
number_of (op.Mov a b) = source_number b
number_of (op.Bit k a b) = source_number b
number_of (op.Push b) = source_number b
number_of (op.Imul3 n b v) = v
number_of (op.Shift k a c) = count_number c
number_of (op.Jcc c d) = d
number_of (op.Jmp d) = d
number_of (op.Call d) = d
number_of (op.Ret n) = pos n
number_of (op.In p) = port_number p
number_of (op.Out p) = port_number p
number_of (op.Int n) = pos n
number_of _ = pos 0

-- the low bytes of a number, with its sign
unfoldable pub number_bytes : ℕ → ℤ → List ℕ
number_bytes n v = take n (to_le_bytes w64 (cast_unsigned w64 v))

-- ---- registers

unfoldable pub low_of : Loc → ℕ
low_of (loc.Reg n) = n % 8
low_of (loc.High n) = n % 4 + 4
low_of (loc.Mem m) = 0

unfoldable pub bit_of : Loc → Bool
bit_of (loc.Reg n) = nat_le 8 n
bit_of (loc.High n) = false
bit_of (loc.Mem m) = false

-- SPL, BPL, SIL and DIL
abbrev pub wants_rex : Width → Loc → Bool
wants_rex width.B (loc.Reg n) = nat_le 4 n && nat_lt n 8
wants_rex width.B (loc.High n) = false
wants_rex width.B (loc.Mem m) = false
wants_rex width.W l = false
wants_rex width.D l = false
wants_rex width.Q l = false

-- ---- the parts

unfoldable pub e_place : Bool → Loc → Place
e_place long (loc.Reg n) = record { mode = 192 + n % 8; sib = []; disp = []; x = false; b = nat_le 8 n }
e_place long (loc.High n) = record { mode = 196 + n % 4; sib = []; disp = []; x = false; b = false }
e_place long (loc.Mem m) = place_of long m

unfoldable pub modrm_of : Slash → ℕ → ℕ → List ℕ
modrm_of slash.None mode g = []
modrm_of slash.Any mode g = ((mode + g * 8) % 256) ∷ []
modrm_of (slash.Digit d) mode g = ((mode + d * 8 % 256) % 256) ∷ []
modrm_of (slash.Byte b) mode g = b ∷ []

abbrev pub needs_wide : Need → Bool
needs_wide need.None = false
needs_wide need.Wide = true
needs_wide need.NoB = false
needs_wide need.NotAcc = false

abbrev pub is_quad : Width → Bool
is_quad width.B = false
is_quad width.W = false
is_quad width.D = false
is_quad width.Q = true

abbrev pub is_word : Width → Bool
is_word width.B = false
is_word width.W = true
is_word width.D = false
is_word width.Q = false

-- whether REX.W makes the width 64 bits
abbrev pub takes_wide : Class → Bool
takes_wide class.B = false
takes_wide class.V = true
takes_wide class.W = false
takes_wide class.Q = false
takes_wide class.N = false
takes_wide class.L = true

unfoldable pub must_have_rex : Width → Width → Loc → Loc → Loc → Bool
must_have_rex ew w e g o = wants_rex ew e || (wants_rex w g || wants_rex w o)

unfoldable pub is_wide : Need → Class → Width → Bool
is_wide need class w = needs_wide need || (takes_wide class && is_quad w)

unfoldable pub is_sized : Class → Width → Bool
is_sized class w = takes_size class && is_word w

-- a REX byte only where one of these is so
abbrev pub rex_for : Bool → Bool → Bool → Bool → Bool → Option Rex
rex_for must w r x b = if must || (w || (r || (x || b))) then Some (record { w = w; r = r; x = x; b = b }) else None

unfoldable pub head_of : Row → Width → Bool → ℕ → Loc → Loc → Loc → Place → Head
head_of row w lock c e g o pl = record {
  prefixes = record { size = is_sized row.class w; lock = lock; rep = row.rep };
  rex = rex_for (must_have_rex (rm_width row.kind w) w e g o) (is_wide row.need row.class w) (bit_of g) pl.x (pl.b || bit_of o);
  map = row.map;
  byte = (row.byte + (c + low_of o) % 256) % 256;
}

-- the parts of a spelling
pub record Parts : Type 0 where
  pub head : Head
  pub modrm : List ℕ
  pub sib : List ℕ
  pub disp : List ℕ
  pub imm : List ℕ

-- those of the plain spelling by a row, with the displacement long where it is asked
unfoldable pub plain : Bool → Row → Insn → Parts
plain long row insn =
    let e = e_loc row.form insn.op in
    let g = g_loc row.form insn.op in
    let o = o_loc row.form insn.op in
    let pl = e_place long e in
    record {
      head = head_of row insn.width insn.lock (condition_of insn.op) e g o pl;
      modrm = modrm_of row.slash pl.mode (low_of g);
      sib = pl.sib;
      disp = pl.disp;
      imm = number_bytes (imm_len row.imm insn.width) (number_of insn.op);
    }

-- ---- the bytes

abbrev pub one_if : Bool → ℕ → List ℕ
one_if true b = b ∷ []
one_if false b = []

unfoldable pub prefix_bytes : Bool → Bool → Bool → List ℕ
prefix_bytes size lock rep = one_if size 0x66 ++ (one_if lock 0xF0 ++ one_if rep 0xF3)

abbrev pub weight : Bool → ℕ → ℕ
weight true n = n
weight false n = 0

unfoldable pub rex_bytes : Option Rex → List ℕ
rex_bytes None = []
rex_bytes (Some r) = (64 + weight r.w 8 + weight r.r 4 + weight r.x 2 + weight r.b 1) ∷ []

unfoldable pub opcode_bytes : Map → ℕ → List ℕ
opcode_bytes One b = b ∷ []
opcode_bytes Two b = 15 ∷ b ∷ []

unfoldable pub head_bytes : Head → List ℕ
head_bytes h = prefix_bytes h.prefixes.size h.prefixes.lock h.prefixes.rep ++ (rex_bytes h.rex ++ opcode_bytes h.map h.byte)

-- the spelling of these parts
unfoldable pub written : Parts → List ℕ
written p = head_bytes p.head ++ (p.modrm ++ (p.sib ++ (p.disp ++ p.imm)))
