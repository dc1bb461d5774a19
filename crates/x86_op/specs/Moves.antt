-- MOV, MOVZX, MOVSX, LEA, XCHG, CMPXCHG, XADD, BSWAP, SETcc, CMOVcc, CBW and CWD with their wider forms. c is the context
-- behind the instruction. Source: Intel SDM volume 2, the pages of the instructions.
use Rattle.std.specs.Prelude.{ℕ, ◌-◌, ◌/◌, ◌%◌, Bool, ◌==◌, if◌then◌else◌}
use Rattle.byteorder.specs.Endian.{little_bytes, big_number}
use Rattle.vm_law.specs.declared.context.Ctx.{Ctx}
use Rattle.vm_law.specs.declared.insn.Width.{Width}
use Rattle.vm_law.specs.declared.insn.Width.TheVariants as width
use Rattle.vm_law.specs.declared.insn.Loc.{Loc}
use Rattle.vm_law.specs.declared.insn.Loc.TheVariants as loc
use Rattle.vm_law.specs.declared.insn.Src.{Src}
use Rattle.vm_law.specs.declared.insn.Condition.{Condition}
use Rattle.vm_law.specs.declared.insn.Mem.{Mem}
use Rattle.x86_alu.specs.Operand.{size_of, span, signed, residue, is_negative}
use Rattle.x86_alu.specs.Flags.{bit}
use Rattle.x86_alu.specs.declared.op.AluOp.TheVariants as alu
use Rattle.x86_op.specs.Operand.{RAX, RDX, value_at, source_at, with_value}
use Rattle.x86_op.specs.Address.{address_of}
use Rattle.x86_op.specs.Condition.{holds}
use Rattle.x86_op.specs.Done.{Done}
use Rattle.x86_op.specs.Arithmetic.{compared, operated}

unfoldable pub mov_done : Ctx → Width → ℕ → Loc → Src → Done
mov_done c w read l s = record { ctx = with_value c w l (source_at c w read s); stored = source_at c w read s }

-- a value of one width as one of another, with its sign; without it, that is the value itself, cut to the width
unfoldable pub sign_extended : Width → Width → ℕ → ℕ
sign_extended from to value = residue (span to) (signed (span from) value)

unfoldable pub movzx_done : Ctx → Width → ℕ → ℕ → Width → Loc → Ctx
movzx_done c w read r from l = with_value c w (loc.Reg r) (value_at c from read l % span w)

unfoldable pub movsx_done : Ctx → Width → ℕ → ℕ → Width → Loc → Ctx
movsx_done c w read r from l = with_value c w (loc.Reg r) (sign_extended from w (value_at c from read l))

unfoldable pub lea_done : Ctx → Width → ℕ → Mem → Ctx
lea_done c w r a = with_value c w (loc.Reg r) (address_of c a % span w)

-- each takes the other's value
unfoldable pub xchg_done : Ctx → Width → ℕ → Loc → Loc → Done
xchg_done c w read a b = record {
  ctx = with_value (with_value c w a (value_at c w read b)) w b (value_at c w read a);
  stored = value_at c w read b;
}

-- the destination holds what the accumulator holds
unfoldable pub is_equal : Ctx → Width → ℕ → Loc → Bool
is_equal c w read a = value_at c w read (loc.Reg RAX) == value_at c w read a

-- CMPXCHG: the flags of a CMP of the accumulator with the destination; the destination takes the source where they are
-- equal, and else the accumulator takes the destination
unfoldable pub cmpxchg_done : Ctx → Width → ℕ → Loc → Loc → Done
cmpxchg_done c w read a b =
    let after = compared c alu.Cmp w (value_at c w read (loc.Reg RAX)) (value_at c w read a) in
    if is_equal c w read a then record { ctx = with_value after w a (value_at c w read b); stored = value_at c w read b }
    else record { ctx = with_value after w (loc.Reg RAX) (value_at c w read a); stored = value_at c w read a }

-- XADD: the source takes the destination, and then the destination takes the sum
unfoldable pub xadd_done : Ctx → Width → ℕ → Loc → Loc → Done
xadd_done c w read a b = operated (with_value c w b (value_at c w read a)) alu.Add w a (value_at c w read a) (value_at c w read b)

-- the bytes in the other order
unfoldable pub swapped : Width → ℕ → ℕ
swapped w value = big_number (size_of w / 8) (little_bytes (size_of w / 8) value)

unfoldable pub bswap_done : Ctx → Width → ℕ → Ctx
bswap_done c w r = with_value c w (loc.Reg r) (swapped w (value_at c w 0 (loc.Reg r)))

unfoldable pub setcc_done : Ctx → Condition → Loc → Done
setcc_done c cc l = record { ctx = with_value c width.B l (bit (holds c.rflags cc)); stored = bit (holds c.rflags cc) }

-- where the condition is false the register keeps its value, of which 32 bits clear the upper half
unfoldable pub cmov_done : Ctx → Width → ℕ → Condition → ℕ → Loc → Ctx
cmov_done c w read cc r l = with_value c w (loc.Reg r) (if holds c.rflags cc then value_at c w read l else value_at c w read (loc.Reg r))

abbrev pub half_of : Width → Width
half_of width.B = width.B
half_of width.W = width.B
half_of width.D = width.W
half_of width.Q = width.D

-- CBW, CWDE, CDQE: rAX becomes its lower half with its sign
unfoldable pub widen_done : Ctx → Width → Ctx
widen_done c w = with_value c w (loc.Reg RAX) (sign_extended (half_of w) w (value_at c (half_of w) 0 (loc.Reg RAX)))

-- CWD, CDQ, CQO: each bit of rDX becomes the sign of rAX
unfoldable pub sign_fill_done : Ctx → Width → Ctx
sign_fill_done c w = with_value c w (loc.Reg RDX) (if is_negative (span w) (value_at c w 0 (loc.Reg RAX)) then span w - 1 else 0)
