-- Operands: registers, immediates, and the value at the operand in memory.
-- Source: Intel SDM volume 1, sections 3.4.1 and 3.4.1.1: a result of 32 bits clears the upper half of its register, one of
-- 8 or 16 bits leaves the rest; AH, CH, DH and BH are bits 8 to 15.
use Rattle.std.specs.Prelude.{ℕ, ◌+◌, ◌*◌, ◌/◌, ◌%◌, ◌^◌, ℤ, false, slice_index, slice_set}
use Rattle.std.specs.Int.{w64, cast_unsigned}
use Rattle.vm_law.specs.declared.context.Ctx.{Ctx}
use Rattle.vm_law.specs.declared.insn.Width.{Width}
use Rattle.vm_law.specs.declared.insn.Width.TheVariants as width
use Rattle.vm_law.specs.declared.insn.Loc.{Loc}
use Rattle.vm_law.specs.declared.insn.Loc.TheVariants as loc
use Rattle.vm_law.specs.declared.insn.Src.{Src}
use Rattle.vm_law.specs.declared.insn.Src.TheVariants as src
use Rattle.x86_alu.specs.Operand.{span}

-- the numbers of the general registers that instructions use without naming them
abbrev pub RAX : ℕ
RAX = 0

abbrev pub RCX : ℕ
RCX = 1

abbrev pub RDX : ℕ
RDX = 2

abbrev pub RSP : ℕ
RSP = 4

abbrev pub RBP : ℕ
RBP = 5

-- a general register by its number, which is below 16
unfoldable pub register : Ctx → ℕ → ℕ
register c r = slice_index c.regs r

unfoldable pub with_register : Ctx → ℕ → ℕ → Ctx
with_register c r value = record c { regs = slice_set c.regs r value }

-- a register after a result of this width, old being its value before
unfoldable pub merged : Width → ℕ → ℕ → ℕ
merged width.B old value = old / 2 ^ 8 * 2 ^ 8 + value
merged width.W old value = old / 2 ^ 16 * 2 ^ 16 + value
merged width.D old value = value
merged width.Q old value = value

-- a register after a result for its bits 8 to 15
unfoldable pub with_second : ℕ → ℕ → ℕ
with_second old value = old / 2 ^ 16 * 2 ^ 16 + value * 2 ^ 8 + old % 2 ^ 8

-- an integer in two's complement
unfoldable pub immediate : Width → ℤ → ℕ
immediate w value = cast_unsigned w64 value % span w

-- the value of an operand; read is what was read at the operand in memory, where there is one
unfoldable pub value_at : Ctx → Width → ℕ → Loc → ℕ
value_at c w read (loc.Reg r) = register c r % span w
value_at c w read (loc.High r) = register c r / 2 ^ 8 % 2 ^ 8
value_at c w read (loc.Mem a) = read % span w

unfoldable pub source_at : Ctx → Width → ℕ → Src → ℕ
source_at c w read (src.Loc l) = value_at c w read l
source_at c w read (src.Imm value) = immediate w value

-- the context after a result for a register. One for memory is stored by the caller
unfoldable pub with_value : Ctx → Width → Loc → ℕ → Ctx
with_value c w (loc.Reg r) value = with_register c r (merged w (register c r) value)
with_value c w (loc.High r) value = with_register c r (with_second (register c r) (value % 2 ^ 8))
with_value c w (loc.Mem a) value = c

-- rDX and rAX, at width 8 AH and AL: the upper half of a double operand, and its lower half
unfoldable pub upper_half : Width → Loc
upper_half width.B = loc.High 0
upper_half width.W = loc.Reg RDX
upper_half width.D = loc.Reg RDX
upper_half width.Q = loc.Reg RDX

unfoldable pub with_pair : Ctx → Width → ℕ → ℕ → Ctx
with_pair c w lower upper = with_value (with_value c w (loc.Reg RAX) lower) w (upper_half w) upper

-- behind an instruction of so many bytes, with no interrupt held off
unfoldable pub passed : Ctx → ℕ → Ctx
passed c len = record c { rip = (c.rip + len) % 2 ^ 64; shadow = false }
