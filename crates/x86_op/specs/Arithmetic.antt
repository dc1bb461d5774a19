-- ADD to CMP, TEST, NOT, NEG, INC, DEC, MUL, IMUL, DIV, IDIV. c is the context behind the instruction.
-- Source: Intel SDM volume 2, the pages of the instructions.
use Rattle.std.specs.Prelude.{ℕ, ◌%◌, ◌/◌, ℤ, Bool, true, false, if◌then◌else◌}
use Rattle.vm_law.specs.declared.context.Ctx.{Ctx}
use Rattle.vm_law.specs.declared.insn.Width.{Width}
use Rattle.vm_law.specs.declared.insn.Loc.{Loc}
use Rattle.vm_law.specs.declared.insn.Loc.TheVariants as loc
use Rattle.vm_law.specs.declared.insn.Src.{Src}
use Rattle.vm_law.specs.declared.insn.ArithmeticOp.{ArithmeticOp}
use Rattle.vm_law.specs.declared.insn.ArithmeticOp.TheVariants as arithmetic
use Rattle.vm_law.specs.declared.insn.UnaryOp.{UnaryOp}
use Rattle.vm_law.specs.declared.insn.UnaryOp.TheVariants as unary
use Rattle.x86_alu.specs.Operand.{span, residue}
use Rattle.x86_alu.specs.Flags.{carry_of}
use Rattle.x86_alu.specs.declared.op.AluOp.{AluOp}
use Rattle.x86_alu.specs.declared.op.AluOp.TheVariants as alu
use Rattle.x86_alu.specs.Arithmetic.{alu_result, alu_flags}
use Rattle.x86_alu.specs.Product.{product_bits, mul_flags, quotient_of, remainder_of, div_faults, div_flags}
use Rattle.x86_op.specs.Operand.{RAX, value_at, source_at, immediate, with_value, with_pair, upper_half}
use Rattle.x86_op.specs.Done.{Done, flagged, only}

-- the operation with its result and its flags
unfoldable pub alu_of : ArithmeticOp → AluOp
alu_of arithmetic.Add = alu.Add
alu_of arithmetic.Or = alu.Or
alu_of arithmetic.Adc = alu.Adc
alu_of arithmetic.Sbb = alu.Sbb
alu_of arithmetic.And = alu.And
alu_of arithmetic.Sub = alu.Sub
alu_of arithmetic.Xor = alu.Xor
alu_of arithmetic.Cmp = alu.Cmp

-- the result goes to the place that held a
unfoldable pub operated : Ctx → AluOp → Width → Loc → ℕ → ℕ → Done
operated c op w l a b =
    let r = alu_result op (span w) a b (carry_of c.rflags) in
    record { ctx = with_value (flagged c (alu_flags op (span w) a b c.rflags)) w l r; stored = r }

-- the result is dropped
unfoldable pub compared : Ctx → AluOp → Width → ℕ → ℕ → Ctx
compared c op w a b = flagged c (alu_flags op (span w) a b c.rflags)

-- CMP drops its result
abbrev pub drops_result : ArithmeticOp → Bool
drops_result arithmetic.Add = false
drops_result arithmetic.Or = false
drops_result arithmetic.Adc = false
drops_result arithmetic.Sbb = false
drops_result arithmetic.And = false
drops_result arithmetic.Sub = false
drops_result arithmetic.Xor = false
drops_result arithmetic.Cmp = true

unfoldable pub alu_done : Ctx → Width → ℕ → ArithmeticOp → Loc → Src → Done
alu_done c w read k l s =
    if drops_result k then only (compared c (alu_of k) w (value_at c w read l) (source_at c w read s))
    else operated c (alu_of k) w l (value_at c w read l) (source_at c w read s)

-- rDX:rAX, at width 8 AX, becomes the product of rAX and an operand
unfoldable pub multiplied : Ctx → Bool → Width → ℕ → Ctx
multiplied c s w b =
    let a = value_at c w 0 (loc.Reg RAX) in
    with_pair (flagged c (mul_flags s (span w) a b c.rflags)) w (product_bits s (span w) a b % span w) (product_bits s (span w) a b / span w)

-- a register becomes the lower half of a signed product
unfoldable pub multiplied_to : Ctx → Width → ℕ → ℕ → ℕ → Ctx
multiplied_to c w r a b = with_value (flagged c (mul_flags true (span w) a b c.rflags)) w (loc.Reg r) (product_bits true (span w) a b % span w)

-- #DE: the divisor is 0, or the quotient of rDX:rAX, at width 8 of AX, doesn't fit
unfoldable pub faults_by : Ctx → Bool → Width → ℕ → Bool
faults_by c s w by = div_faults s (span w) (value_at c w 0 (upper_half w)) (value_at c w 0 (loc.Reg RAX)) by

-- else the lower half becomes the quotient, and the upper half the remainder
unfoldable pub divided : Ctx → Bool → Width → ℕ → Ctx
divided c s w by =
    let high = value_at c w 0 (upper_half w) in
    let low = value_at c w 0 (loc.Reg RAX) in
    if div_faults s (span w) high low by then c
    else with_pair (flagged c (div_flags c.rflags)) w (residue (span w) (quotient_of s (span w) high low by)) (residue (span w) (remainder_of s (span w) high low by))

unfoldable pub unary_done : Ctx → Width → ℕ → UnaryOp → Loc → Done
unary_done c w read unary.Not l = operated c alu.Not w l (value_at c w read l) 0
unary_done c w read unary.Neg l = operated c alu.Neg w l (value_at c w read l) 0
unary_done c w read unary.Mul l = only (multiplied c false w (value_at c w read l))
unary_done c w read unary.Imul l = only (multiplied c true w (value_at c w read l))
unary_done c w read unary.Div l = only (divided c false w (value_at c w read l))
unary_done c w read unary.Idiv l = only (divided c true w (value_at c w read l))

unfoldable pub unary_faults : Ctx → Width → ℕ → UnaryOp → Loc → Bool
unary_faults c w read unary.Not l = false
unary_faults c w read unary.Neg l = false
unary_faults c w read unary.Mul l = false
unary_faults c w read unary.Imul l = false
unary_faults c w read unary.Div l = faults_by c false w (value_at c w read l)
unary_faults c w read unary.Idiv l = faults_by c true w (value_at c w read l)

-- IMUL of a register by an operand, and of an operand by an immediate into a register
unfoldable pub imul2_done : Ctx → Width → ℕ → ℕ → Loc → Ctx
imul2_done c w read r l = multiplied_to c w r (value_at c w read (loc.Reg r)) (value_at c w read l)

unfoldable pub imul3_done : Ctx → Width → ℕ → ℕ → Loc → ℤ → Ctx
imul3_done c w read r l value = multiplied_to c w r (value_at c w read l) (immediate w value)
