-- Sums, differences and bitwise operations. m is the number of values of an operand.
-- Source: Intel SDM volume 2, the pages of ADD, ADC, SUB, SBB, CMP, NEG, INC, DEC, AND, OR, XOR, TEST, NOT.
use Rattle.std.specs.Prelude.{ℕ, ◌+◌, ◌-◌, ◌%◌, pos, ◌+ℤ◌, ◌-ℤ◌, Bool, not, nat_lt, nat_le, bit_and, bit_or, bit_xor}
use Rattle.x86_alu.specs.declared.flags.Flags.{Flags}
use Rattle.x86_alu.specs.declared.op.AluOp.{AluOp}
use Rattle.x86_alu.specs.declared.op.AluOp.TheVariants as op
use Rattle.x86_alu.specs.Operand.{signed, fits_signed}
use Rattle.x86_alu.specs.Flags.{bit, of_result, with_flags, carry_of}

-- a + b + c
abbrev pub sum_of : ℕ → ℕ → ℕ → ℕ → ℕ
sum_of m a b c = (a + b + c) % m

-- CF: the sum doesn't fit. AF: the sum of the low digits, of four bits each, doesn't fit. OF: the signed sum doesn't fit.
unfoldable pub added : ℕ → ℕ → ℕ → ℕ → Flags
added m a b c = record (of_result m (sum_of m a b c)) {
  cf = nat_le m (a + b + c);
  af = nat_le 16 (a % 16 + b % 16 + c);
  of = not (fits_signed m (signed m a +ℤ signed m b +ℤ pos c));
}

-- a - b - c
abbrev pub difference_of : ℕ → ℕ → ℕ → ℕ → ℕ
difference_of m a b c = (m + a - (b + c)) % m

-- CF: the difference is below 0, so it borrows. AF: that of the low digits is. OF: the signed difference doesn't fit.
unfoldable pub subtracted : ℕ → ℕ → ℕ → ℕ → Flags
subtracted m a b c = record (of_result m (difference_of m a b c)) {
  cf = nat_lt a (b + c);
  af = nat_lt (a % 16) (b % 16 + c);
  of = not (fits_signed m (signed m a -ℤ signed m b -ℤ pos c));
}

-- the result of an operation, c being the carry flag before it
unfoldable pub alu_result : AluOp → ℕ → ℕ → ℕ → Bool → ℕ
alu_result op.Add m a b c = sum_of m a b 0
alu_result op.Adc m a b c = sum_of m a b (bit c)
alu_result op.Sub m a b c = difference_of m a b 0
alu_result op.Sbb m a b c = difference_of m a b (bit c)
alu_result op.Cmp m a b c = difference_of m a b 0
alu_result op.And m a b c = bit_and a b
alu_result op.Or m a b c = bit_or a b
alu_result op.Xor m a b c = bit_xor a b
alu_result op.Test m a b c = bit_and a b
alu_result op.Not m a b c = m - 1 - a
alu_result op.Neg m a b c = difference_of m 0 a 0
alu_result op.Inc m a b c = sum_of m a 1 0
alu_result op.Dec m a b c = difference_of m a 1 0

-- RFLAGS after an operation, n being RFLAGS before it
unfoldable pub alu_flags : AluOp → ℕ → ℕ → ℕ → ℕ → ℕ
alu_flags op.Add m a b n = with_flags n (added m a b 0)
alu_flags op.Adc m a b n = with_flags n (added m a b (bit (carry_of n)))
alu_flags op.Sub m a b n = with_flags n (subtracted m a b 0)
alu_flags op.Sbb m a b n = with_flags n (subtracted m a b (bit (carry_of n)))
alu_flags op.Cmp m a b n = with_flags n (subtracted m a b 0)
alu_flags op.And m a b n = with_flags n (of_result m (bit_and a b))
alu_flags op.Or m a b n = with_flags n (of_result m (bit_or a b))
alu_flags op.Xor m a b n = with_flags n (of_result m (bit_xor a b))
alu_flags op.Test m a b n = with_flags n (of_result m (bit_and a b))
alu_flags op.Not m a b n = n
alu_flags op.Neg m a b n = with_flags n (subtracted m 0 a 0)
alu_flags op.Inc m a b n = with_flags n (record (added m a 1 0) { cf = carry_of n })
alu_flags op.Dec m a b n = with_flags n (record (subtracted m a 1 0) { cf = carry_of n })
