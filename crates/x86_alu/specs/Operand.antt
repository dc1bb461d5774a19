-- Operands of 8, 16, 32 and 64 bits as whole numbers.
-- Source: Intel SDM volume 1, sections 4.1 and 4.2.1: unsigned integers, and signed ones in two's complement.
use Rattle.std.specs.Prelude.{ℕ, ◌-◌, ◌/◌, ◌%◌, ◌^◌, ℤ, pos, negsuc, ◌-ℤ◌, neg_ℤ, Bool, ◌&&◌, nat_le, int_le, int_lt, if◌then◌else◌}
use Rattle.vm_law.specs.declared.insn.Width.{Width}
use Rattle.vm_law.specs.declared.insn.Width.TheVariants.{B, W, D, Q}

-- how many bits an operand has
abbrev pub size_of : Width → ℕ
size_of B = 8
size_of W = 16
size_of D = 32
size_of Q = 64

-- how many values an operand can have: it is a number below this
abbrev pub span : Width → ℕ
span w = 2 ^ size_of w

-- Below, m is the number of values: 2 to the number of bits.

-- a signed operand is below 0, which its top bit says
unfoldable pub is_negative : ℕ → ℕ → Bool
is_negative m a = nat_le (m / 2) a

-- the signed integer that an operand stands for
unfoldable pub signed : ℕ → ℕ → ℤ
signed m a = if is_negative m a then pos a -ℤ pos m else pos a

-- z is one of the signed integers of this size: from -m/2 to m/2 - 1
unfoldable pub fits_signed : ℕ → ℤ → Bool
fits_signed m z = int_le (neg_ℤ (pos (m / 2))) z && int_lt z (pos (m / 2))

-- z modulo m: the number below m that differs from z by a multiple of m
unfoldable pub residue : ℕ → ℤ → ℕ
residue m (pos n) = n % m
residue m (negsuc n) = m - 1 - n % m

-- z / d, rounded down
unfoldable pub floored : ℤ → ℕ → ℤ
floored (pos n) d = pos (n / d)
floored (negsuc n) d = negsuc (n / d)
