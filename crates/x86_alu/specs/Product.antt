-- Products of two operands, and quotients of a double operand. m is the number of values of an operand.
-- Source: Intel SDM volume 2, the pages of MUL, IMUL, DIV, IDIV.
use Rattle.std.specs.Prelude.{ℕ, ◌+◌, ◌*◌, ℤ, pos, ◌*ℤ◌, neg_ℤ, int_div, int_rem, int_le, int_lt, Bool, true, false, not, ◌&&◌, ◌||◌, ◌==◌}
use Rattle.x86_alu.specs.Operand.{signed, fits_signed, residue}
use Rattle.x86_alu.specs.Flags.{with_flags}

-- the integer that an operand stands for, in a signed operation or in an unsigned one
unfoldable pub value : Bool → ℕ → ℕ → ℤ
value true m a = signed m a
value false m a = pos a

-- an integer by its sign and its size
abbrev pub integer : Bool → ℕ → ℤ
integer true n = neg_ℤ (pos n)
integer false n = pos n

-- z is the integer of some operand
unfoldable pub fits : Bool → ℕ → ℤ → Bool
fits true m z = fits_signed m z
fits false m z = int_le (pos 0) z && int_lt z (pos m)

-- the product of two operands, and the operand of twice the size that stands for it
unfoldable pub product_of : Bool → ℕ → ℕ → ℕ → ℤ
product_of s m a b = value s m a *ℤ value s m b

unfoldable pub product_bits : Bool → ℕ → ℕ → ℕ → ℕ
product_bits s m a b = residue (m * m) (product_of s m a b)

-- CF and OF where the product doesn't fit one operand; the other four clear
unfoldable pub mul_flags : Bool → ℕ → ℕ → ℕ → ℕ → ℕ
mul_flags s m a b n =
    let over = not (fits s m (product_of s m a b)) in
    with_flags n (record { cf = over; pf = false; af = false; zf = false; sf = false; of = over })

-- the quotient, rounded toward zero, and the remainder, which has the dividend's sign
unfoldable pub quotient_of : Bool → ℕ → ℕ → ℕ → ℕ → ℤ
quotient_of s m high low by = int_div (value s (m * m) (high * m + low)) (value s m by)

unfoldable pub remainder_of : Bool → ℕ → ℕ → ℕ → ℕ → ℤ
remainder_of s m high low by = int_rem (value s (m * m) (high * m + low)) (value s m by)

-- #DE: the divisor is 0, or the quotient doesn't fit
unfoldable pub div_faults : Bool → ℕ → ℕ → ℕ → ℕ → Bool
div_faults s m high low by = by == 0 || not (fits s m (quotient_of s m high low by))

-- all six clear after a division
unfoldable pub div_flags : ℕ → ℕ
div_flags n = with_flags n (record { cf = false; pf = false; af = false; zf = false; sf = false; of = false })
