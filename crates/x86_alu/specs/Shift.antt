-- Shifts and rotates of an operand a of s bits by n.
-- Source: Intel SDM volume 2, the pages of SAL, SAR, SHL, SHR and of RCL, RCR, ROL, ROR.
use Rattle.std.specs.Prelude.{ℕ, ◌+◌, ◌-◌, ◌*◌, ◌/◌, ◌%◌, ◌^◌, Bool, true, false, not, ◌&&◌, nat_lt, ◌==◌, if◌then◌else◌}
use Rattle.vm_law.specs.declared.insn.Width.{Width}
use Rattle.vm_law.specs.declared.insn.Width.TheVariants.{B, W, D, Q}
use Rattle.vm_law.specs.declared.insn.ShiftOp.{ShiftOp}
use Rattle.vm_law.specs.declared.insn.ShiftOp.TheVariants.{Rol, Ror, Shl, Shr, Sar}
use Rattle.x86_alu.specs.declared.flags.Flags.{Flags}
use Rattle.x86_alu.specs.Operand.{size_of, is_negative, signed, residue, floored}
use Rattle.x86_alu.specs.Flags.{is_set, of_result, with_flags, with_carry_overflow}

-- counts are taken modulo 32, or 64 at width 64
abbrev pub count_modulus : Width → ℕ
count_modulus B = 32
count_modulus W = 32
count_modulus D = 32
count_modulus Q = 64

-- one of two, and not both
abbrev pub differ : Bool → Bool → Bool
differ true b = not b
differ false b = b

-- n places to the top
abbrev pub shl_of : ℕ → ℕ → ℕ → ℕ
shl_of s a n = a * 2 ^ n % 2 ^ s

-- n places to the bottom
abbrev pub shr_of : ℕ → ℕ → ℕ
shr_of a n = a / 2 ^ n

-- the signed operand divided by 2 to the n, rounded down
abbrev pub sar_of : ℕ → ℕ → ℕ → ℕ
sar_of s a n = residue (2 ^ s) (floored (signed (2 ^ s) a) (2 ^ n))

-- what leaves at the top comes in at the bottom
abbrev pub rol_of : ℕ → ℕ → ℕ → ℕ
rol_of s a n = a * 2 ^ (n % s) % 2 ^ s + a / 2 ^ (s - n % s)

-- what leaves at the bottom comes in at the top
abbrev pub ror_of : ℕ → ℕ → ℕ → ℕ
ror_of s a n = a / 2 ^ (n % s) + a * 2 ^ (s - n % s) % 2 ^ s

-- the bit that leaves last; none, and so 0, where the count isn't below the size
unfoldable pub shl_carry : ℕ → ℕ → ℕ → Bool
shl_carry s a n = nat_lt n s && is_set a (s - n)

unfoldable pub shr_carry : ℕ → ℕ → ℕ → Bool
shr_carry s a n = nat_lt n s && is_set a (n - 1)

-- the lowest bit of what is left one step before the last
unfoldable pub sar_carry : ℕ → ℕ → ℕ → Bool
sar_carry s a n = residue 2 (floored (signed (2 ^ s) a) (2 ^ (n - 1))) == 1

-- A rotate touches CF and OF alone. OF is defined for a count of 1, and clear else: after ROL it is set where the top bit differs
-- from CF, after ROR where the two top bits differ.
unfoldable pub rol_flags : ℕ → ℕ → ℕ → ℕ → ℕ
rol_flags s r n old = with_carry_overflow old (is_set r 0) (n == 1 && differ (is_negative (2 ^ s) r) (is_set r 0))

unfoldable pub ror_flags : ℕ → ℕ → ℕ → ℕ → ℕ
ror_flags s r n old = with_carry_overflow old (is_negative (2 ^ s) r) (n == 1 && differ (is_negative (2 ^ s) r) (is_set r (s - 2)))

-- A shift sets ZF, SF and PF by the result r, and clears AF. OF is defined for a count of 1, and clear else: SHL sets it where the
-- top bit of the result differs from CF, SHR where the operand was negative, SAR never.
unfoldable pub shl_flags : ℕ → ℕ → ℕ → ℕ → Flags
shl_flags s a r n = record (of_result (2 ^ s) r) {
  cf = shl_carry s a n;
  of = n == 1 && differ (is_negative (2 ^ s) r) (shl_carry s a n);
}

unfoldable pub shr_flags : ℕ → ℕ → ℕ → ℕ → Flags
shr_flags s a r n = record (of_result (2 ^ s) r) { cf = shr_carry s a n; of = n == 1 && is_negative (2 ^ s) a }

unfoldable pub sar_flags : ℕ → ℕ → ℕ → ℕ → Flags
sar_flags s a r n = record (of_result (2 ^ s) r) { cf = sar_carry s a n }

-- the operand after
unfoldable pub shifted : ShiftOp → ℕ → ℕ → ℕ → ℕ
shifted Rol s a n = rol_of s a n
shifted Ror s a n = ror_of s a n
shifted Shl s a n = shl_of s a n
shifted Shr s a n = shr_of a n
shifted Sar s a n = sar_of s a n

-- RFLAGS after, r being the operand after
unfoldable pub flags_moved : ShiftOp → ℕ → ℕ → ℕ → ℕ → ℕ → ℕ
flags_moved Rol s a r n old = rol_flags s r n old
flags_moved Ror s a r n old = ror_flags s r n old
flags_moved Shl s a r n old = with_flags old (shl_flags s a r n)
flags_moved Shr s a r n old = with_flags old (shr_flags s a r n)
flags_moved Sar s a r n old = with_flags old (sar_flags s a r n)

-- the count that is used
abbrev pub count_of : Width → ℕ → ℕ
count_of w count = count % count_modulus w

abbrev pub shift_result : ShiftOp → Width → ℕ → ℕ → ℕ
shift_result op w a count = shifted op (size_of w) a (count_of w count)

-- a count of 0 changes no flag
unfoldable pub shift_flags : ShiftOp → Width → ℕ → ℕ → ℕ → ℕ
shift_flags op w a count old =
    if count_of w count == 0 then old
    else flags_moved op (size_of w) a (shift_result op w a count) (count_of w count) old
