-- Tests and scans of bits. s is the number of bits of an operand.
-- Source: Intel SDM volume 2, the pages of BT, BTS, BTR, BTC, BSF, BSR.
use Rattle.std.specs.Prelude.{◌≡◌, ℕ, ◌-◌, ◌%◌, ◌<◌, true, false, not, ◌==◌, if◌then◌else◌}
use Rattle.std.specs.Int.{bit_at, w64, trailing_zeros, leading_zeros}
use Rattle.x86_alu.specs.declared.op.BitOp.{BitOp}
use Rattle.x86_alu.specs.declared.op.BitOp.TheVariants as op
use Rattle.x86_alu.specs.Flags.{is_set, with_bit, with_flags, zero_of}

-- i is the place of n's lowest 1
pub record IsLowestOne (n i : ℕ) : Type 0 where
  pub one : bit_at n i ≡ 1
  pub zeros : (j : ℕ) → j < i → bit_at n j ≡ 0

-- i is the place of n's highest 1
pub record IsHighestOne (n i : ℕ) : Type 0 where
  pub one : bit_at n i ≡ 1
  pub zeros : (j : ℕ) → i < j → bit_at n j ≡ 0

-- the two places, counted from either end of 64 bits
abbrev pub lowest_one : ℕ → ℕ
lowest_one n = trailing_zeros w64 n

abbrev pub highest_one : ℕ → ℕ
highest_one n = 63 - leading_zeros w64 n

-- the operand after: a is the one before, b the index, taken modulo the size, or the operand that is scanned. A scan of 0 leaves a.
unfoldable pub bit_result : BitOp → ℕ → ℕ → ℕ → ℕ
bit_result op.Bt s a b = a
bit_result op.Bts s a b = with_bit a (b % s) true
bit_result op.Btr s a b = with_bit a (b % s) false
bit_result op.Btc s a b = with_bit a (b % s) (not (is_set a (b % s)))
bit_result op.Bsf s a b = if b == 0 then a else lowest_one b
bit_result op.Bsr s a b = if b == 0 then a else highest_one b

-- a test: CF is the bit, ZF stays, the others are clear
unfoldable pub test_flags : ℕ → ℕ → ℕ → ℕ → ℕ
test_flags s a b n = with_flags n (record { cf = is_set a (b % s); pf = false; af = false; zf = zero_of n; sf = false; of = false })

-- a scan: ZF where there is nothing to find, the others clear
unfoldable pub scan_flags : ℕ → ℕ → ℕ
scan_flags b n = with_flags n (record { cf = false; pf = false; af = false; zf = b == 0; sf = false; of = false })

-- RFLAGS after, n being RFLAGS before
unfoldable pub bit_flags : BitOp → ℕ → ℕ → ℕ → ℕ → ℕ
bit_flags op.Bt s a b n = test_flags s a b n
bit_flags op.Bts s a b n = test_flags s a b n
bit_flags op.Btr s a b n = test_flags s a b n
bit_flags op.Btc s a b n = test_flags s a b n
bit_flags op.Bsf s a b n = scan_flags b n
bit_flags op.Bsr s a b n = scan_flags b n
