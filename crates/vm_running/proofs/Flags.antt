-- RFLAGS has only the bits that are built: each flag that is set or cleared is one of them.
use Rattle.std.specs.Prelude.{◌==◌, if◌then◌else◌}
use Rattle.std.specs.Int.{w64, bit_at}
use Rattle.std.specs.Int.Bits.{and_self}
use Rattle.std.proofs.Common.{◌≡◌, ◌≢◌, ℕ, ◌-◌, ◌%◌, ◌*◌, ◌^◌, ◌<◌, min, max, Bool, true, false, bit_and, bit_or, refl, sym, ap, subst, ◌∙◌, inl, inr, arith}
use Rattle.std.proofs.lemmas.Bool.{cases_eq, cases_lt}
use Rattle.std.proofs.lemmas.Nat.{or_lt, and_le_l, and_le_r, and_assoc, and_or_apart}
use Rattle.std.proofs.lemmas.Nat.Bits.{same_from_bits, bit_at_and, bit_at_or, bit_at-lt, bit_at_above, bit_at_set_other, bit_at_clear_other}
use Rattle.vm_law.specs.declared.insn.Width.{Width}
use Rattle.vm_law.specs.declared.insn.ShiftOp.{ShiftOp}
use Rattle.vm_law.specs.declared.insn.ShiftOp.TheVariants.{Rol, Ror, Shl, Shr, Sar}
use Rattle.x86_alu.specs.Operand.{size_of}
use Rattle.x86_alu.specs.Flags.{with_bit, with_flags, with_carry_overflow}
use Rattle.x86_alu.specs.declared.flags.Flags.{Flags}
use Rattle.x86_alu.specs.declared.op.AluOp.{AluOp}
use Rattle.x86_alu.specs.declared.op.AluOp.TheVariants as alu
use Rattle.x86_alu.specs.declared.op.BitOp.{BitOp}
use Rattle.x86_alu.specs.declared.op.BitOp.TheVariants as bit
use Rattle.x86_alu.specs.Arithmetic.{alu_flags}
use Rattle.x86_alu.specs.BitTest.{bit_flags, test_flags, scan_flags}
use Rattle.x86_alu.specs.Product.{mul_flags, div_flags}
use Rattle.x86_alu.specs.Shift.{shift_flags, flags_moved, rol_flags, ror_flags, count_of, shift_result}
use Rattle.x86_alu.proofs.Masks.{set_is, clear_is}
use Rattle.x86_op.specs.Flow.{masked_flags}

-- a value of RFLAGS with only the bits that are built
abbrev pub IsBuilt : ℕ → Type 0
IsBuilt n = masked_flags n ≡ n

-- the flags that a program may write
abbrev writable : ℕ
writable = 3797

pub masked_built : (n : ℕ) → IsBuilt (masked_flags n)
unfolding masked_flags
masked_built n = ap (λ k. bit_or k 2) (and_or_apart writable (bit_and n writable) 2 refl ∙ and_assoc writable n writable ∙ ap (λ k. bit_and n k) (and_self writable))

-- ---- bit by bit

masked_at : (n j : ℕ) → bit_at (masked_flags n) j ≡ max (min (bit_at n j) (bit_at writable j)) (bit_at 2 j)
unfolding masked_flags
masked_at n j = bit_at_or (bit_and n writable) 2 j ∙ ap (λ x. max x (bit_at 2 j)) (bit_at_and n writable j)

masked_small : (n : ℕ) → masked_flags n < 2 ^ 64
unfolding masked_flags
masked_small n = let le = and_le_r n writable in or_lt 64 (bit_and n writable) 2 (omega arith) (omega arith)

cleared_other : (n k j : ℕ) → n < 2 ^ 64 → k < 64 → j ≢ k → bit_at (bit_and n (2 ^ 64 - 1 - 1 * 2 ^ k % 2 ^ 64)) j ≡ bit_at n j
cleared_other n k j fits within apart = elim (cases_lt j 64) [
  | inl low ↦ bit_at_clear_other w64 n k within j low apart
  | inr past ↦
      let le = and_le_l n (2 ^ 64 - 1 - 1 * 2 ^ k % 2 ^ 64) in
      bit_at_above _ 64 j (omega arith) past ∙ sym (bit_at_above n 64 j fits past)
]

other_bit : (n k j : ℕ) (b : Bool) → n < 2 ^ 64 → k < 64 → j ≢ k → bit_at (with_bit n k b) j ≡ bit_at n j
other_bit n k j true fits within apart = ap (λ x. bit_at x j) (sym (set_is n k within)) ∙ bit_at_set_other w64 n k within j apart
other_bit n k j false fits within apart = ap (λ x. bit_at x j) (sym (clear_is n k fits within)) ∙ cleared_other n k j fits within apart

-- a flag that may be written is kept as it is
kept_bit : (x w t : ℕ) → x < 2 → w ≡ 1 → t ≡ 0 → max (min x w) t ≡ x
kept_bit x w t small one none = omega arith

-- one of these flags is another
pub bit_built : (n k : ℕ) (b : Bool) → IsBuilt n → k < 64 → bit_at writable k ≡ 1 → bit_at 2 k ≡ 0 → IsBuilt (with_bit n k b)
bit_built n k b h within one none =
    let small = masked_small n in
    same_from_bits _ _ (λ j. masked_at (with_bit n k b) j ∙ elim (cases_eq j k) [
      | inl same ↦ subst (λ (i : ℕ). max (min (bit_at (with_bit n k b) i) (bit_at writable i)) (bit_at 2 i) ≡ bit_at (with_bit n k b) i) (sym same)
          (kept_bit (bit_at (with_bit n k b) k) (bit_at writable k) (bit_at 2 k) (bit_at-lt (with_bit n k b) k) one none)
      | inr apart ↦
          let e : bit_at (with_bit n k b) j ≡ bit_at n j = other_bit n k j b (subst (λ (x : ℕ). x < 2 ^ 64) h small) within apart in
          ap (λ (x : ℕ). max (min x (bit_at writable j)) (bit_at 2 j)) e ∙ sym (masked_at n j) ∙ ap (λ (x : ℕ). bit_at x j) h ∙ sym e
    ])

pub carry_built : (n : ℕ) (b : Bool) → IsBuilt n → IsBuilt (with_bit n 0 b)
carry_built n b h = bit_built n 0 b h (omega arith) refl refl

pub interrupt_built : (n : ℕ) (b : Bool) → IsBuilt n → IsBuilt (with_bit n 9 b)
interrupt_built n b h = bit_built n 9 b h (omega arith) refl refl

pub direction_built : (n : ℕ) (b : Bool) → IsBuilt n → IsBuilt (with_bit n 10 b)
direction_built n b h = bit_built n 10 b h (omega arith) refl refl

overflow_built : (n : ℕ) (b : Bool) → IsBuilt n → IsBuilt (with_bit n 11 b)
overflow_built n b h = bit_built n 11 b h (omega arith) refl refl

flags_built : (n : ℕ) (f : Flags) → IsBuilt n → IsBuilt (with_flags n f)
unfolding with_flags
flags_built n f h =
    overflow_built _ f.of (bit_built _ 7 f.sf (bit_built _ 6 f.zf (bit_built _ 4 f.af (bit_built _ 2 f.pf (carry_built n f.cf h) (omega arith) refl refl) (omega arith) refl refl) (omega arith) refl refl) (omega arith) refl refl)

rotated_built : (n : ℕ) (cf of : Bool) → IsBuilt n → IsBuilt (with_carry_overflow n cf of)
unfolding with_carry_overflow
rotated_built n cf of h = overflow_built _ of (carry_built n cf h)

-- ---- operation by operation

pub alu_built : (op : AluOp) (m a b n : ℕ) → IsBuilt n → IsBuilt (alu_flags op m a b n)
unfolding alu_flags
alu_built alu.Add m a b n h = flags_built n _ h
alu_built alu.Adc m a b n h = flags_built n _ h
alu_built alu.Sub m a b n h = flags_built n _ h
alu_built alu.Sbb m a b n h = flags_built n _ h
alu_built alu.Cmp m a b n h = flags_built n _ h
alu_built alu.And m a b n h = flags_built n _ h
alu_built alu.Or m a b n h = flags_built n _ h
alu_built alu.Xor m a b n h = flags_built n _ h
alu_built alu.Test m a b n h = flags_built n _ h
alu_built alu.Not m a b n h = h
alu_built alu.Neg m a b n h = flags_built n _ h
alu_built alu.Inc m a b n h = flags_built n _ h
alu_built alu.Dec m a b n h = flags_built n _ h

moved_built : (op : ShiftOp) (s a r n old : ℕ) → IsBuilt old → IsBuilt (flags_moved op s a r n old)
unfolding flags_moved rol_flags ror_flags
moved_built Rol s a r n old h = rotated_built old _ _ h
moved_built Ror s a r n old h = rotated_built old _ _ h
moved_built Shl s a r n old h = flags_built old _ h
moved_built Shr s a r n old h = flags_built old _ h
moved_built Sar s a r n old h = flags_built old _ h

either : (b : Bool) (x y : ℕ) → IsBuilt x → IsBuilt y → IsBuilt (if b then x else y)
either true x y p q = p
either false x y p q = q

pub shift_built : (op : ShiftOp) (w : Width) (a count old : ℕ) → IsBuilt old → IsBuilt (shift_flags op w a count old)
unfolding shift_flags
shift_built op w a count old h = either (count_of w count == 0) old _ h (moved_built op (size_of w) a (shift_result op w a count) (count_of w count) old h)

test_built : (s a b n : ℕ) → IsBuilt n → IsBuilt (test_flags s a b n)
unfolding test_flags
test_built s a b n h = flags_built n _ h

scan_built : (b n : ℕ) → IsBuilt n → IsBuilt (scan_flags b n)
unfolding scan_flags
scan_built b n h = flags_built n _ h

pub bits_built : (op : BitOp) (s a b n : ℕ) → IsBuilt n → IsBuilt (bit_flags op s a b n)
unfolding bit_flags
bits_built bit.Bt s a b n h = test_built s a b n h
bits_built bit.Bts s a b n h = test_built s a b n h
bits_built bit.Btr s a b n h = test_built s a b n h
bits_built bit.Btc s a b n h = test_built s a b n h
bits_built bit.Bsf s a b n h = scan_built b n h
bits_built bit.Bsr s a b n h = scan_built b n h

pub mul_built : (s : Bool) (m a b n : ℕ) → IsBuilt n → IsBuilt (mul_flags s m a b n)
unfolding mul_flags
mul_built s m a b n h = flags_built n _ h

pub div_built : (n : ℕ) → IsBuilt n → IsBuilt (div_flags n)
unfolding div_flags
div_built n h = flags_built n _ h
