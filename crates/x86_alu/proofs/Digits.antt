-- What a sum or a difference carries, seen in its bits.
use Rattle.std.proofs.Common.{◌≡◌, ℕ, ◌+◌, ◌-◌, ◌*◌, ◌/◌, ◌%◌, ◌^◌, ◌<◌, ◌≤◌, zero, suc, min, Bool, true, false, not, ◌&&◌, pos, ◌+ℤ◌, ◌-ℤ◌, nat_eq, nat_lt, nat_le, bit_and, bit_xor, refl, sym, ap, ap₂, subst, ◌∙◌, inl, inr, arith, add_comm}
use Rattle.std.specs.Int.{bit_at}
use Rattle.std.proofs.lemmas.Bool.{cases_lt, lt-leb, le-leb, lt-ltb, le-ltb}
use Rattle.std.proofs.lemmas.Nat.{shr_below, mod_below}
use Rattle.std.proofs.lemmas.Nat.Bits.{bit_at_and, bit_at_xor}
use mathlib.Core.Bool.{beq}
use Rattle.vm_law.specs.declared.insn.Width.{Width}
use Rattle.vm_law.specs.declared.insn.Width.TheVariants.{B, W, D, Q}
use Rattle.x86_alu.specs.Operand.{span, size_of, is_negative, signed, fits_signed}
use Rattle.x86_alu.specs.Flags.{bit, is_set}
use Rattle.x86_alu.specs.Arithmetic.{sum_of, difference_of}
use Rattle.x86_alu.proofs.Masks.{size_pos, span_even, span_pos, top_bit}
use Rattle.x86_alu.proofs.Overflow.{signed_reads, same_sum, mixed_sum, same_difference, mixed_difference}

-- ---- the carry out of the low four bits

xor_three : (a b r i : ℕ) → bit_at (bit_xor (bit_xor a b) r) i ≡ ((bit_at a i + bit_at b i) % 2 + bit_at r i) % 2
xor_three a b r i = bit_at_xor (bit_xor a b) r i ∙ ap (λ (x : ℕ). (x + bit_at r i) % 2) (bit_at_xor a b i)

-- the fifth bit is the same modulo 2 to the width
fifth_bit : (w : Width) (n : ℕ) → n % span w / 16 % 2 ≡ n / 16 % 2
fifth_bit B n = omega arith
fifth_bit W n = omega arith
fifth_bit D n = omega arith
fifth_bit Q n = omega arith

sum_fifth : (a b c : ℕ) → c ≤ 1 → nat_eq (((a / 16 % 2 + b / 16 % 2) % 2 + (a + b + c) / 16 % 2) % 2) 1 ≡ nat_le 16 (a % 16 + b % 16 + c)
sum_fifth a b c h = elim (cases_lt (a % 16 + b % 16 + c) 16) [
  | inl small ↦
      let none : ((a / 16 % 2 + b / 16 % 2) % 2 + (a + b + c) / 16 % 2) % 2 ≡ 0 = omega arith in
      ap (λ (x : ℕ). nat_eq x 1) none ∙ sym (lt-leb 16 (a % 16 + b % 16 + c) small)
  | inr large ↦
      let one : ((a / 16 % 2 + b / 16 % 2) % 2 + (a + b + c) / 16 % 2) % 2 ≡ 1 = omega arith in
      ap (λ (x : ℕ). nat_eq x 1) one ∙ sym (le-leb 16 (a % 16 + b % 16 + c) large)
]

pub sum_digit : (w : Width) (a b c r : ℕ) → c ≤ 1 → r ≡ sum_of (span w) a b c
    → is_set (bit_xor (bit_xor a b) r) 4 ≡ nat_le 16 (a % 16 + b % 16 + c)
unfolding is_set
sum_digit w a b c r h is =
    let there : r / 16 % 2 ≡ (a + b + c) / 16 % 2 = ap (λ (x : ℕ). x / 16 % 2) is ∙ fifth_bit w (a + b + c) in
    ap (λ (x : ℕ). nat_eq x 1) (xor_three a b r 4)
    ∙ ap (λ (x : ℕ). nat_eq (((a / 16 % 2 + b / 16 % 2) % 2 + x) % 2) 1) there
    ∙ sum_fifth a b c h

-- what a difference modulo 2 to the width has there, k being half of 2 to the width less 4
difference_fifth : (k a b c : ℕ) → c ≤ 1 → b < 32 * k
    → nat_eq (((a / 16 % 2 + b / 16 % 2) % 2 + (32 * k + a - (b + c)) / 16 % 2) % 2) 1 ≡ nat_lt (a % 16) (b % 16 + c)
difference_fifth k a b c h fits = elim (cases_lt (a % 16) (b % 16 + c)) [
  | inl small ↦
      let one : ((a / 16 % 2 + b / 16 % 2) % 2 + (32 * k + a - (b + c)) / 16 % 2) % 2 ≡ 1 = omega arith in
      ap (λ (x : ℕ). nat_eq x 1) one ∙ sym (lt-ltb (a % 16) (b % 16 + c) small)
  | inr large ↦
      let none : ((a / 16 % 2 + b / 16 % 2) % 2 + (32 * k + a - (b + c)) / 16 % 2) % 2 ≡ 0 = omega arith in
      ap (λ (x : ℕ). nat_eq x 1) none ∙ sym (le-ltb (a % 16) (b % 16 + c) large)
]

span_parts : (w : Width) → span w ≡ 32 * (span w / 32)
span_parts B = omega arith
span_parts W = omega arith
span_parts D = omega arith
span_parts Q = omega arith

pub difference_digit : (w : Width) (a b c r : ℕ) → c ≤ 1 → b < span w → r ≡ difference_of (span w) a b c
    → is_set (bit_xor (bit_xor a b) r) 4 ≡ nat_lt (a % 16) (b % 16 + c)
unfolding is_set
difference_digit w a b c r h fits is =
    let there : r / 16 % 2 ≡ (32 * (span w / 32) + a - (b + c)) / 16 % 2 =
    ap (λ (x : ℕ). x / 16 % 2) is ∙ fifth_bit w (span w + a - (b + c)) ∙ ap (λ (x : ℕ). (x + a - (b + c)) / 16 % 2) (span_parts w) in
    ap (λ (x : ℕ). nat_eq x 1) (xor_three a b r 4)
    ∙ ap (λ (x : ℕ). nat_eq (((a / 16 % 2 + b / 16 % 2) % 2 + x) % 2) 1) there
    ∙ difference_fifth (span w / 32) a b c h (subst (λ (x : ℕ). b < x) (span_parts w) fits)

-- ---- the signed result fits, by three signs

small_bit : (q : ℕ) → q < 2 → q % 2 ≡ bit (nat_eq q 1)
small_bit zero h = refl
small_bit (suc zero) h = refl
small_bit (suc (suc n)) h = absurd (omega (arith, h))

-- the top bit is the sign
sign_bit : (w : Width) (a : ℕ) → a < span w → bit_at a (size_of w - 1) ≡ bit (is_negative (span w) a)
sign_bit w a fits =
    let s : ℕ = size_of w in
    let some : 0 < s = size_pos w in
    let whole : s ≡ 1 + (s - 1) = omega arith in
    let below : a / 2 ^ (s - 1) < 2 = shr_below a 1 (s - 1) (subst (λ (x : ℕ). a < 2 ^ x) whole fits) in
    small_bit (a / 2 ^ (s - 1)) below ∙ ap bit (top_bit a s some fits)

-- x, y and z are the signs of a, b and the result
sum_signs : (x y z : Bool) → nat_eq (min ((bit x + bit z) % 2) ((bit y + bit z) % 2)) 1 ≡ (beq y x && not (beq z x))
sum_signs true true true = refl
sum_signs true true false = refl
sum_signs true false true = refl
sum_signs true false false = refl
sum_signs false true true = refl
sum_signs false true false = refl
sum_signs false false true = refl
sum_signs false false false = refl

difference_signs : (x y z : Bool) → nat_eq (min ((bit x + bit y) % 2) ((bit x + bit z) % 2)) 1 ≡ (not (beq y x) && not (beq z x))
difference_signs true true true = refl
difference_signs true true false = refl
difference_signs true false true = refl
difference_signs true false false = refl
difference_signs false true true = refl
difference_signs false true false = refl
difference_signs false false true = refl
difference_signs false false false = refl

two_xors : (a b c d i : ℕ) → bit_at (bit_and (bit_xor a b) (bit_xor c d)) i ≡ min ((bit_at a i + bit_at b i) % 2) ((bit_at c i + bit_at d i) % 2)
two_xors a b c d i = bit_at_and (bit_xor a b) (bit_xor c d) i ∙ ap₂ min (bit_at_xor a b i) (bit_at_xor c d i)

sum_over : (m a b c r : ℕ) → m ≡ 2 * (m / 2) → a < m → b < m → c ≤ 1 → r ≡ sum_of m a b c
    → (e : Bool) → beq (is_negative m b) (is_negative m a) ≡ e
    → (e && not (beq (is_negative m r) (is_negative m a))) ≡ not (fits_signed m (signed m a +ℤ signed m b +ℤ pos c))
sum_over m a b c r even fa fb fc is true e =
    ap (λ (x : ℕ). not (beq (is_negative m x) (is_negative m a))) is
    ∙ ap not (sym (same_sum m a b c (signed m a) (signed m b) (is_negative m a) (is_negative m b) even fa fb fc (signed_reads m a) (signed_reads m b) e))
sum_over m a b c r even fa fb fc is false e =
    ap not (sym (mixed_sum m a b c (signed m a) (signed m b) (is_negative m a) (is_negative m b) even fa fb fc (signed_reads m a) (signed_reads m b) e))

difference_over : (m a b c r : ℕ) → m ≡ 2 * (m / 2) → a < m → b < m → c ≤ 1 → r ≡ difference_of m a b c
    → (e : Bool) → beq (is_negative m b) (is_negative m a) ≡ e
    → (not e && not (beq (is_negative m r) (is_negative m a))) ≡ not (fits_signed m (signed m a -ℤ signed m b -ℤ pos c))
difference_over m a b c r even fa fb fc is true e =
    ap not (sym (same_difference m a b c (signed m a) (signed m b) (is_negative m a) (is_negative m b) even fa fb fc (signed_reads m a) (signed_reads m b) e))
difference_over m a b c r even fa fb fc is false e =
    ap (λ (x : ℕ). not (beq (is_negative m x) (is_negative m a))) is
    ∙ ap not (sym (mixed_difference m a b c (signed m a) (signed m b) (is_negative m a) (is_negative m b) even fa fb fc (signed_reads m a) (signed_reads m b) e))

pub sum_sign : (w : Width) (a b c r size : ℕ) → size ≡ size_of w → a < span w → b < span w → c ≤ 1 → r ≡ sum_of (span w) a b c
    → is_set (bit_and (bit_xor a r) (bit_xor b r)) (size - 1) ≡ not (fits_signed (span w) (signed (span w) a +ℤ signed (span w) b +ℤ pos c))
unfolding is_set
sum_sign w a b c r size by fa fb fc is =
    let m : ℕ = span w in
    let i : ℕ = size_of w - 1 in
    let fr : r < m = subst (λ (x : ℕ). x < m) (sym is) (mod_below (a + b + c) m (span_pos w)) in
    ap (λ (s : ℕ). nat_eq (bit_at (bit_and (bit_xor a r) (bit_xor b r)) (s - 1)) 1) by
    ∙ ap (λ (x : ℕ). nat_eq x 1) (two_xors a r b r i)
    ∙ ap₂ (λ (x y : ℕ). nat_eq (min ((x + bit_at r i) % 2) ((y + bit_at r i) % 2)) 1) (sign_bit w a fa) (sign_bit w b fb)
    ∙ ap (λ (z : ℕ). nat_eq (min ((bit (is_negative m a) + z) % 2) ((bit (is_negative m b) + z) % 2)) 1) (sign_bit w r fr)
    ∙ sum_signs (is_negative m a) (is_negative m b) (is_negative m r)
    ∙ sum_over m a b c r (span_even w) fa fb fc is (beq (is_negative m b) (is_negative m a)) refl

pub difference_sign : (w : Width) (a b c r size : ℕ) → size ≡ size_of w → a < span w → b < span w → c ≤ 1 → r ≡ difference_of (span w) a b c
    → is_set (bit_and (bit_xor a b) (bit_xor a r)) (size - 1) ≡ not (fits_signed (span w) (signed (span w) a -ℤ signed (span w) b -ℤ pos c))
unfolding is_set
difference_sign w a b c r size by fa fb fc is =
    let m : ℕ = span w in
    let i : ℕ = size_of w - 1 in
    let fr : r < m = subst (λ (x : ℕ). x < m) (sym is) (mod_below (m + a - (b + c)) m (span_pos w)) in
    ap (λ (s : ℕ). nat_eq (bit_at (bit_and (bit_xor a b) (bit_xor a r)) (s - 1)) 1) by
    ∙ ap (λ (x : ℕ). nat_eq x 1) (two_xors a b a r i)
    ∙ ap₂ (λ (x y : ℕ). nat_eq (min ((x + y) % 2) ((x + bit_at r i) % 2)) 1) (sign_bit w a fa) (sign_bit w b fb)
    ∙ ap (λ (z : ℕ). nat_eq (min ((bit (is_negative m a) + bit (is_negative m b)) % 2) ((bit (is_negative m a) + z) % 2)) 1) (sign_bit w r fr)
    ∙ difference_signs (is_negative m a) (is_negative m b) (is_negative m r)
    ∙ difference_over m a b c r (span_even w) fa fb fc is (beq (is_negative m b) (is_negative m a)) refl
