-- What masks and shifts of machine words are as whole numbers.
use Rattle.std.proofs.Common.{◌≡◌, ◌≢◌, ℕ, suc, ◌+◌, ◌-◌, ◌*◌, ◌/◌, ◌%◌, ◌^◌, ◌<◌, ◌≤◌, Bool, true, false, nat_eq, nat_le, bit_and, bit_or, w64, refl, sym, ap, subst, ◌∙◌, inl, inr, arith, pow_pos, add-one, pow-suc, mul_comm, add_assoc, mul-le-mul_right, mod-eq_of_lt, lt_of_le_of_lt}
use Rattle.std.specs.Int.{bit_at}
use Rattle.std.proofs.lemmas.Nat.{and_mask, shr_split, shr_below, mod_below, shr_high, and_le_l, div-mul-add, mul-add-lt, pow-add, leading_top}
use Rattle.std.proofs.lemmas.Nat.Bits.{same_from_bits, bit_at_set_same, bit_at_set_other, bit_at_clear_same, bit_at_clear_other, bit_at_cat_low, bit_at_cat_high, bit_at_above, bit_at-trailing_zeros}
use Rattle.std.proofs.lemmas.Bool.{cases_order, cases_lt, cases_eq, lt-leb, le-leb}
use Rattle.vm_law.specs.declared.insn.Width.{Width}
use Rattle.vm_law.specs.declared.insn.Width.TheVariants.{B, W, D, Q}
use Rattle.x86_alu.specs.declared.flags.Flags.{Flags}
use Rattle.x86_alu.specs.Flags.{bit, is_set, with_bit, with_flags, AreReplaced}
use Rattle.x86_alu.specs.BitTest.{IsLowestOne, IsHighestOne, lowest_one, highest_one}
use Rattle.x86_alu.specs.Operand.{span, size_of, is_negative}

pub low_bits : (n k mask : ℕ) → mask + 1 ≡ 2 ^ k → bit_and n mask ≡ n % 2 ^ k
low_bits n k mask e =
    let is_mask : mask ≡ 2 ^ k - 1 = omega arith in
    ap (bit_and n) is_mask ∙ and_mask n k

pub size_pos : (w : Width) → 0 < size_of w
size_pos B = omega arith
size_pos W = omega arith
size_pos D = omega arith
size_pos Q = omega arith

pub size_le : (w : Width) → size_of w ≤ 64
size_le B = omega arith
size_le W = omega arith
size_le D = omega arith
size_le Q = omega arith

-- ---- one bit replaced

-- a number with the digit d as its bit i
abbrev put : ℕ → ℕ → ℕ → ℕ
put n i d = n / 2 ^ (i + 1) * 2 ^ (i + 1) + d * 2 ^ i + n % 2 ^ i

mod_pow : (n i : ℕ) → n % 2 ^ i < 2 ^ i
mod_pow n i = mod_below n (2 ^ i) (pow_pos i)

two_pow : (i : ℕ) → 2 ^ (i + 1) ≡ 2 * 2 ^ i
two_pow i = rw (add-one) (pow-suc 2 i ∙ mul_comm (2 ^ i) 2)

put_grouped : (n i d : ℕ) → put n i d ≡ n / 2 ^ (i + 1) * 2 ^ (i + 1) + (d * 2 ^ i + n % 2 ^ i)
put_grouped n i d = add_assoc (n / 2 ^ (i + 1) * 2 ^ (i + 1)) (d * 2 ^ i) (n % 2 ^ i)

low_part : (n i d : ℕ) → d < 2 → d * 2 ^ i + n % 2 ^ i < 2 ^ (i + 1)
low_part n i d h =
    let below : d * 2 ^ i ≤ 1 * 2 ^ i = mul-le-mul_right (2 ^ i) (omega arith) in
    omega (arith, mod_pow n i, two_pow i)

bit_put_same : (n i d : ℕ) → d < 2 → bit_at (put n i d) i ≡ d
bit_put_same n i d h =
    ap (λ (x : ℕ). bit_at x i) (put_grouped n i d)
    ∙ bit_at_cat_low (n / 2 ^ (i + 1)) (i + 1) (d * 2 ^ i + n % 2 ^ i) i (omega arith)
    ∙ ap (λ (x : ℕ). x % 2) (shr_high d i (n % 2 ^ i) (mod_pow n i))
    ∙ mod-eq_of_lt h

bit_put_below : (n i d j : ℕ) → j < i → bit_at (put n i d) j ≡ bit_at n j
bit_put_below n i d j h =
    ap (λ (x : ℕ). bit_at x j) (put_grouped n i d)
    ∙ bit_at_cat_low (n / 2 ^ (i + 1)) (i + 1) (d * 2 ^ i + n % 2 ^ i) j (omega arith)
    ∙ bit_at_cat_low d i (n % 2 ^ i) j h
    ∙ sym (bit_at_cat_low (n / 2 ^ i) i (n % 2 ^ i) j h)
    ∙ ap (λ (x : ℕ). bit_at x j) (shr_split n i)

bit_put_above : (n i d j : ℕ) → d < 2 → i < j → bit_at (put n i d) j ≡ bit_at n j
bit_put_above n i d j small h =
    ap (λ (x : ℕ). bit_at x j) (put_grouped n i d)
    ∙ bit_at_cat_high (n / 2 ^ (i + 1)) (i + 1) (d * 2 ^ i + n % 2 ^ i) j (low_part n i d small) (omega arith)
    ∙ sym (bit_at_cat_high (n / 2 ^ (i + 1)) (i + 1) (n % 2 ^ (i + 1)) j (mod_pow n (i + 1)) (omega arith))
    ∙ ap (λ (x : ℕ). bit_at x j) (shr_split n (i + 1))

bit_put_other : (n i d j : ℕ) → d < 2 → j ≢ i → bit_at (put n i d) j ≡ bit_at n j
bit_put_other n i d j small apart = elim (cases_order j i) [
  | inl e ↦ absurd (apart e)
  | inr (inl h) ↦ bit_put_below n i d j h
  | inr (inr h) ↦ bit_put_above n i d j small h
]

bit_small : (b : Bool) → bit b < 2
bit_small true = omega arith
bit_small false = omega arith

-- a number with the bits of n but for bit i, which is d
from_bits : (n i d r : ℕ) → d < 2 → bit_at r i ≡ d → ((j : ℕ) → j ≢ i → bit_at r j ≡ bit_at n j) → r ≡ put n i d
from_bits n i d r small here others = same_from_bits r (put n i d) (λ j.
    elim (cases_eq j i) [
      | inl e ↦ subst (λ (x : ℕ). bit_at r x ≡ bit_at (put n i d) x) (sym e) (here ∙ sym (bit_put_same n i d small))
      | inr apart ↦ others j apart ∙ sym (bit_put_other n i d j small apart)
    ])

pub set_is : (n k : ℕ) → k < 64 → bit_or n (1 * 2 ^ k % 2 ^ 64) ≡ with_bit n k true
unfolding with_bit
set_is n k within = from_bits n k 1 (bit_or n (1 * 2 ^ k % 2 ^ 64)) (omega arith)
    (bit_at_set_same w64 n k within) (bit_at_set_other w64 n k within)

cleared_other : (n k j : ℕ) → n < 2 ^ 64 → k < 64 → j ≢ k → bit_at (bit_and n (2 ^ 64 - 1 - 1 * 2 ^ k % 2 ^ 64)) j ≡ bit_at n j
cleared_other n k j fits within apart = elim (cases_lt j 64) [
  | inl h ↦ bit_at_clear_other w64 n k within j h apart
  | inr past ↦
      let small : bit_and n (2 ^ 64 - 1 - 1 * 2 ^ k % 2 ^ 64) < 2 ^ 64 = lt_of_le_of_lt (and_le_l n (2 ^ 64 - 1 - 1 * 2 ^ k % 2 ^ 64)) fits in
      bit_at_above _ 64 j small past ∙ sym (bit_at_above n 64 j fits past)
]

pub clear_is : (n k : ℕ) → n < 2 ^ 64 → k < 64 → bit_and n (2 ^ 64 - 1 - 1 * 2 ^ k % 2 ^ 64) ≡ with_bit n k false
unfolding with_bit
clear_is n k fits within = from_bits n k 0 (bit_and n (2 ^ 64 - 1 - 1 * 2 ^ k % 2 ^ 64)) (omega arith)
    (bit_at_clear_same w64 n k within) (λ j apart. cleared_other n k j fits within apart)

pub with_bit_fits : (s n i : ℕ) (b : Bool) → i < s → n < 2 ^ s → with_bit n i b < 2 ^ s
unfolding with_bit
with_bit_fits s n i b within h =
    let e : s ≡ s - (i + 1) + (i + 1) = omega arith in
    let whole : 2 ^ s ≡ 2 ^ (i + 1) * 2 ^ (s - (i + 1)) =
    ap (λ (x : ℕ). 2 ^ x) e ∙ pow-add 2 (s - (i + 1)) (i + 1) ∙ mul_comm (2 ^ (s - (i + 1))) (2 ^ (i + 1)) in
    let above : n / 2 ^ (i + 1) < 2 ^ (s - (i + 1)) = shr_below n (s - (i + 1)) (i + 1) (subst (λ (x : ℕ). n < 2 ^ x) e h) in
    subst (λ (x : ℕ). x < 2 ^ s) (sym (put_grouped n i (bit b)))
    (subst (λ (x : ℕ). n / 2 ^ (i + 1) * 2 ^ (i + 1) + (bit b * 2 ^ i + n % 2 ^ i) < x) (sym whole)
    (mul-add-lt (n / 2 ^ (i + 1)) (2 ^ (i + 1)) (bit b * 2 ^ i + n % 2 ^ i) (2 ^ (s - (i + 1))) above (low_part n i (bit b) (bit_small b))))

-- ---- quotients 0 and 1

below_one : (a h : ℕ) → a < h → a / h ≡ 0
below_one a h low = ap (λ (x : ℕ). x / h) (omega arith) ∙ div-mul-add 0 h a low

div_one : (a h : ℕ) → 0 < h → h ≤ a → a < 2 * h → a / h ≡ 1
div_one a h some high fits =
    let low : a - h < h = omega arith in
    ap (λ (x : ℕ). x / h) (omega arith) ∙ div-mul-add 1 h (a - h) low

-- ---- the lowest 1 and the highest 1

pub lowest_is : (n : ℕ) → 0 < n → n < 2 ^ 64 → IsLowestOne n (lowest_one n)
lowest_is n some h =
    let p = bit_at-trailing_zeros w64 n some h in
    record { one = p.1; zeros = p.2 }

highest_at : (n j : ℕ) → 2 ^ j ≤ n → n < 2 ^ suc j → IsHighestOne n j
highest_at n j low high = record {
  one = ap (λ (x : ℕ). x % 2) (div_one n (2 ^ j) (pow_pos j) low (omega (arith, high, pow-suc 2 j)));
  zeros = λ i h. bit_at_above n (suc j) i high (omega arith);
}

pub highest_is : (n : ℕ) → 0 < n → n < 2 ^ 64 → IsHighestOne n (highest_one n)
highest_is n some h =
    let p = leading_top 64 n some h in
    let place : highest_one n ≡ p.0 = omega (arith, p.1) in
    subst (λ (x : ℕ). IsHighestOne n x) (sym place) (highest_at n p.0 p.2 p.3)

-- ---- the top bit

-- an operand of two halves h is in the upper one
top_of : (a h : ℕ) → 0 < h → a < 2 * h → nat_eq (a / h) 1 ≡ nat_le h a
top_of a h some fits = elim (cases_lt a h) [
  | inl low ↦
      let none : a / h ≡ 0 = below_one a h low in
      ap (λ (x : ℕ). nat_eq x 1) none ∙ sym (lt-leb h a low)
  | inr high ↦
      let one : a / h ≡ 1 = div_one a h some high fits in
      ap (λ (x : ℕ). nat_eq x 1) one ∙ sym (le-leb h a high)
]

pub whole_is : (s : ℕ) → 0 < s → 2 ^ s ≡ 2 * 2 ^ (s - 1)
whole_is s h =
    let e : s ≡ s - 1 + 1 = omega arith in
    ap (λ (x : ℕ). 2 ^ x) e ∙ two_pow (s - 1)

pub half_is : (s : ℕ) → 0 < s → 2 ^ s / 2 ≡ 2 ^ (s - 1)
half_is s h =
    let whole : 2 ^ s ≡ 2 * 2 ^ (s - 1) = whole_is s h in
    omega arith

pub top_bit : (a s : ℕ) → 0 < s → a < 2 ^ s → nat_eq (a / 2 ^ (s - 1)) 1 ≡ is_negative (2 ^ s) a
unfolding is_negative
top_bit a s h fits =
    let below : a < 2 * 2 ^ (s - 1) = subst (λ (x : ℕ). a < x) (whole_is s h) fits in
    top_of a (2 ^ (s - 1)) (pow_pos (s - 1)) below ∙ ap (λ (x : ℕ). nat_le x a) (sym (half_is s h))

pub span_pos : (w : Width) → 0 < span w
span_pos w = pow_pos (size_of w)

-- an operand has as many values that are negative as others
pub span_even : (w : Width) → span w ≡ 2 * (span w / 2)
span_even B = omega arith
span_even W = omega arith
span_even D = omega arith
span_even Q = omega arith

-- a bit of an operand is replaced, by an index that is taken modulo the size
pub indexed_fits : (w : Width) (a b z size r : ℕ) (on : Bool) → z ≡ size → size ≡ size_of w → r ≡ with_bit a (b % z) on
    → a < span w → r < span w
indexed_fits w a b z size r on ez es er h =
    let same : z ≡ size_of w = ez ∙ es in
    let within : b % z < size_of w = subst (λ (x : ℕ). b % z < x) same (mod_below b z (subst (λ (x : ℕ). 0 < x) (sym same) (size_pos w))) in
    subst (λ (x : ℕ). x < span w) (sym er) (with_bit_fits (size_of w) a (b % z) on within h)

-- ---- the six flags

test_bit : (b : Bool) → nat_eq (bit b) 1 ≡ b
test_bit true = refl
test_bit false = refl

set_same : (n i : ℕ) (b : Bool) → is_set (with_bit n i b) i ≡ b
unfolding is_set with_bit
set_same n i b = ap (λ (x : ℕ). nat_eq x 1) (bit_put_same n i (bit b) (bit_small b)) ∙ test_bit b

set_other : (n i j : ℕ) (b : Bool) → j ≢ i → is_set (with_bit n i b) j ≡ is_set n j
unfolding is_set with_bit
set_other n i j b apart = ap (λ (x : ℕ). nat_eq x 1) (bit_put_other n i (bit b) j (bit_small b) apart)

pub replaced : (n : ℕ) (f : Flags) → AreReplaced n (with_flags n f) f
unfolding with_flags
replaced n f =
    let a = with_bit n 0 f.cf in
    let b = with_bit a 2 f.pf in
    let c = with_bit b 4 f.af in
    let d = with_bit c 6 f.zf in
    let e = with_bit d 7 f.sf in
    record {
      cf = set_other e 11 0 f.of (λ x. omega (arith, x)) ∙ set_other d 7 0 f.sf (λ x. omega (arith, x)) ∙ set_other c 6 0 f.zf (λ x. omega (arith, x))
          ∙ set_other b 4 0 f.af (λ x. omega (arith, x)) ∙ set_other a 2 0 f.pf (λ x. omega (arith, x)) ∙ set_same n 0 f.cf;
      pf = set_other e 11 2 f.of (λ x. omega (arith, x)) ∙ set_other d 7 2 f.sf (λ x. omega (arith, x)) ∙ set_other c 6 2 f.zf (λ x. omega (arith, x))
          ∙ set_other b 4 2 f.af (λ x. omega (arith, x)) ∙ set_same a 2 f.pf;
      af = set_other e 11 4 f.of (λ x. omega (arith, x)) ∙ set_other d 7 4 f.sf (λ x. omega (arith, x)) ∙ set_other c 6 4 f.zf (λ x. omega (arith, x))
          ∙ set_same b 4 f.af;
      zf = set_other e 11 6 f.of (λ x. omega (arith, x)) ∙ set_other d 7 6 f.sf (λ x. omega (arith, x)) ∙ set_same c 6 f.zf;
      sf = set_other e 11 7 f.of (λ x. omega (arith, x)) ∙ set_same d 7 f.sf;
      of = set_same e 11 f.of;
      others = λ i h0 h2 h4 h6 h7 h11. set_other e 11 i f.of h11 ∙ set_other d 7 i f.sf h7 ∙ set_other c 6 i f.zf h6
          ∙ set_other b 4 i f.af h4 ∙ set_other a 2 i f.pf h2 ∙ set_other n 0 i f.cf h0;
    }
