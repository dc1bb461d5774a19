-- Integers by sign and size, and the operands that stand for them. mask is the greatest operand.
use Rattle.std.proofs.Common.{◌≡◌, ℕ, zero, suc, ◌+◌, ◌-◌, ◌*◌, ◌/◌, ◌%◌, ◌^◌, ◌<◌, ◌≤◌, Bool, true, false, not, ◌&&◌, ℤ, pos, negsuc, ◌*ℤ◌, neg_ℤ, int_div, int_rem, nat_eq, nat_le, refl, sym, ap, ap₂, ◌∙◌, inl, inr, arith, mod-eq_of_lt, unsigned_abs, ne_eqb, pos_of_ne-zero, ◌||◌}
use Rattle.std.proofs.lemmas.Bool.{cases_lt, lt-leb, le-leb, lt-ltb, le-ltb}
use borrow.Author.Differences.{up, down, same_in, neg_is, product_is}
use mathlib.Core.Bool.{beq}
use native.Mathlib.Nat.{zero-div, zero-mod}
use Rattle.vm_law.specs.declared.insn.Width.{Width}
use Rattle.x86_alu.specs.Operand.{span, size_of, is_negative, residue}
use Rattle.x86_alu.specs.Product.{value, integer, fits, product_of, quotient_of, remainder_of, div_faults}
use Rattle.x86_alu.proofs.Masks.{size_le}
use Rattle.std.proofs.lemmas.Nat.{div_below, shl_whole}
use Rattle.x86_alu.proofs.Overflow.{fits_yes, fits_not_low, fits_not_high}
use Rattle.x86_alu.proofs.Moves.{signed_high, signed_low}

half_of : (mask : ℕ) → mask % 2 ≡ 1 → (mask + 1) / 2 ≡ mask / 2 + 1
half_of mask odd = omega arith

-- ---- fits

pub fits_negative : (mask size : ℕ) → mask % 2 ≡ 1 → nat_le size (mask / 2 + 1) ≡ fits true (mask + 1) (integer true size)
unfolding fits
fits_negative mask size odd = elim (cases_lt (mask / 2 + 1) size) [
  | inl large ↦ lt-leb size (mask / 2 + 1) large
      ∙ sym (fits_not_low (mask + 1) (neg_ℤ (pos size)) (omega (arith, neg_is (pos size), half_of mask odd)))
  | inr small ↦ le-leb size (mask / 2 + 1) small
      ∙ sym (fits_yes (mask + 1) (neg_ℤ (pos size)) (omega (arith, neg_is (pos size), half_of mask odd)) (omega (arith, neg_is (pos size), half_of mask odd)))
]

pub fits_positive : (mask size : ℕ) → mask % 2 ≡ 1 → nat_le size (mask / 2) ≡ fits true (mask + 1) (integer false size)
unfolding fits
fits_positive mask size odd = elim (cases_lt (mask / 2) size) [
  | inl large ↦ lt-leb size (mask / 2) large
      ∙ sym (fits_not_high (mask + 1) (pos size) (omega (arith, half_of mask odd)))
  | inr small ↦ le-leb size (mask / 2) small
      ∙ sym (fits_yes (mask + 1) (pos size) (omega (arith, half_of mask odd)) (omega (arith, half_of mask odd)))
]

pub fits_below_zero : (mask size : ℕ) → nat_eq size 0 ≡ fits false (mask + 1) (integer true size)
unfolding fits
fits_below_zero mask zero = sym (lt-ltb 0 (mask + 1) (omega arith))
fits_below_zero mask (suc n) = ne_eqb (suc n) 0 (λ e. omega (arith, e))

pub fits_unsigned : (mask size : ℕ) → nat_le size mask ≡ fits false (mask + 1) (integer false size)
unfolding fits
fits_unsigned mask size = elim (cases_lt mask size) [
  | inl large ↦ lt-leb size mask large
      ∙ ap₂ (λ (x y : Bool). x && y) (sym (le-leb 0 size (omega arith))) (sym (le-ltb size (mask + 1) (omega arith)))
  | inr small ↦ le-leb size mask small
      ∙ ap₂ (λ (x y : Bool). x && y) (sym (le-leb 0 size (omega arith))) (sym (lt-ltb size (mask + 1) (omega arith)))
]

-- ---- from an operand, and back to one

pub value_high : (mask a : ℕ) → mask % 2 ≡ 1 → a ≤ mask → mask / 2 < a → value true (mask + 1) a ≡ neg_ℤ (pos (mask - a + 1))
unfolding value is_negative
value_high mask a odd h high =
    signed_high (mask + 1) a (le-leb ((mask + 1) / 2) a (omega (arith, half_of mask odd))) (omega arith)
    ∙ same_in (negsuc (mask + 1 - 1 - a)) (neg_ℤ (pos (mask - a + 1))) (omega (arith, neg_is (pos (mask - a + 1))))

pub value_low : (mask a : ℕ) → mask % 2 ≡ 1 → a ≤ mask / 2 → value true (mask + 1) a ≡ pos a
unfolding value is_negative
value_low mask a odd low = signed_low (mask + 1) a (lt-leb ((mask + 1) / 2) a (omega (arith, half_of mask odd)))

pub value_plain : (m a : ℕ) → value false m a ≡ pos a
unfolding value
value_plain m a = refl

pub residue_below_zero : (mask n : ℕ) → 0 < n → n ≤ mask → residue (mask + 1) (neg_ℤ (pos n)) ≡ mask - n + 1
unfolding residue
residue_below_zero mask zero some h = absurd (omega arith)
residue_below_zero mask (suc n) some h =
    let small : n % (mask + 1) ≡ n = mod-eq_of_lt (omega arith) in
    omega arith

pub residue_pos : (mask n : ℕ) → n ≤ mask → residue (mask + 1) (pos n) ≡ n
unfolding residue
residue_pos mask n h = mod-eq_of_lt (omega arith)

pub residue_zero : (mask : ℕ) → residue (mask + 1) (neg_ℤ (pos 0)) ≡ 0
unfolding residue
residue_zero mask = mod-eq_of_lt (omega arith)

-- ---- products and quotients by signs and sizes

product_parts : (a b : ℤ) (ua da ub db : ℕ) → up a ≡ ua → down a ≡ da → up b ≡ ub → down b ≡ db
    → (up (a *ℤ b) ≡ ua * ub + da * db) × (down (a *ℤ b) ≡ ua * db + da * ub)
product_parts a b ua da ub db e f g h = (
  let whole : up (a *ℤ b) ≡ up a * up b + down a * down b = (product_is a b).0 in cc,
  let whole : down (a *ℤ b) ≡ up a * down b + down a * up b = (product_is a b).1 in cc,
)

pub product_by_sizes : (x y : Bool) (p q : ℕ) → integer x p *ℤ integer y q ≡ integer (not (beq x y)) (p * q)
product_by_sizes false false p q = refl
product_by_sizes true false p q =
    let n = neg_is (pos p) in
    let e = product_parts (neg_ℤ (pos p)) (pos q) 0 p q 0 n.0 n.1 refl refl in
    same_in (neg_ℤ (pos p) *ℤ pos q) (neg_ℤ (pos (p * q))) (omega (arith, e, neg_is (pos (p * q))))
product_by_sizes false true p q =
    let n = neg_is (pos q) in
    let e = product_parts (pos p) (neg_ℤ (pos q)) p 0 0 q refl refl n.0 n.1 in
    same_in (pos p *ℤ neg_ℤ (pos q)) (neg_ℤ (pos (p * q))) (omega (arith, e, neg_is (pos (p * q))))
product_by_sizes true true p q =
    let n = neg_is (pos p) in
    let o = neg_is (pos q) in
    let e = product_parts (neg_ℤ (pos p)) (neg_ℤ (pos q)) 0 p 0 q n.0 n.1 o.0 o.1 in
    same_in (neg_ℤ (pos p) *ℤ neg_ℤ (pos q)) (pos (p * q)) (omega (arith, e))

negated_zero : (n : ℕ) → n ≡ 0 → pos n ≡ neg_ℤ (pos n)
negated_zero n e = rw e refl

pub quotient_by_sizes : (x y : Bool) (p q : ℕ) → 0 < q → int_div (integer x p) (integer y q) ≡ integer (not (beq x y)) (p / q)
quotient_by_sizes false false p q some = refl
quotient_by_sizes x true p zero some = absurd (omega arith)
quotient_by_sizes false true p (suc j) some = refl
quotient_by_sizes true false zero q some = negated_zero (0 / q) (zero-div q)
quotient_by_sizes true false (suc k) q some = refl
quotient_by_sizes true true zero (suc j) some = sym (negated_zero (0 / suc j) (zero-div (suc j)))
quotient_by_sizes true true (suc k) (suc j) some = refl

size_is : (y : Bool) (q : ℕ) → unsigned_abs (integer y q) ≡ q
size_is false q = refl
size_is true zero = refl
size_is true (suc j) = refl

pub remainder_by_sizes : (x y : Bool) (p q : ℕ) → int_rem (integer x p) (integer y q) ≡ integer x (p % q)
remainder_by_sizes false y p q = ap (λ (n : ℕ). pos (p % n)) (size_is y q)
remainder_by_sizes true y zero q =
    ap (λ (n : ℕ). pos (0 % n)) (size_is y q) ∙ negated_zero (0 % q) (zero-mod q)
remainder_by_sizes true y (suc k) q = ap (λ (n : ℕ). neg_ℤ (pos (suc k % n))) (size_is y q)

value_at : (s : Bool) (m n a b : ℕ) → m ≡ n → a ≡ b → value s n b ≡ value s m a
value_at s m n a b e f = sym (ap₂ (value s) e f)

pub product_from : (s : Bool) (m a b mask fa fb : ℕ) (x y : Bool) (p q : ℕ) → mask + 1 ≡ m → fa ≡ a → fb ≡ b
    → value s (mask + 1) fa ≡ integer x p → value s (mask + 1) fb ≡ integer y q
    → product_of s m a b ≡ integer (not (beq x y)) (p * q)
unfolding product_of
product_from s m a b mask fa fb x y p q e ea eb va vb =
    ap₂ (λ (g h : ℤ). g *ℤ h) (value_at s (mask + 1) m fa a e ea ∙ va) (value_at s (mask + 1) m fb b e eb ∙ vb)
    ∙ product_by_sizes x y p q

pub upper_half : (x m : ℕ) → 0 < m → x < m * m → x / m % m ≡ x / m
upper_half x m some h = mod-eq_of_lt (div_below x m m some h)

pub quotient_from : (s : Bool) (m high low by wide whole mask fb : ℕ) (x y : Bool) (p q : ℕ)
    → wide + 1 ≡ m * m → whole ≡ high * m + low → mask + 1 ≡ m → fb ≡ by → 0 < q
    → value s (wide + 1) whole ≡ integer x p → value s (mask + 1) fb ≡ integer y q
    → quotient_of s m high low by ≡ integer (not (beq x y)) (p / q)
unfolding quotient_of
quotient_from s m high low by wide whole mask fb x y p q ew ed e eb some va vb =
    ap₂ int_div (value_at s (wide + 1) (m * m) whole (high * m + low) ew ed ∙ va) (value_at s (mask + 1) m fb by e eb ∙ vb)
    ∙ quotient_by_sizes x y p q some

pub remainder_from : (s : Bool) (m high low by wide whole mask fb : ℕ) (x y : Bool) (p q : ℕ)
    → wide + 1 ≡ m * m → whole ≡ high * m + low → mask + 1 ≡ m → fb ≡ by
    → value s (wide + 1) whole ≡ integer x p → value s (mask + 1) fb ≡ integer y q
    → remainder_of s m high low by ≡ integer x (p % q)
unfolding remainder_of
remainder_from s m high low by wide whole mask fb x y p q ew ed e eb va vb =
    ap₂ int_rem (value_at s (wide + 1) (m * m) whole (high * m + low) ew ed ∙ va) (value_at s (mask + 1) m fb by e eb ∙ vb)
    ∙ remainder_by_sizes x y p q

-- the dividend as the code puts its halves together
pub dividend_is : (w : Width) (high low fh fl size : ℕ) → high < span w → fh ≡ high → fl ≡ low → size ≡ size_of w
    → fh * 2 ^ size % 2 ^ 128 + fl ≡ high * span w + low
dividend_is w high low fh fl size h eh el es =
    let whole : high * 2 ^ size_of w % 2 ^ 128 ≡ high * 2 ^ size_of w =
    shl_whole high (size_of w) (size_of w) 128 h (omega (arith, size_le w)) in
    ap₂ (λ (x y : ℕ). x + y) (ap₂ (λ (x y : ℕ). x * 2 ^ y % 2 ^ 128) eh es ∙ whole) el

pub size_pos_of : (q by fb : ℕ) → (q ≡ 0 → fb ≡ 0) → fb ≡ by → (by ≡ 0 → ⊥) → 0 < q
size_pos_of q by fb some e apart = pos_of_ne-zero (λ z. apart (sym e ∙ some z))

pub faults_from : (s : Bool) (m high low by wide whole mask fb : ℕ) (x y : Bool) (p q : ℕ)
    → wide + 1 ≡ m * m → whole ≡ high * m + low → mask + 1 ≡ m → fb ≡ by → 0 < q
    → value s (wide + 1) whole ≡ integer x p → value s (mask + 1) fb ≡ integer y q → (by ≡ 0 → ⊥)
    → not (fits s (mask + 1) (integer (not (beq x y)) (p / q))) ≡ div_faults s m high low by
unfolding div_faults
faults_from s m high low by wide whole mask fb x y p q ew ed e eb some va vb apart =
    ap₂ (λ (n : ℕ) (z : ℤ). not (fits s n z)) e (sym (quotient_from s m high low by wide whole mask fb x y p q ew ed e eb some va vb))
    ∙ sym (ap (λ (b : Bool). b || not (fits s m (quotient_of s m high low by))) (ne_eqb by 0 apart))
