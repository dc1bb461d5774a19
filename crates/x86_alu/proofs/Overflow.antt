-- A signed sum or difference fits exactly where the sign of the operand that stands for it is as it has to be.
use Rattle.std.proofs.Common.{◌≡◌, ℕ, ◌+◌, ◌-◌, ◌*◌, ◌/◌, ◌%◌, ◌<◌, ◌≤◌, ◌⊎◌, inl, inr, Bool, true, false, not, ◌&&◌, ℤ, pos, ◌+ℤ◌, ◌-ℤ◌, neg_ℤ, int_lt, int_le, nat_le, refl, sym, ap, ap₂, ◌∙◌, arith, mod-eq_of_lt, zero-add}
use Rattle.std.proofs.lemmas.Bool.{cases_lt, lt-leb, le-leb, leb-true, leb-false, false≢true}
use Rattle.std.proofs.lemmas.Nat.{mod-mul-add, mod_below}
use borrow.Author.Differences.{up, down, sum_is_lem, neg_is, true_is_le, true_is_lt, false_is_le, false_is_lt}
use mathlib.Core.Bool.{beq}
use Rattle.x86_alu.specs.Operand.{is_negative, signed, fits_signed}
use Rattle.x86_alu.specs.Flags.{bit}

-- the sign and the parts of the integer z that an operand a stands for
abbrev pub Reads : ℕ → ℕ → ℤ → Bool → Type 0
Reads m a z n = ((n ≡ true) × (m / 2 ≤ a) × (up z + m ≡ down z + a)) ⊎ ((n ≡ false) × (a < m / 2) × (up z ≡ down z + a))

less_whole : (a m : ℕ) → up (pos a -ℤ pos m) + m ≡ down (pos a -ℤ pos m) + a
less_whole a m = omega (arith, sum_is_lem (pos a) (neg_ℤ (pos m)), neg_is (pos m))

reads_case : (m a : ℕ) (b : Bool) → nat_le (m / 2) a ≡ b → Reads m a (signed m a) (is_negative m a)
unfolding signed is_negative
reads_case m a true e = rw e (inl (refl, leb-true (m / 2) a e, less_whole a m))
reads_case m a false e = rw e (inr (refl, leb-false (m / 2) a e, sym (zero-add a)))

pub signed_reads : (m a : ℕ) → Reads m a (signed m a) (is_negative m a)
signed_reads m a = reads_case m a (nat_le (m / 2) a) refl

-- ---- signs

beq_true : (n : Bool) → beq n true ≡ n
beq_true true = refl
beq_true false = refl

beq_false : (n : Bool) → beq n false ≡ not n
beq_false true = refl
beq_false false = refl

clash : (na nb : Bool) → na ≡ true → nb ≡ false → beq nb na ≡ true → ⊥
clash na nb p q e = false≢true (sym (ap₂ beq q p) ∙ e)

clash' : (na nb : Bool) → na ≡ false → nb ≡ true → beq nb na ≡ true → ⊥
clash' na nb p q e = false≢true (sym (ap₂ beq q p) ∙ e)

beq_self : (n : Bool) → beq n n ≡ true
beq_self true = refl
beq_self false = refl

same : (na nb n : Bool) → na ≡ n → nb ≡ n → beq nb na ≡ false → ⊥
same na nb n p q e = false≢true (sym e ∙ ap₂ beq q p ∙ beq_self n)

-- ---- fits_signed

pub fits_yes : (m : ℕ) (z : ℤ) → down z ≤ up z + m / 2 → up z < down z + m / 2 → fits_signed m z ≡ true
unfolding fits_signed
fits_yes m z low high =
    let below : int_le (neg_ℤ (pos (m / 2))) z ≡ true = sym (true_is_le (neg_ℤ (pos (m / 2))) z (omega (arith, neg_is (pos (m / 2))))) in
    let above : int_lt z (pos (m / 2)) ≡ true = sym (true_is_lt z (pos (m / 2)) (omega arith)) in
    ap₂ (λ (x y : Bool). x && y) below above

pub fits_not_low : (m : ℕ) (z : ℤ) → up z + m / 2 < down z → fits_signed m z ≡ false
unfolding fits_signed
fits_not_low m z low =
    let below : int_le (neg_ℤ (pos (m / 2))) z ≡ false = sym (false_is_le (neg_ℤ (pos (m / 2))) z (omega (arith, neg_is (pos (m / 2))))) in
    ap (λ (x : Bool). x && int_lt z (pos (m / 2))) below

pub fits_not_high : (m : ℕ) (z : ℤ) → down z + m / 2 ≤ up z → fits_signed m z ≡ false
unfolding fits_signed
fits_not_high m z high =
    let below : int_le (neg_ℤ (pos (m / 2))) z ≡ true = sym (true_is_le (neg_ℤ (pos (m / 2))) z (omega (arith, neg_is (pos (m / 2))))) in
    let above : int_lt z (pos (m / 2)) ≡ false = sym (false_is_lt z (pos (m / 2)) (omega arith)) in
    ap₂ (λ (x y : Bool). x && y) below above

-- ---- by the sign n of the operand r that stands for z modulo m

-- z is r, and isn't negative
fits_if_low : (m r : ℕ) (z : ℤ) → up z ≡ down z + r → fits_signed m z ≡ not (is_negative m r)
unfolding is_negative
fits_if_low m r z e = elim (cases_lt r (m / 2)) [
  | inl small ↦ fits_yes m z (omega arith) (omega arith) ∙ ap not (sym (lt-leb (m / 2) r small))
  | inr large ↦ fits_not_high m z (omega arith) ∙ ap not (sym (le-leb (m / 2) r large))
]

-- z is r - m, and is negative
fits_if_high : (m r : ℕ) (z : ℤ) → m ≡ 2 * (m / 2) → r < m → up z + m ≡ down z + r → fits_signed m z ≡ is_negative m r
unfolding is_negative
fits_if_high m r z even fits e = elim (cases_lt r (m / 2)) [
  | inl small ↦ fits_not_low m z (omega arith) ∙ sym (lt-leb (m / 2) r small)
  | inr large ↦ fits_yes m z (omega arith) (omega arith) ∙ sym (le-leb (m / 2) r large)
]

-- ---- sums

modulo : (x m : ℕ) → x < 2 * m → ((x < m) × (x % m ≡ x)) ⊎ ((m ≤ x) × (x % m + m ≡ x))
modulo x m h = elim (cases_lt x m) [
  | inl small ↦ inl (small, mod-eq_of_lt small)
  | inr large ↦
      let less : x - m < m = omega arith in
      let e : x ≡ 1 * m + (x - m) = omega arith in
      let r : x % m ≡ x - m = ap (λ (y : ℕ). y % m) e ∙ mod-mul-add 1 m (x - m) less in
      inr (large, omega arith)
]

sum_parts : (x y : ℤ) (c : ℕ) → up (x +ℤ y +ℤ pos c) + down x + down y ≡ down (x +ℤ y +ℤ pos c) + up x + up y + c
sum_parts x y c = omega (arith, sum_is_lem (x +ℤ y) (pos c), sum_is_lem x y)

-- z and the operand r that stands for it modulo m, where r has the sign that z has to have
agree : (m r : ℕ) (z : ℤ) (n : Bool) → m ≡ 2 * (m / 2) → r < m
    → ((n ≡ true) × (up z + m ≡ down z + r)) ⊎ ((n ≡ false) × (up z ≡ down z + r))
    → fits_signed m z ≡ beq (is_negative m r) n
agree m r z n even small (inl h) = fits_if_high m r z even small h.1 ∙ sym (beq_true (is_negative m r)) ∙ ap (beq (is_negative m r)) (sym h.0)
agree m r z n even small (inr h) = fits_if_low m r z h.1 ∙ sym (beq_false (is_negative m r)) ∙ ap (beq (is_negative m r)) (sym h.0)

-- both operands have one sign: the sum fits where it has that sign
pub same_sum : (m a b c : ℕ) (x y : ℤ) (na nb : Bool) → m ≡ 2 * (m / 2) → a < m → b < m → c ≤ 1
    → Reads m a x na → Reads m b y nb → beq nb na ≡ true
    → fits_signed m (x +ℤ y +ℤ pos c) ≡ beq (is_negative m ((a + b + c) % m)) na
same_sum m a b c x y na nb even fa fb fc (inl ra) (inl rb) e =
    agree m ((a + b + c) % m) (x +ℤ y +ℤ pos c) na even (mod_below (a + b + c) m (omega arith))
    (elim (modulo (a + b + c) m (omega arith)) [
      | inl r ↦ absurd (omega arith)
      | inr r ↦ inl (ra.0, omega (arith, sum_parts x y c))
    ])
same_sum m a b c x y na nb even fa fb fc (inl ra) (inr rb) e = absurd (clash na nb ra.0 rb.0 e)
same_sum m a b c x y na nb even fa fb fc (inr ra) (inl rb) e = absurd (clash' na nb ra.0 rb.0 e)
same_sum m a b c x y na nb even fa fb fc (inr ra) (inr rb) e =
    agree m ((a + b + c) % m) (x +ℤ y +ℤ pos c) na even (mod_below (a + b + c) m (omega arith))
    (elim (modulo (a + b + c) m (omega arith)) [
      | inl r ↦ inr (ra.0, omega (arith, sum_parts x y c))
      | inr r ↦ absurd (omega arith)
    ])

-- the operands have two signs: the sum fits
pub mixed_sum : (m a b c : ℕ) (x y : ℤ) (na nb : Bool) → m ≡ 2 * (m / 2) → a < m → b < m → c ≤ 1
    → Reads m a x na → Reads m b y nb → beq nb na ≡ false
    → fits_signed m (x +ℤ y +ℤ pos c) ≡ true
mixed_sum m a b c x y na nb even fa fb fc (inl ra) (inl rb) e = absurd (same na nb true ra.0 rb.0 e)
mixed_sum m a b c x y na nb even fa fb fc (inl ra) (inr rb) e =
    fits_yes m (x +ℤ y +ℤ pos c) (omega (arith, sum_parts x y c)) (omega (arith, sum_parts x y c))
mixed_sum m a b c x y na nb even fa fb fc (inr ra) (inl rb) e =
    fits_yes m (x +ℤ y +ℤ pos c) (omega (arith, sum_parts x y c)) (omega (arith, sum_parts x y c))
mixed_sum m a b c x y na nb even fa fb fc (inr ra) (inr rb) e = absurd (same na nb false ra.0 rb.0 e)

-- ---- differences

difference_parts : (x y : ℤ) (c : ℕ) → up (x -ℤ y -ℤ pos c) + down x + up y + c ≡ down (x -ℤ y -ℤ pos c) + up x + down y
difference_parts x y c =
    omega (arith, sum_is_lem (x -ℤ y) (neg_ℤ (pos c)), sum_is_lem x (neg_ℤ y), neg_is y, neg_is (pos c))

-- the operands have two signs: the difference fits where it has the first one's
pub mixed_difference : (m a b c : ℕ) (x y : ℤ) (na nb : Bool) → m ≡ 2 * (m / 2) → a < m → b < m → c ≤ 1
    → Reads m a x na → Reads m b y nb → beq nb na ≡ false
    → fits_signed m (x -ℤ y -ℤ pos c) ≡ beq (is_negative m ((m + a - (b + c)) % m)) na
mixed_difference m a b c x y na nb even fa fb fc (inl ra) (inr rb) e =
    agree m ((m + a - (b + c)) % m) (x -ℤ y -ℤ pos c) na even (mod_below (m + a - (b + c)) m (omega arith))
    (elim (modulo (m + a - (b + c)) m (omega arith)) [
      | inl r ↦ absurd (omega arith)
      | inr r ↦ inl (ra.0, omega (arith, difference_parts x y c))
    ])
mixed_difference m a b c x y na nb even fa fb fc (inr ra) (inl rb) e =
    agree m ((m + a - (b + c)) % m) (x -ℤ y -ℤ pos c) na even (mod_below (m + a - (b + c)) m (omega arith))
    (elim (modulo (m + a - (b + c)) m (omega arith)) [
      | inl r ↦ inr (ra.0, omega (arith, difference_parts x y c))
      | inr r ↦ absurd (omega arith)
    ])
mixed_difference m a b c x y na nb even fa fb fc (inl ra) (inl rb) e = absurd (same na nb true ra.0 rb.0 e)
mixed_difference m a b c x y na nb even fa fb fc (inr ra) (inr rb) e = absurd (same na nb false ra.0 rb.0 e)

-- both operands have one sign: the difference fits
pub same_difference : (m a b c : ℕ) (x y : ℤ) (na nb : Bool) → m ≡ 2 * (m / 2) → a < m → b < m → c ≤ 1
    → Reads m a x na → Reads m b y nb → beq nb na ≡ true
    → fits_signed m (x -ℤ y -ℤ pos c) ≡ true
same_difference m a b c x y na nb even fa fb fc (inl ra) (inl rb) e =
    fits_yes m (x -ℤ y -ℤ pos c) (omega (arith, difference_parts x y c)) (omega (arith, difference_parts x y c))
same_difference m a b c x y na nb even fa fb fc (inr ra) (inr rb) e =
    fits_yes m (x -ℤ y -ℤ pos c) (omega (arith, difference_parts x y c)) (omega (arith, difference_parts x y c))
same_difference m a b c x y na nb even fa fb fc (inl ra) (inr rb) e = absurd (clash na nb ra.0 rb.0 e)
same_difference m a b c x y na nb even fa fb fc (inr ra) (inl rb) e = absurd (clash' na nb ra.0 rb.0 e)

pub bit_le : (b : Bool) → bit b ≤ 1
bit_le true = omega arith
bit_le false = omega arith
