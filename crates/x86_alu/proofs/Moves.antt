-- Shifts and rotates of machine words as whole numbers.
use Rattle.std.proofs.Common.{◌≡◌, ℕ, ◌+◌, ◌-◌, ◌*◌, ◌/◌, ◌%◌, ◌^◌, ◌<◌, ◌≤◌, true, false, ℤ, pos, negsuc, ◌-ℤ◌, neg_ℤ, refl, sym, ap, subst, ◌∙◌, arith, pow_pos, mod-eq_of_lt, mul-lt-mul_of_pos_right, div-add-mod', mul_comm, div-le_self, lt_of_le_of_lt, pow_mono}
use Rattle.std.proofs.lemmas.Nat.{mod_below, mod-mul-add, mul-add-lt, div_below, pow-add}
use borrow.Author.Differences.{same_in, sum_is_lem, neg_is}
use Rattle.vm_law.specs.declared.insn.Width.{Width}
use Rattle.x86_alu.specs.Operand.{span, size_of, is_negative, signed, residue, floored}
use Rattle.x86_alu.specs.Shift.{rol_of, ror_of}
use Rattle.x86_alu.proofs.Masks.{size_pos, size_le, whole_is}

-- ---- rotates: of an operand below q * p, the top digits in base q, or p, go round

-- what stays below the top after p places
stays : (a p q : ℕ) → 0 < p → 0 < q → a * p % (q * p) ≡ a % q * p
stays a p q pp pq =
    let split : (a / q * q + a % q) * p ≡ a * p = ap (λ (x : ℕ). x * p) (div-add-mod' a q) in
    let less : a % q * p < q * p = mul-lt-mul_of_pos_right (mod_below a q pq) pp in
    let whole : a * p ≡ a / q * (q * p) + a % q * p = omega (arith, split) in
    ap (λ (x : ℕ). x % (q * p)) whole ∙ mod-mul-add (a / q) (q * p) (a % q * p) less

turned_fits : (a p q : ℕ) → 0 < p → 0 < q → a < q * p → a * p % (q * p) + a / q < q * p
turned_fits a p q pp pq h =
    let below : a / q < p = div_below a q p pq (subst (λ (x : ℕ). a < x) (mul_comm q p) h) in
    let sum : a % q * p + a / q < p * q = mul-add-lt (a % q) p (a / q) q (mod_below a q pq) below in
    omega (arith, stays a p q pp pq, sum, mul_comm p q)

-- 2 to the size is the product of the two parts
parts_of : (s r : ℕ) → r ≤ s → 2 ^ s ≡ 2 ^ (s - r) * 2 ^ r
parts_of s r h =
    let e : s ≡ s - r + r = omega arith in
    ap (λ (x : ℕ). 2 ^ x) e ∙ pow-add 2 (s - r) r

pub rol_fits : (s a n : ℕ) → 0 < s → a < 2 ^ s → rol_of s a n < 2 ^ s
rol_fits s a n some h =
    let r : ℕ = n % s in
    let within : n % s ≤ s = omega (arith, mod_below n s some) in
    let e : 2 ^ s ≡ 2 ^ (s - n % s) * 2 ^ (n % s) = parts_of s (n % s) within in
    subst (λ (x : ℕ). a * 2 ^ (n % s) % x + a / 2 ^ (s - n % s) < x) (sym e)
    (turned_fits a (2 ^ (n % s)) (2 ^ (s - n % s)) (pow_pos (n % s)) (pow_pos (s - n % s)) (subst (λ (x : ℕ). a < x) e h))

pub ror_fits : (s a n : ℕ) → 0 < s → a < 2 ^ s → ror_of s a n < 2 ^ s
ror_fits s a n some h =
    let within : n % s ≤ s = omega (arith, mod_below n s some) in
    let e : 2 ^ s ≡ 2 ^ (n % s) * 2 ^ (s - n % s) = parts_of s (n % s) within ∙ mul_comm (2 ^ (s - n % s)) (2 ^ (n % s)) in
    let sum : a * 2 ^ (s - n % s) % 2 ^ s + a / 2 ^ (n % s) < 2 ^ s =
    subst (λ (x : ℕ). a * 2 ^ (s - n % s) % x + a / 2 ^ (n % s) < x) (sym e)
    (turned_fits a (2 ^ (s - n % s)) (2 ^ (n % s)) (pow_pos (s - n % s)) (pow_pos (n % s)) (subst (λ (x : ℕ). a < x) e h)) in
    omega arith

-- ---- the shift that keeps the sign

pub signed_high : (m a : ℕ) → is_negative m a ≡ true → a < m → signed m a ≡ negsuc (m - 1 - a)
unfolding signed
signed_high m a e h =
    rw e (same_in (pos a -ℤ pos m) (negsuc (m - 1 - a)) (omega (arith, sum_is_lem (pos a) (neg_ℤ (pos m)), neg_is (pos m))))

pub signed_low : (m a : ℕ) → is_negative m a ≡ false → signed m a ≡ pos a
unfolding signed
signed_low m a e = rw e refl

pub sar_high : (m a d : ℕ) → is_negative m a ≡ true → a < m → residue m (floored (signed m a) d) ≡ m - 1 - (m - 1 - a) / d
unfolding residue floored
sar_high m a d e h =
    let less : (m - 1 - a) / d < m = lt_of_le_of_lt (div-le_self (m - 1 - a) d) (omega arith) in
    ap (λ (z : ℤ). residue m (floored z d)) (signed_high m a e h)
    ∙ ap (λ (x : ℕ). m - 1 - x) (mod-eq_of_lt less)

pub sar_low : (m a d : ℕ) → is_negative m a ≡ false → a < m → residue m (floored (signed m a) d) ≡ a / d
unfolding residue floored
sar_low m a d e h =
    ap (λ (z : ℤ). residue m (floored z d)) (signed_low m a e)
    ∙ mod-eq_of_lt (lt_of_le_of_lt (div-le_self a d) h)

low_of : (n m h : ℕ) → m ≡ 2 * h → n % m % 2 ≡ n % 2
low_of n m h e =
    let split : n / m * m + n % m ≡ n = div-add-mod' n m in
    let even : n / m * m ≡ 2 * (n / m * h) = ap (λ (x : ℕ). n / m * x) e ∙ omega arith in
    omega arith

residue_low : (m h : ℕ) (z : ℤ) → m ≡ 2 * h → 0 < h → residue m z % 2 ≡ residue 2 z
unfolding residue
residue_low m h (pos n) e some = low_of n m h e
residue_low m h (negsuc n) e some =
    let even : n % m % 2 ≡ n % 2 = low_of n m h e in
    let less : n % m < m = mod_below n m (omega arith) in
    omega arith

pub sar_low_bit : (s a n : ℕ) → 0 < s → residue (2 ^ s) (floored (signed (2 ^ s) a) (2 ^ n)) % 2 ≡ residue 2 (floored (signed (2 ^ s) a) (2 ^ n))
sar_low_bit s a n h = residue_low (2 ^ s) (2 ^ (s - 1)) (floored (signed (2 ^ s) a) (2 ^ n)) (whole_is s h) (pow_pos (s - 1))

pub span_le : (w : Width) → span w ≤ 2 ^ 64
span_le w = pow_mono (size_le w)

-- ---- what the code adds

rol_sum : (s z a b n x : ℕ) → z ≡ s → b ≡ a → x ≡ a * 2 ^ (n % z) % 2 ^ s → x + b / 2 ^ (z - n % z) ≡ rol_of s a n
rol_sum s z a b n x ez eb ex = cc

ror_sum : (s z a n x : ℕ) → z ≡ s → x ≡ a * 2 ^ (z - n % z) % 2 ^ s → a / 2 ^ (n % z) + x ≡ ror_of s a n
ror_sum s z a n x ez ex = cc

pub rol_sum_fits : (w : Width) (z a b n x : ℕ) → a < span w → z ≡ size_of w → b ≡ a → x ≡ a * 2 ^ (n % z) % span w
    → x + b / 2 ^ (z - n % z) < span w
rol_sum_fits w z a b n x h ez eb ex =
    subst (λ (y : ℕ). y < span w) (sym (rol_sum (size_of w) z a b n x ez eb ex)) (rol_fits (size_of w) a n (size_pos w) h)

pub ror_sum_fits : (w : Width) (z a n x : ℕ) → a < span w → z ≡ size_of w → x ≡ a * 2 ^ (z - n % z) % span w
    → a / 2 ^ (n % z) + x < span w
ror_sum_fits w z a n x h ez ex =
    subst (λ (y : ℕ). y < span w) (sym (ror_sum (size_of w) z a n x ez ex)) (ror_fits (size_of w) a n (size_pos w) h)
