-- Numbers in digits.
use Rattle.std.proofs.Common.{◌≡◌, ◌==◌, ◌&&◌, ◌∙◌, ◌^◌, ◌*◌, ◌+◌, ◌<◌, ◌≤◌, ◌⊎◌, inl, inr, ℕ, suc, min, Bool, cond, true, false, refl, sym, subst, ap, arith, List, [], ◌∷◌, length, drop, get_or, add-one, drop-cons, Option, Some, None, Result, Ok}
use Rattle.std.specs.Prelude.{option_map, IfSome, nat_lt, nat_le, decimal}
use Rattle.std.specs.Result.{result_ok, OkIff}
use Rattle.std.specs.List.{list_all}
use Rattle.std.specs.Char.{digit_value}
use Rattle.std.specs.Str.Parse.{AllDigits, IsNumeral, digits_value, digits_value_after, without_leading_plus, ParsesUnsigned}
use Rattle.std.proofs.lemmas.Bool.Decides.{nat_tests}
use Rattle.std.proofs.lemmas.Bool.{ltb-true, lt-ltb, le-leb, leb-true, and_from}
use Rattle.std.proofs.Math.Nat.{pow-le-pow_right, mul-le-mul_right}
use Rattle.std.proofs.lemmas.Int.Digits.{digits_value-lt}
use Rattle.std.proofs.lemmas.Result.{Ok-from_Ok_iff}
use Rattle.text_reader.specs.Digits.{is_digit, number, numeral}

pub all_digits : (base : ℕ) (text : List ℕ) → list_all (is_digit base) text ≡ true → AllDigits base text
all_digits base [] e = tt
all_digits base (b ∷ bs) e = go (is_digit base b) refl e (all_digits base bs)
  where
    go : (t : Bool) → is_digit base b ≡ t → (t && list_all (is_digit base) bs) ≡ true → (list_all (is_digit base) bs ≡ true → AllDigits base bs) → AllDigits base (b ∷ bs)
    go true is e later = (ltb-true (digit_value b) base is, later e)
    go false is e later = absurd cc

plus_isnt : (base : ℕ) (text : List ℕ) → base ≤ 16 → AllDigits base text → without_leading_plus text ≡ text
plus_isnt base [] low h = refl
plus_isnt base (b ∷ bs) low h = go (b == 43) refl
  where
    go : (t : Bool) → (b == 43) ≡ t → drop (cond t 1 0) (b ∷ bs) ≡ b ∷ bs
    go false e = refl
    go true e =
        let is : b ≡ 43 = grind (arith, nat_tests) in
        let small : digit_value 43 < base = subst (λ (x : ℕ). digit_value x < base) is h.0 in
        absurd (omega arith)

-- what is read of 1 to `most` digits
pub numeral_is : {E : Type 0} (base most : ℕ) (text : List ℕ) (r : Result ℕ E) → 2 ≤ base → base ≤ 16 → base ^ most ≤ 2 ^ 64
    → ParsesUnsigned 64 base text r → 0 < length text → length text ≤ most → list_all (is_digit base) text ≡ true → result_ok r ≡ numeral base most text
numeral_is base most text r low high fits parses some short all =
    let digits = all_digits base text all in
    let plain = plus_isnt base text high digits in
    let h : OkIff r (IsNumeral base text × (digits_value base text < 2 ^ 64)) (digits_value base text)
    = subst (λ (t : List ℕ). OkIff r (IsNumeral base t × (digits_value base t < 2 ^ 64)) (digits_value base t)) plain parses in
    let below = digits_value-lt base text digits in
    let up = pow-le-pow_right {n = base} (omega arith) short in
    let done : r ≡ Ok (digits_value base text) = Ok-from_Ok_iff r _ _ h ((some, digits), omega arith) in
    let one : nat_lt 0 (length text) ≡ true = lt-ltb _ _ some in
    let two : nat_le (length text) most ≡ true = le-leb _ _ short in
    rw (done, one, two, all) refl

-- a number of at most so many digits is below that power of the base
pub numeral_below : (base most : ℕ) (text : List ℕ) (n : ℕ) → 1 ≤ base → numeral base most text ≡ Some n → n < base ^ most
numeral_below base most text n low e = go (nat_le (length text) most) (nat_lt 0 (length text)) (list_all (is_digit base) text) refl refl e
  where
    go : (y x z : Bool) → nat_le (length text) most ≡ y → list_all (is_digit base) text ≡ z → cond y (cond (x && z) (Some (digits_value base text)) None) None ≡ Some n → n < base ^ most
    go false x z ey ez e = absurd cc
    go true false z ey ez e = absurd cc
    go true true false ey ez e = absurd cc
    go true true true ey ez e =
        let is : digits_value base text ≡ n = cc in
        let below = digits_value-lt base text (all_digits base text ez) in
        let short : length text ≤ most = leb-true _ _ ey in
        let up = pow-le-pow_right {n = base} low short in
        omega (arith, below, up)

pub numeral_small : (base most : ℕ) (text : List ℕ) (o : Option ℕ) → 1 ≤ base → o ≡ numeral base most text → IfSome o (λ n. n < base ^ most)
numeral_small base most text None low e = tt
numeral_small base most text (Some n) low e = numeral_below base most text n low (sym e)

-- ---- numbers of any length, which are cut off at 2^64

abbrev pub cap : Option ℕ → Option ℕ
cap o = option_map (min (2 ^ 64)) o

-- the digits after those of n
abbrev pub number_after : ℕ → ℕ → List ℕ → Option ℕ
number_after base n text = cond (list_all (is_digit base) text) (Some (digits_value_after base n text)) None

capped_cases : (m : ℕ) → ((2 ^ 64 ≤ m) × (min (2 ^ 64) m ≡ 2 ^ 64)) ⊎ (min (2 ^ 64) m ≡ m)
capped_cases m = go (nat_lt m (2 ^ 64)) refl
  where
    go : (t : Bool) → nat_lt m (2 ^ 64) ≡ t → ((2 ^ 64 ≤ m) × (min (2 ^ 64) m ≡ 2 ^ 64)) ⊎ (min (2 ^ 64) m ≡ m)
    go true e = let lt = ltb-true m (2 ^ 64) e in inr (omega arith)
    go false e = let le : 2 ^ 64 ≤ m = grind (arith, nat_tests) in inl (le, omega arith)

next_capped : (base n d : ℕ) → 1 ≤ base → min (2 ^ 64) (min (2 ^ 64) n * base + d) ≡ min (2 ^ 64) (n * base + d)
next_capped base n d low = elim (capped_cases n) [
  | inl big ↦
      let more : 2 ^ 64 * base ≤ n * base = mul-le-mul_right base big.0 in
      rw big.1 (omega arith)
  | inr same ↦ rw same refl
]

saturates : (base n : ℕ) (text : List ℕ) → 1 ≤ base → cap (number_after base (min (2 ^ 64) n) text) ≡ cap (number_after base n text)
saturates base n [] low = let e : min (2 ^ 64) (min (2 ^ 64) n) ≡ min (2 ^ 64) n = omega arith in ap (λ (m : ℕ). Some m) e
saturates base n (b ∷ bs) low = go (is_digit base b) (λ m. saturates base m bs low)
  where
    go : (t : Bool) → ((m : ℕ) → cap (number_after base (min (2 ^ 64) m) bs) ≡ cap (number_after base m bs))
        → cap (cond (t && list_all (is_digit base) bs) (Some (digits_value_after base (min (2 ^ 64) n * base + digit_value b) bs)) None) ≡ cap (cond (t && list_all (is_digit base) bs) (Some (digits_value_after base (n * base + digit_value b) bs)) None)
    go false later = refl
    go true later =
        sym (later (min (2 ^ 64) n * base + digit_value b)) ∙ (ap (λ (m : ℕ). cap (number_after base m bs)) (next_capped base n (digit_value b) low) ∙ later (n * base + digit_value b))

pub next_digit : (base n : ℕ) (digits : List ℕ) (i d m : ℕ) → 1 ≤ base → i < length digits → Some d ≡ cond (is_digit base (get_or digits i 0)) (Some (digit_value (get_or digits i 0))) None
    → m ≡ min (2 ^ 64) (n * base + d) → (total : Option ℕ) → cap (number_after base n (drop i digits)) ≡ total → cap (number_after base m (drop (i + 1) digits)) ≡ total
next_digit base n digits i d m low lt is m-is total told = go (is_digit base (get_or digits i 0)) refl is
  where
    go : (t : Bool) → is_digit base (get_or digits i 0) ≡ t → Some d ≡ cond t (Some (digit_value (get_or digits i 0))) None → cap (number_after base m (drop (i + 1) digits)) ≡ total
    go false e is = absurd cc
    go true e is =
        let value : d ≡ digit_value (get_or digits i 0) = cc in
        let parts = drop-cons digits i 0 lt in
        let step : cap (number_after base n (get_or digits i 0 ∷ drop (suc i) digits)) ≡ cap (number_after base (n * base + digit_value (get_or digits i 0)) (drop (suc i) digits)) = rw e refl in
        rw (m-is, value, add-one) (saturates base (n * base + digit_value (get_or digits i 0)) (drop (suc i) digits) low ∙ (sym step ∙ (ap (λ (t : List ℕ). cap (number_after base n t)) (sym parts) ∙ told)))

-- something that is no digit
pub bad_digit : (base n : ℕ) (digits : List ℕ) (i : ℕ) → i < length digits → None ≡ cond (is_digit base (get_or digits i 0)) (Some (digit_value (get_or digits i 0))) None
    → (total : Option ℕ) → cap (number_after base n (drop i digits)) ≡ total → None ≡ total
bad_digit base n digits i lt is total told = go (is_digit base (get_or digits i 0)) refl is
  where
    go : (t : Bool) → is_digit base (get_or digits i 0) ≡ t → None ≡ cond t (Some (digit_value (get_or digits i 0))) None → None ≡ total
    go true e is = absurd cc
    go false e is =
        let parts = drop-cons digits i 0 lt in
        let step : cap (number_after base n (get_or digits i 0 ∷ drop (suc i) digits)) ≡ None = rw e refl in
        sym step ∙ (ap (λ (t : List ℕ). cap (number_after base n t)) (sym parts) ∙ told)

pub number_some : (base : ℕ) (text : List ℕ) → 0 < length text → cap (number base text) ≡ cap (number_after base 0 text)
number_some base text some = let e : nat_lt 0 (length text) ≡ true = lt-ltb _ _ some in rw e refl

-- ---- numbers as they are printed

tests_digits : (base : ℕ) (ds : List ℕ) → AllDigits base ds → list_all (is_digit base) ds ≡ true
tests_digits base [] h = refl
tests_digits base (c ∷ ds) h = and_from (is_digit base c) (list_all (is_digit base) ds) (lt-ltb (digit_value c) base h.0) (tests_digits base ds h.1)

pub numeral_back : (base most : ℕ) (ds : List ℕ) → IsNumeral base ds → length ds ≤ most → numeral base most ds ≡ Some (digits_value base ds)
numeral_back base most ds digits short =
    let one : nat_lt 0 (length ds) ≡ true = lt-ltb 0 (length ds) digits.0 in
    let two : nat_le (length ds) most ≡ true = le-leb (length ds) most short in
    let three = tests_digits base ds digits.1 in
    rw (one, two, three) refl
