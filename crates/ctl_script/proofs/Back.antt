-- Numbers, bytes and registers as they are printed, read back.
use Rattle.std.proofs.Common.{◌≡◌, ◌==◌, ◌&&◌, ◌∙◌, ◌+◌, ◌-◌, ◌*◌, ◌/◌, ◌%◌, ◌^◌, ◌<◌, ◌≤◌, ℕ, zero, suc, Bool, cond, true, false, refl, sym, ap, subst, arith, List, [], ◌∷◌, ◌++◌, length, replicate, Option, Some, None}
use Rattle.std.specs.Prelude.{nat_lt, nat_le, decimal, option_and_then, unwrap_or, slice_get}
use Rattle.std.specs.List.{list_all}
use Rattle.std.specs.Str.{bytes_eq}
use Rattle.std.specs.Char.{digit_value}
use Rattle.std.specs.Str.Parse.{AllDigits, IsNumeral, digits_value}
use Rattle.std.specs.Fmt.{digits, digits_onto, digit_glyph}
use Rattle.std.specs.Cmp.Lexicographic.{same_text}
use Rattle.std.proofs.lemmas.Bool.{and_parts, and_from, ltb-true, lt-ltb, le-leb, leb-true, agree_below_at, eqb-true}
use Rattle.std.proofs.lemmas.Bool.Decides.{nat_tests}
use Rattle.std.proofs.lemmas.List.{length-append, length-replicate}
use Rattle.std.proofs.lemmas.Int.Digits.{digits_value-lt}
use Rattle.std.proofs.lemmas.Fmt.{digits_is_IsNumeral, decimal_is_IsNumeral, length-decimal-le}
use Rattle.std.proofs.Math.Nat.{pow-le-pow_right}
use Rattle.text_reader.specs.Digits.{is_digit, numeral, after_prefix, hex_number}
use Rattle.text_reader.proofs.Bytes.{is_shown, digits_shown}
use Rattle.text_reader.proofs.Numerals.{numeral_back, numeral_below}
use Rattle.ctl_script.specs.Numeral.{byte_of, joined, hex_bytes, registers, register_of, register_name, place_from}
use Rattle.ctl_script.specs.Print.{hex16, hex_text}

-- ---- numbers

pub decimal_back : (most n : ℕ) → 0 < most → n < 10 ^ most → n < 2 ^ 64 → numeral 10 most (decimal n) ≡ Some n
decimal_back most n some low small =
    let spelled = decimal_is_IsNumeral n small in
    numeral_back 10 most (decimal n) spelled.0 (length-decimal-le most n some low small) ∙ ap (λ (x : ℕ). Some x) spelled.1

pub decimal_shown : (n : ℕ) → n < 2 ^ 64 → list_all is_shown (decimal n) ≡ true
decimal_shown n small = digits_shown 10 (decimal n) (omega arith) (decimal_is_IsNumeral n small).0.1

pub decimal_some : (n : ℕ) → n < 2 ^ 64 → 0 < length (decimal n)
decimal_some n small = (decimal_is_IsNumeral n small).0.0

-- ---- a register's value

onto_length : (k j n : ℕ) (acc : List ℕ) → n < 16 ^ suc j → length (digits_onto k 16 false n acc) ≤ suc j + length acc
onto_length zero j n acc h = omega arith
onto_length (suc k) j n acc h = go (n / 16 == 0) refl j h (λ i low. onto_length k i (n / 16) (digit_glyph false (n % 16) ∷ acc) low)
  where
    go : (t : Bool) → (n / 16 == 0) ≡ t → (j : ℕ) → n < 16 ^ suc j
        → ((i : ℕ) → n / 16 < 16 ^ suc i → length (digits_onto k 16 false (n / 16) (digit_glyph false (n % 16) ∷ acc)) ≤ suc i + suc (length acc))
        → length (cond t (digit_glyph false (n % 16) ∷ acc) (digits_onto k 16 false (n / 16) (digit_glyph false (n % 16) ∷ acc))) ≤ suc j + length acc
    go true is j h later = omega arith
    go false is zero h later = absurd (grind (arith, nat_tests))
    go false is (suc j) h later =
        let low : n / 16 < 16 ^ suc j = omega arith in
        omega (arith, later j low)

hex_length : (n : ℕ) → n < 16 ^ 16 → length (digits 16 false n) ≤ 16
unfolding digits
hex_length n h = omega (arith, onto_length 64 15 n [] h)

zeros_value : (k : ℕ) (ds : List ℕ) → digits_value 16 (replicate k 48 ++ ds) ≡ digits_value 16 ds
zeros_value zero ds = refl
zeros_value (suc k) ds = zeros_value k ds

zeros_digits : (k : ℕ) (ds : List ℕ) → AllDigits 16 ds → AllDigits 16 (replicate k 48 ++ ds)
zeros_digits zero ds h = h
zeros_digits (suc k) ds h = (omega arith, zeros_digits k ds h)

hex16_digits : (n : ℕ) → n < 16 ^ 16 → IsNumeral 16 (hex16 n) × (digits_value 16 (hex16 n) ≡ n) × (length (hex16 n) ≡ 16)
hex16_digits n h =
    let short = hex_length n h in
    let wide : n < 16 ^ 64 = omega arith in
    let spelled = digits_is_IsNumeral 16 false (omega arith) (omega arith) n wide in
    let long : length (hex16 n) ≡ 16 = omega (arith, length-append (replicate (16 - length (digits 16 false n)) 48) (digits 16 false n), length-replicate {A = ℕ} (16 - length (digits 16 false n)) 48) in
    let some : 0 < length (hex16 n) = omega arith in
    ((some, zeros_digits (16 - length (digits 16 false n)) (digits 16 false n) spelled.0.1), zeros_value (16 - length (digits 16 false n)) (digits 16 false n) ∙ spelled.1, long)

pub hex16_back : (n : ℕ) → n < 16 ^ 16 → hex_number 16 (48 ∷ 120 ∷ hex16 n) ≡ Some n
hex16_back n h =
    let spelled = hex16_digits n h in
    numeral_back 16 16 (hex16 n) spelled.0 (omega arith) ∙ ap (λ (x : ℕ). Some x) spelled.1

pub hex16_shown : (n : ℕ) → n < 16 ^ 16 → list_all is_shown (hex16 n) ≡ true
hex16_shown n h = digits_shown 16 (hex16 n) (omega arith) (hex16_digits n h).0.1

pub hex16_small : (text : List ℕ) (n : ℕ) → hex_number 16 text ≡ Some n → n < 16 ^ 16
hex16_small text n e = go (after_prefix text) e
  where
    go : (o : Option (List ℕ)) → option_and_then (numeral 16 16) o ≡ Some n → n < 16 ^ 16
    go None e = absurd cc
    go (Some digits) e = numeral_below 16 16 digits n (omega arith) e

-- ---- bytes

glyph_is : (d : ℕ) → d < 16 → (digit_value (digit_glyph false d) == d) ≡ true
glyph_is d h = agree_below_at (λ n. digit_value (digit_glyph false n) == n) (λ n. true) 16 d refl h

glyph_value : (d : ℕ) → d < 16 → digit_value (digit_glyph false d) ≡ d
glyph_value d h = eqb-true _ _ (glyph_is d h)

pair_back : (b : ℕ) → b < 256 → byte_of (digit_glyph false (b / 16)) (digit_glyph false (b % 16)) ≡ Some b
pair_back b h =
    let high = glyph_value (b / 16) (omega arith) in
    let low = glyph_value (b % 16) (omega arith) in
    let one : nat_lt (b / 16) 16 ≡ true = lt-ltb (b / 16) 16 (omega arith) in
    let two : nat_lt (b % 16) 16 ≡ true = lt-ltb (b % 16) 16 (omega arith) in
    let whole : b / 16 * 16 + b % 16 ≡ b = omega arith in
    rw (high, low, one, two, whole) refl

abbrev pub is_byte : ℕ → Bool
is_byte b = nat_lt b 256

pub hex_back : (bytes : List ℕ) → list_all is_byte bytes ≡ true → hex_bytes (hex_text bytes) ≡ Some bytes
hex_back [] h = refl
hex_back (b ∷ bytes) h =
    let both = and_parts (is_byte b) (list_all is_byte bytes) h in
    let pair = pair_back b (ltb-true b 256 both.0) in
    let later = hex_back bytes both.1 in
    rw (pair, later) refl

pub hex_shown : (bytes : List ℕ) → list_all is_byte bytes ≡ true → list_all is_shown (hex_text bytes) ≡ true
hex_shown [] h = refl
hex_shown (b ∷ bytes) h =
    let both = and_parts (is_byte b) (list_all is_byte bytes) h in
    let small : b < 256 = ltb-true b 256 both.0 in
    let high = glyph_shown (b / 16) (omega arith) in
    let low = glyph_shown (b % 16) (omega arith) in
    let later = hex_shown bytes both.1 in
    rw (high, low, later) refl
  where
    glyph_shown : (d : ℕ) → d < 16 → is_shown (digit_glyph false d) ≡ true
    glyph_shown d h = agree_below_at (λ n. is_shown (digit_glyph false n)) (λ n. true) 16 d refl h

pub hex_some : (bytes : List ℕ) → 0 < length bytes → 0 < length (hex_text bytes)
hex_some [] h = absurd (omega arith)
hex_some (b ∷ bytes) h = omega arith

byte_small : (a b n : ℕ) → byte_of a b ≡ Some n → is_byte n ≡ true
byte_small a b n e = go (is_digit 16 a) (is_digit 16 b) refl refl e
  where
    go : (x y : Bool) → is_digit 16 a ≡ x → is_digit 16 b ≡ y → cond (x && y) (Some (digit_value a * 16 + digit_value b)) None ≡ Some n → is_byte n ≡ true
    go false y ex ey e = absurd cc
    go true false ex ey e = absurd cc
    go true true ex ey e =
        let is : digit_value a * 16 + digit_value b ≡ n = cc in
        let high = ltb-true (digit_value a) 16 ex in
        let low = ltb-true (digit_value b) 16 ey in
        lt-ltb n 256 (omega arith)

-- what is read of a word's digits is bytes, and isn't empty
pub hex_are_bytes : (text bytes : List ℕ) → hex_bytes text ≡ Some bytes → (list_all is_byte bytes ≡ true) × (length text ≡ length bytes + length bytes)
hex_are_bytes [] bytes e = let is : [] ≡ bytes = cc in subst (λ (bs : List ℕ). (list_all is_byte bs ≡ true) × (0 ≡ length bs + length bs)) is (refl, refl)
hex_are_bytes (a ∷ []) bytes e = absurd cc
hex_are_bytes (a ∷ b ∷ rest) bytes e = go (byte_of a b) (hex_bytes rest) refl (hex_are_bytes rest) e
  where
    go : (n : Option ℕ) (more : Option (List ℕ)) → byte_of a b ≡ n → ((bs : List ℕ) → more ≡ Some bs → (list_all is_byte bs ≡ true) × (length rest ≡ length bs + length bs)) → joined n more ≡ Some bytes
        → (list_all is_byte bytes ≡ true) × (suc (suc (length rest)) ≡ length bytes + length bytes)
    go None more is later e = absurd cc
    go (Some n) None is later e = absurd cc
    go (Some n) (Some bs) is later e =
        let whole : n ∷ bs ≡ bytes = cc in
        let told = later bs refl in
        let doubled : suc (suc (length rest)) ≡ suc (length bs) + suc (length bs) = omega (arith, told.1) in
        subst (λ (xs : List ℕ). (list_all is_byte xs ≡ true) × (suc (suc (length rest)) ≡ length xs + length xs)) whole
        (and_from (is_byte n) (list_all is_byte bs) (byte_small a b n is) told.0, doubled)

-- ---- registers

-- a name that is found is the one at its place, for which holds what holds of each
place_is : (q : List ℕ → Bool) (n : ℕ) (xs : List (List ℕ)) (name : List ℕ) (r : ℕ) → list_all q xs ≡ true → place_from n xs name ≡ Some r
    → (k : ℕ) × (r ≡ n + k) × (name ≡ unwrap_or (slice_get xs k) []) × (q name ≡ true)
place_is q n [] name r each e = absurd cc
place_is q n (x ∷ xs) name r each e =
    let both = and_parts (q x) (list_all q xs) each in
    go (bytes_eq name x) refl both.0 e (place_is q (n + 1) xs name r both.1)
  where
    go : (t : Bool) → bytes_eq name x ≡ t → q x ≡ true → cond t (Some n) (place_from (n + 1) xs name) ≡ Some r
        → (place_from (n + 1) xs name ≡ Some r → (k : ℕ) × (r ≡ n + 1 + k) × (name ≡ unwrap_or (slice_get xs k) []) × (q name ≡ true))
        → (k : ℕ) × (r ≡ n + k) × (name ≡ unwrap_or (slice_get (x ∷ xs) k) []) × (q name ≡ true)
    go true is holds e later =
        let at : n ≡ r = cc in
        let same = same_text name x (sym is) in
        (0, omega arith, same, ap q same ∙ holds)
    go false is holds e later =
        let told = later e in
        (suc told.0, omega (arith, told.1), told.2, told.3)

abbrev is_name : List ℕ → Bool
is_name name = nat_lt 0 (length name) && list_all is_shown name

pub register_is : (name : List ℕ) (r : ℕ) → register_of name ≡ Some r → (name ≡ register_name r) × (0 < length name) × (list_all is_shown name ≡ true)
register_is name r e =
    let told = place_is is_name 0 registers name r refl e in
    let at : told.0 ≡ r = omega (arith, told.1) in
    let both = and_parts (nat_lt 0 (length name)) (list_all is_shown name) told.3 in
    (told.2 ∙ ap register_name at, ltb-true 0 (length name) both.0, both.1)
