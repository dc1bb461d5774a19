-- Bytes that are printed: graphic ASCII characters, and spaces among them.
use Rattle.std.proofs.Common.{◌≡◌, ◌==◌, ◌&&◌, ◌∙◌, ◌<◌, ◌≤◌, ◌-◌, ℕ, zero, suc, Bool, true, false, not, refl, arith, List, [], ◌∷◌, ◌++◌, length, get_or}
use Rattle.std.specs.Prelude.{nat_lt, nat_le}
use Rattle.std.specs.List.{All, list_all}
use Rattle.std.specs.Char.{digit_value}
use Rattle.std.specs.Str.{IsUtf8}
use Rattle.std.specs.Str.Parse.{AllDigits}
use Rattle.std.specs.Str.Lines.{strip_carriage_return}
use Rattle.std.proofs.lemmas.Bool.{and_parts, and_from}
use Rattle.std.proofs.lemmas.Bool.Decides.{nat_tests}
use Rattle.std.proofs.lemmas.List.Elements.{All-nil, All-cons}
use Rattle.std.proofs.lemmas.List.Folds.{list_all-append}
use Rattle.std.proofs.lemmas.Str.{IsUtf8-from_ascii}
use Rattle.std.proofs.lemmas.Str.Ascii.{IsAscii-from_all}

-- space to tilde
abbrev pub is_printed : ℕ → Bool
is_printed b = nat_le 32 b && nat_lt b 128

-- the same without space
abbrev pub is_shown : ℕ → Bool
is_shown b = nat_le 33 b && nat_lt b 128

abbrev pub not_space : ℕ → Bool
not_space b = not (b == 32)

abbrev pub not_feed : ℕ → Bool
not_feed b = not (b == 10)

pub all_of : (p : ℕ → Bool) (Q : ℕ → Type 0) → ((b : ℕ) → p b ≡ true → Q b) → (bs : List ℕ) → list_all p bs ≡ true → All Q bs
all_of p Q h [] e = All-nil Q
all_of p Q h (b ∷ bs) e = let parts = and_parts (p b) (list_all p bs) e in All-cons Q b bs (h b parts.0) (all_of p Q h bs parts.1)

pub list_all-weaker : (p q : ℕ → Bool) → ((b : ℕ) → p b ≡ true → q b ≡ true) → (bs : List ℕ) → list_all p bs ≡ true → list_all q bs ≡ true
list_all-weaker p q h [] e = refl
list_all-weaker p q h (b ∷ bs) e = let parts = and_parts (p b) (list_all p bs) e in and_from (q b) (list_all q bs) (h b parts.0) (list_all-weaker p q h bs parts.1)

pub both_all : (p : ℕ → Bool) (xs ys : List ℕ) → list_all p xs ≡ true → list_all p ys ≡ true → list_all p (xs ++ ys) ≡ true
both_all p xs ys x y = list_all-append p xs ys ∙ and_from (list_all p xs) (list_all p ys) x y

pub shown_printed : (b : ℕ) → is_shown b ≡ true → is_printed b ≡ true
shown_printed b e = grind (arith, nat_tests)

pub shown_not_space : (b : ℕ) → is_shown b ≡ true → not_space b ≡ true
shown_not_space b e = grind (arith, nat_tests)

pub printed_not_feed : (b : ℕ) → is_printed b ≡ true → not_feed b ≡ true
printed_not_feed b e = grind (arith, nat_tests)

not_space_is : (b : ℕ) → not_space b ≡ true → (b == 32) ≡ false
not_space_is b e = grind (arith, nat_tests)

not_feed_is : (b : ℕ) → not_feed b ≡ true → (b == 10) ≡ false
not_feed_is b e = grind (arith, nat_tests)

pub no_space : (bs : List ℕ) → list_all not_space bs ≡ true → All (λ b. (b == 32) ≡ false) bs
no_space bs e = all_of not_space (λ b. (b == 32) ≡ false) not_space_is bs e

pub no_feed : (bs : List ℕ) → list_all not_feed bs ≡ true → All (λ b. (b == 10) ≡ false) bs
no_feed bs e = all_of not_feed (λ b. (b == 10) ≡ false) not_feed_is bs e

-- ---- what is printed is a text without an end of line

printed_below : (b : ℕ) → is_printed b ≡ true → b < 128
printed_below b e = grind (arith, nat_tests)

pub printed_utf8 : (bs : List ℕ) → list_all is_printed bs ≡ true → IsUtf8 bs
printed_utf8 bs e = IsUtf8-from_ascii bs (IsAscii-from_all bs (all_of is_printed (λ b. b < 128) printed_below bs e))

not_return : (b : ℕ) → is_printed b ≡ true → (b == 13) ≡ false
not_return b e = grind (arith, nat_tests)

not_return_at : (bs : List ℕ) (k : ℕ) → list_all is_printed bs ≡ true → (get_or bs k 0 == 13) ≡ false
not_return_at [] k e = refl
not_return_at (b ∷ bs) zero e = not_return b (and_parts (is_printed b) (list_all is_printed bs) e).0
not_return_at (b ∷ bs) (suc k) e = not_return_at bs k (and_parts (is_printed b) (list_all is_printed bs) e).1

pub printed_ended : (bs : List ℕ) → list_all is_printed bs ≡ true → strip_carriage_return bs ≡ bs
printed_ended bs e = let h = not_return_at bs (length bs - 1) e in rw h refl

-- ---- digits are shown

digit_shown : (c : ℕ) → digit_value c < 16 → is_shown c ≡ true
digit_shown c h = grind (arith, nat_tests)

pub digits_shown : (base : ℕ) (ds : List ℕ) → base ≤ 16 → AllDigits base ds → list_all is_shown ds ≡ true
digits_shown base [] high h = refl
digits_shown base (c ∷ ds) high h =
    let small : digit_value c < base = h.0 in
    and_from (is_shown c) (list_all is_shown ds) (digit_shown c (omega arith)) (digits_shown base ds high h.1)
