-- Texts and lists of numbers from 0 on, one number more.
use Rattle.std.specs.List.{filter, flat_map, range_with_len}
use Rattle.std.proofs.Common.{◌≡◌, ℕ, zero, suc, ◌+◌, Bool, true, false, List, [], ◌∷◌, ◌++◌, cond, map, refl, sym, ap, ◌∙◌, add-one, arith}
use Rattle.std.proofs.lemmas.Grind.{flat_map-append}
use Rattle.std.proofs.lemmas.List.{append-nil, append_assoc, map-append}
use Rattle.std.proofs.lemmas.List.Elements.{filter-append}

more_from : (a n b : ℕ) → b ≡ a + n → range_with_len a (suc n) ≡ range_with_len a n ++ b ∷ []
more_from a zero b e = ap (λ (k : ℕ). k ∷ []) (omega (arith, e))
more_from a (suc n) b e = ap (λ (l : List ℕ). a ∷ l) (more_from (a + 1) n b (omega (arith, e)))

pub range_more : (n : ℕ) → range_with_len 0 (n + 1) ≡ range_with_len 0 n ++ n ∷ []
range_more n = ap (λ (k : ℕ). range_with_len 0 k) (add-one n) ∙ more_from 0 n n (omega arith)

pub flat_more : {A : Type 0} (f : ℕ → List A) (n : ℕ) → flat_map f (range_with_len 0 (n + 1)) ≡ flat_map f (range_with_len 0 n) ++ f n
flat_more f n = ap (flat_map f) (range_more n) ∙ flat_map-append f (range_with_len 0 n) (n ∷ []) ∙ ap (λ (l : List _). flat_map f (range_with_len 0 n) ++ l) (append-nil (f n))

pub map_more : {A : Type 0} (f : ℕ → A) (n : ℕ) → map f (range_with_len 0 (n + 1)) ≡ map f (range_with_len 0 n) ++ f n ∷ []
map_more f n = ap (map f) (range_more n) ∙ map-append f (range_with_len 0 n) (n ∷ [])

pub filter_more : (p : ℕ → Bool) (n : ℕ) → filter p (range_with_len 0 (n + 1)) ≡ filter p (range_with_len 0 n) ++ cond (p n) (n ∷ []) []
filter_more p n = ap (filter p) (range_more n) ∙ filter-append p (range_with_len 0 n) (n ∷ [])

-- a text that grew by one number's piece
pub text_grew : (f : ℕ → List ℕ) (n : ℕ) (start text after : List ℕ)
    → text ≡ start ++ flat_map f (range_with_len 0 n) → after ≡ text ++ f n → after ≡ start ++ flat_map f (range_with_len 0 (n + 1))
text_grew f n start text after held grew =
    grew ∙ ap (λ (l : List ℕ). l ++ f n) held ∙ append_assoc start (flat_map f (range_with_len 0 n)) (f n)
    ∙ ap (λ (l : List ℕ). start ++ l) (sym (flat_more f n))

-- a number that is in a set, and one that isn't
pub chosen_more : {A : Type 0} (f : ℕ → A) (p : ℕ → Bool) (n : ℕ) → p n ≡ true
    → map f (filter p (range_with_len 0 (n + 1))) ≡ map f (filter p (range_with_len 0 n)) ++ f n ∷ []
chosen_more f p n has =
    ap (map f) (filter_more p n ∙ ap (λ (b : Bool). filter p (range_with_len 0 n) ++ cond b (n ∷ []) []) has)
    ∙ map-append f (filter p (range_with_len 0 n)) (n ∷ [])

pub chosen_same : {A : Type 0} (f : ℕ → A) (p : ℕ → Bool) (n : ℕ) → p n ≡ false
    → map f (filter p (range_with_len 0 (n + 1))) ≡ map f (filter p (range_with_len 0 n))
chosen_same f p n lacks =
    ap (map f) (filter_more p n ∙ ap (λ (b : Bool). filter p (range_with_len 0 n) ++ cond b (n ∷ []) []) lacks
    ∙ append-nil (filter p (range_with_len 0 n)))
