-- The first word of a text: cutting at the first space, and what that leaves at the first tab, cuts at the first blank.
use Rattle.std.proofs.Common.{◌≡◌, ◌∙◌, ℕ, suc, ◌+◌, Bool, true, false, not, cond, ◌||◌, List, [], ◌∷◌, take, refl, sym, ap, subst, ◌++◌, ◌≢◌, drop, length, arith}
use Rattle.std.specs.Prelude.{◌==◌}
use Rattle.std.specs.List.{before_first, prefix_len}
use Rattle.text_reader.specs.Line.{is_blank}

abbrev is_space : ℕ → Bool
is_space b = b == 32

abbrev is_tab : ℕ → Bool
is_tab b = b == 9

first_step : (p : ℕ → Bool) (b : ℕ) (bs : List ℕ) → before_first p (b ∷ bs) ≡ cond (p b) [] (b ∷ before_first p bs)
first_step p b bs = go (p b)
  where
    go : (t : Bool) → take (cond (not t) (1 + prefix_len (λ x. not (p x)) bs) 0) (b ∷ bs) ≡ cond t [] (b ∷ before_first p bs)
    go true = refl
    go false = let e : 1 + prefix_len (λ x. not (p x)) bs ≡ suc (prefix_len (λ x. not (p x)) bs) = omega arith in ap (λ (k : ℕ). take k (b ∷ bs)) e

cut_of : (s : Bool) (xs : List ℕ) → before_first is_tab (cond s [] xs) ≡ cond s [] (before_first is_tab xs)
cut_of true xs = refl
cut_of false xs = refl

either : (s t : Bool) (r : List ℕ) → cond s [] (cond t [] r) ≡ cond (s || t) [] r
either true t r = refl
either false true r = refl
either false false r = refl

pub word_is : (text : List ℕ) → before_first is_tab (before_first is_space text) ≡ before_first is_blank text
word_is [] = refl
word_is (b ∷ bs) =
    ap (before_first is_tab) (first_step is_space b bs)
    ∙ (cut_of (is_space b) (b ∷ before_first is_space bs)
    ∙ (ap (λ (r : List ℕ). cond (is_space b) [] r) (first_step is_tab b (before_first is_space bs) ∙ ap (λ (r : List ℕ). cond (is_tab b) [] (b ∷ r)) (word_is bs))
    ∙ (either (is_space b) (is_tab b) (b ∷ before_first is_blank bs) ∙ sym (first_step is_blank b bs))))

splits_at : (p : ℕ → Bool) (xs : List ℕ) → before_first p xs ++ drop (length (before_first p xs)) xs ≡ xs
splits_at p [] = refl
splits_at p (b ∷ bs) = subst (λ (w : List ℕ). w ++ drop (length w) (b ∷ bs) ≡ b ∷ bs) (sym (first_step p b bs)) (go (p b) (splits_at p bs))
  where
    go : (t : Bool) → before_first p bs ++ drop (length (before_first p bs)) bs ≡ bs
        → cond t [] (b ∷ before_first p bs) ++ drop (length (cond t [] (b ∷ before_first p bs))) (b ∷ bs) ≡ b ∷ bs
    go true more = refl
    go false more = ap (λ (l : List ℕ). b ∷ l) more

-- the first word stands at the text's begin
pub word_stands : (word text : List ℕ) → word ≡ before_first is_blank text → ((rest : List ℕ) → text ≢ word ++ rest) → ⊥
word_stands word text is lacks = lacks (drop (length (before_first is_blank text)) text) (sym (ap (λ (w : List ℕ). w ++ drop (length (before_first is_blank text)) text) is ∙ splits_at is_blank text))
