-- Lists that are made number by number, and tests of their elements.
use Rattle.std.proofs.Common.{◌≡◌, ℕ, ◌+◌, ◌<◌, Bool, true, false, List, [], ◌∷◌, ◌++◌, length, get_or, refl, sym, ◌∙◌, inl, inr}
use Rattle.std.specs.Prelude.{map}
use Rattle.std.specs.List.{list_any, list_all, range_with_len}
use Rattle.std.proofs.lemmas.List.Folds.{list_any_at, list_all_at}
use Rattle.std.proofs.lemmas.List.FromFn.{map-range_with_len_more}
use Rattle.std.proofs.lemmas.Bool.{cases_Bool, true≢false}

pub map_range_more : {X : Type 0} (f : ℕ → X) (a n : ℕ) → map f (range_with_len a (n + 1)) ≡ map f (range_with_len a n) ++ f (a + n) ∷ []
map_range_more f a n = map-range_with_len_more f a n (a + n) refl

-- what a test of each element says of one
pub every_at : {X : Type 0} (p : X → Bool) (xs : List X) (i : ℕ) (d : X) → list_all p xs ≡ true → i < length xs → p (get_or xs i d) ≡ true
every_at p xs i d all l =
    elim (cases_Bool (p (get_or xs i d))) [
      | inl t ↦ t
      | inr f ↦ absurd (true≢false (sym all ∙ list_all_at p xs i d l f))
    ]

pub none_at : {X : Type 0} (p : X → Bool) (xs : List X) (i : ℕ) (d : X) → list_any p xs ≡ false → i < length xs → p (get_or xs i d) ≡ false
none_at p xs i d none l =
    elim (cases_Bool (p (get_or xs i d))) [
      | inl t ↦ absurd (true≢false (sym (list_any_at p xs i d l t) ∙ none))
      | inr f ↦ f
    ]
