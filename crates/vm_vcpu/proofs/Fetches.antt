-- The pages that were looked at, fetch by fetch.
use Rattle.std.proofs.Common.{◌≡◌, ℕ, zero, suc, ◌+◌, ◌≤◌, ◌<◌, Bool, true, false, List, [], ◌∷◌, ◌++◌, length, refl, sym, ap, subst, ◌∙◌, inl, inr, arith}
use Rattle.std.specs.Prelude.{◌==◌, slice_index}
use Rattle.std.specs.List.{flat_map, list_all, range_with_len}
use Rattle.std.proofs.lemmas.Bool.{and_parts, and_from, true≢false, cases_lt}
use Rattle.std.proofs.lemmas.Bool.Decides.{nat_tests}
use Rattle.std.proofs.lemmas.Grind.{flat_map-append}
use Rattle.std.proofs.lemmas.List.{get_or_past}
use Rattle.std.proofs.lemmas.List.Folds.{list_all-append}
use Rattle.vm_devices.proofs.Live.{range_more}

module _ (P : ℕ → Bool) (f : ℕ → List ℕ) where
  each_piece : (a n k : ℕ) → list_all P (flat_map f (range_with_len a n)) ≡ true → a ≤ k → k < a + n → list_all P (f k) ≡ true
  each_piece a zero k h low high = absurd (omega (arith, low, high))
  each_piece a (suc n) k h low high =
      let t = and_parts (list_all P (f a)) _ (sym (list_all-append P (f a) (flat_map f (range_with_len (a + 1) n))) ∙ h) in
      elim (cases_lt a k) [
        | inl less ↦ each_piece (a + 1) n k t.1 (omega (arith, less)) (omega (arith, high))
        | inr more ↦ (let e : a ≡ k = omega (arith, low, more) in subst (λ (j : ℕ). list_all P (f j) ≡ true) e t.0)
      ]

  no_true : (b : Bool) → (b ≡ true → ⊥) → b ≡ false
  no_true true h = absurd (h refl)
  no_true false h = refl

  -- one that fails
  pub piece_fails : (n k : ℕ) → k < n → list_all P (f k) ≡ false → list_all P (flat_map f (range_with_len 0 n)) ≡ false
  piece_fails n k l h = no_true _ (λ t. true≢false (sym (each_piece 0 n k t (omega arith) (omega (arith, l))) ∙ h))

  nothing_more : (xs : List ℕ) → xs ++ [] ≡ xs
  nothing_more [] = refl
  nothing_more (x ∷ xs) = ap (λ (ys : List ℕ). x ∷ ys) (nothing_more xs)

  -- one more
  pub piece_more : (k : ℕ) → list_all P (flat_map f (range_with_len 0 k)) ≡ true → list_all P (f k) ≡ true → list_all P (flat_map f (range_with_len 0 (k + 1))) ≡ true
  piece_more k h t =
      let split : flat_map f (range_with_len 0 (k + 1)) ≡ flat_map f (range_with_len 0 k) ++ flat_map f (k ∷ []) = ap (flat_map f) (range_more 0 k k (omega arith)) ∙ flat_map-append f (range_with_len 0 k) (k ∷ []) in
      let one : flat_map f (k ∷ []) ≡ f k = nothing_more (f k) in
      ap (list_all P) split ∙ list_all-append P (flat_map f (range_with_len 0 k)) (flat_map f (k ∷ []))
      ∙ and_from (list_all P (flat_map f (range_with_len 0 k))) (list_all P (flat_map f (k ∷ []))) h (ap (list_all P) one ∙ t)

pub all_true : (P : ℕ → Bool) (xs : List ℕ) → ((x : ℕ) → P x ≡ true) → list_all P xs ≡ true
all_true P [] h = refl
all_true P (x ∷ xs) h = and_from (P x) (list_all P xs) (h x) (all_true P xs h)

pub same_test : (m n : ℕ) → m ≡ n → (m == n) ≡ true
same_test m n e = grind (arith, nat_tests, e)

-- what holds of each page that there is holds of all
pub every_page : (xs ys : List ℕ) (n : ℕ) → length xs ≤ n → length ys ≤ n → ((k : ℕ) → k < n → slice_index xs k ≡ slice_index ys k) → (k : ℕ) → slice_index xs k ≡ slice_index ys k
every_page xs ys n a b h k = elim (cases_lt k n) [
  | inl less ↦ h k less
  | inr more ↦ get_or_past xs k 0 (omega (arith, a, more)) ∙ sym (get_or_past ys k 0 (omega (arith, b, more)))
]
