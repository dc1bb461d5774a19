-- Whether a number from 0 on passes a test.
use Rattle.std.specs.Prelude.{◌||◌}
use Rattle.std.specs.List.{list_any, range_with_len}
use Rattle.std.proofs.Common.{◌≡◌, ℕ, zero, suc, ◌+◌, ◌<◌, ◌≤◌, Bool, true, false, List, [], ◌∷◌, ◌++◌, refl, sym, ap, ◌∙◌, add-one, arith, inl, inr}
use Rattle.std.proofs.lemmas.Bool.{cases_lt}
use Rattle.std.proofs.lemmas.List.Folds.{list_any-append}

more_from : (a n b : ℕ) → b ≡ a + n → range_with_len a (suc n) ≡ range_with_len a n ++ b ∷ []
more_from a zero b e = ap (λ (k : ℕ). k ∷ []) (omega (arith, e))
more_from a (suc n) b e = ap (λ (l : List ℕ). a ∷ l) (more_from (a + 1) n b (omega (arith, e)))

range_more : (n : ℕ) → range_with_len 0 (n + 1) ≡ range_with_len 0 n ++ n ∷ []
range_more n = ap (λ (k : ℕ). range_with_len 0 k) (add-one n) ∙ more_from 0 n n (omega arith)

or_false : (b : Bool) → (b || false) ≡ b
or_false true = refl
or_false false = refl

pub any_more : (p : ℕ → Bool) (n : ℕ) → list_any p (range_with_len 0 (n + 1)) ≡ (list_any p (range_with_len 0 n) || p n)
any_more p n = ap (list_any p) (range_more n) ∙ list_any-append p (range_with_len 0 n) (n ∷ []) ∙ ap (λ (b : Bool). list_any p (range_with_len 0 n) || b) (or_false (p n))

or_true : (a b : Bool) → b ≡ true → (a || b) ≡ true
or_true true b e = refl
or_true false b e = e

or_left : (a b : Bool) → a ≡ true → (a || b) ≡ true
or_left true b e = refl
or_left false b e = absurd cc

any_in : (p : ℕ → Bool) (a n k : ℕ) → a ≤ k → k < a + n → p k ≡ true → list_any p (range_with_len a n) ≡ true
any_in p a zero k le lt h = absurd (omega (arith, le, lt))
any_in p a (suc n) k le lt h =
    elim (cases_lt a k) [
      | inl more ↦ or_true (p a) _ (any_in p (a + 1) n k (omega (arith, more)) (omega (arith, lt)) h)
      | inr least ↦ (let e : a ≡ k = omega (arith, le, least) in or_left (p a) _ (ap p e ∙ h))
    ]

pub any_at : (p : ℕ → Bool) (n k : ℕ) → k < n → p k ≡ true → list_any p (range_with_len 0 n) ≡ true
any_at p n k lt h = any_in p 0 n k (omega arith) (omega (arith, lt)) h

pub none_more : (p : ℕ → Bool) (n : ℕ) → list_any p (range_with_len 0 n) ≡ false → p n ≡ false → list_any p (range_with_len 0 (n + 1)) ≡ false
none_more p n before here = any_more p n ∙ ap (λ (b : Bool). b || p n) before ∙ here
