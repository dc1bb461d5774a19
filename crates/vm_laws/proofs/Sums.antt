-- Sums over the numbers below another.
use Rattle.std.proofs.Common.{◌≡◌, ℕ, zero, suc, ◌<◌, ◌≤◌, subst, inl, inr, arith}
use Rattle.std.proofs.lemmas.Bool.{cases_lt}
use Rattle.vm_laws.specs.Ending.{sum_below}

pub sum_le : (f g : ℕ → ℕ) (n : ℕ) → ((k : ℕ) → k < n → f k ≤ g k) → sum_below f n ≤ sum_below g n
sum_le f g zero h = omega arith
sum_le f g (suc n) h = let a = sum_le f g n (λ k l. h k (omega arith)) in let b = h n (omega arith) in omega arith

pub sum_less : (f g : ℕ → ℕ) (n i : ℕ) → i < n → f i < g i → ((k : ℕ) → k < n → f k ≤ g k) → sum_below f n < sum_below g n
sum_less f g zero i l m h = absurd (omega arith)
sum_less f g (suc n) i l m h =
    elim (cases_lt i n) [
      | inl less ↦ let a = sum_less f g n i less m (λ k b. h k (omega arith)) in let b = h n (omega arith) in omega arith
      | inr more ↦
          let same : i ≡ n = omega arith in
          let a = sum_le f g n (λ k b. h k (omega arith)) in
          let b : f n < g n = subst (λ k. f k < g k) same m in
          omega arith
    ]
