-- How many views are live.
use Rattle.std.proofs.Common.{◌≡◌, ℕ, zero, suc, ◌+◌, Bool, true, false, cond, List, [], ◌∷◌, ◌++◌, set, sym, refl, ap, ◌∙◌, subst, arith}
use mathlib.Core.Option.{some, some-injective, some-ne-none}
use lib.ListN.{get_elem?}
use Rattle.std.specs.Prelude.{count_by}
use Rattle.std.proofs.lemmas.List.Recursion.{is_count_by}
use Rattle.vm_turn.specs.declared.view.View.{View}

-- a sum that counts one more where b is true is 0 only where it is false
dead_if : (b : Bool) (n : ℕ) → cond b 1 0 + n ≡ 0 → (b ≡ false) × (n ≡ 0)
dead_if true n e = absurd (omega arith)
dead_if false n e = (refl, omega arith)

-- the two ways to count one more
counted : (b : Bool) (n : ℕ) → cond b 1 0 + n ≡ cond b (1 + n) n
counted true n = refl
counted false n = omega arith

module _ {R : Type 0} where
  -- as the rule says it
  abbrev pub live_count : List (View R) → ℕ
  live_count vs = count_by (λ (v : View R). v.live) vs

  -- by recursion
  abbrev lives : List (View R) → ℕ
  lives [] = 0
  lives (v ∷ vs) = cond v.live 1 0 + lives vs

  lives-is : (vs : List (View R)) → lives vs ≡ live_count vs
  lives-is vs = is_count_by lives (λ (v : View R). v.live) refl (λ v us. counted v.live (lives us)) vs

  lives_set : (vs : List (View R)) (i : ℕ) (v w : View R) → get_elem? vs i ≡ some v → w.live ≡ v.live → lives (set vs i w) ≡ lives vs
  lives_set [] i v w at same = absurd (some-ne-none v (sym at))
  lives_set (x ∷ xs) zero v w at same = ap (λ (b : Bool). cond b 1 0 + lives xs) (same ∙ ap (λ (u : View R). u.live) (sym (some-injective x v at)))
  lives_set (x ∷ xs) (suc i) v w at same = ap (λ (n : ℕ). cond x.live 1 0 + n) (lives_set xs i v w at same)

  lives_less : (vs : List (View R)) (i : ℕ) (v w : View R) → get_elem? vs i ≡ some v → v.live ≡ true → w.live ≡ false → suc (lives (set vs i w)) ≡ lives vs
  lives_less [] i v w at was now = absurd (some-ne-none v (sym at))
  lives_less (x ∷ xs) zero v w at was now =
      let here : x.live ≡ true = ap (λ (u : View R). u.live) (some-injective x v at) ∙ was in
      let rest : ℕ = lives xs in
      let step : suc (0 + rest) ≡ 1 + rest = omega arith in
      ap (λ (b : Bool). suc (cond b 1 0 + rest)) now ∙ (step ∙ ap (λ (b : Bool). cond b 1 0 + rest) (sym here))
  lives_less (x ∷ xs) (suc i) v w at was now = let ih = lives_less xs i v w at was now in omega arith

  lives_more : (vs : List (View R)) (w : View R) → w.live ≡ true → lives (vs ++ w ∷ []) ≡ suc (lives vs)
  lives_more [] w live = ap (λ (b : Bool). cond b 1 0 + 0) live
  lives_more (x ∷ xs) w live = let ih = lives_more xs w live in omega arith

  -- where none is live, each is dead
  none_lives : (vs : List (View R)) (i : ℕ) (v : View R) → lives vs ≡ 0 → get_elem? vs i ≡ some v → v.live ≡ false
  none_lives [] i v none at = absurd (some-ne-none v (sym at))
  none_lives (x ∷ xs) zero v none at = ap (λ (u : View R). u.live) (sym (some-injective x v at)) ∙ (dead_if x.live (lives xs) none).0
  none_lives (x ∷ xs) (suc i) v none at = none_lives xs i v (dead_if x.live (lives xs) none).1 at

  one_lives : (vs : List (View R)) (k : View R) → lives vs ≡ 1 → get_elem? vs 0 ≡ some k → k.live ≡ true → (n : ℕ) (v : View R) → get_elem? vs (suc n) ≡ some v → v.live ≡ false
  one_lives [] k one at live n v there = absurd (some-ne-none k (sym at))
  one_lives (x ∷ xs) k one at live n v there =
      let here : x.live ≡ true = ap (λ (u : View R). u.live) (some-injective x k at) ∙ live in
      let sum : 1 + lives xs ≡ 1 = subst (λ (b : Bool). cond b 1 0 + lives xs ≡ 1) here one in
      none_lives xs n v (omega arith) there

  -- a view that stays live, or dead, counts as before
  pub live_count-set : (vs : List (View R)) (i : ℕ) (v w : View R) → get_elem? vs i ≡ some v → w.live ≡ v.live → live_count (set vs i w) ≡ live_count vs
  live_count-set vs i v w at same = sym (lives-is (set vs i w)) ∙ (lives_set vs i v w at same ∙ lives-is vs)

  -- a live view that dies counts no more
  pub live_count-set_dead : (vs : List (View R)) (i : ℕ) (v w : View R) → get_elem? vs i ≡ some v → v.live ≡ true → w.live ≡ false → suc (live_count (set vs i w)) ≡ live_count vs
  live_count-set_dead vs i v w at was now = ap suc (sym (lives-is (set vs i w))) ∙ (lives_less vs i v w at was now ∙ lives-is vs)

  -- a live view more
  pub live_count-append : (vs : List (View R)) (w : View R) → w.live ≡ true → live_count (vs ++ w ∷ []) ≡ suc (live_count vs)
  live_count-append vs w live = sym (lives-is (vs ++ w ∷ [])) ∙ (lives_more vs w live ∙ ap suc (lives-is vs))

  -- where one view is live, and it is the first, the others are not
  pub others_dead : (vs : List (View R)) (k : View R) → live_count vs ≡ 1 → get_elem? vs 0 ≡ some k → k.live ≡ true → (n : ℕ) (v : View R) → get_elem? vs (suc n) ≡ some v → v.live ≡ false
  others_dead vs k one = one_lives vs k (lives-is vs ∙ one)
