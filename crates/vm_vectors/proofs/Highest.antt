-- The highest member of a set.
use Rattle.std.proofs.Common.{◌≡◌, Some, None, ℕ, ◌<◌, ◌≤◌, max, Bool, true, false, ◌||◌, List, [], ◌∷◌, refl, sym, ap, subst, arith, inl, inr, ◌∙◌, ◌⊎◌}
use Rattle.std.specs.Prelude.{fold}
use Rattle.std.specs.List.{list_any}
use Rattle.std.proofs.lemmas.Bool.{cases_lt}
use Rattle.std.proofs.lemmas.Bool.Decides.{nat_tests}
use Rattle.std.proofs.lemmas.Grind.{common_steps}
use Rattle.std.specs.Ordering.{nat_cmp, eq_by_cmp}
use Rattle.std.specs.Cmp.{nat_cmp_total}
use Rattle.std.specs.FinSet.{items, empty, same_set, nat_cmp-IsAntisymmetric, contains-empty, contains-items}
use Rattle.vm_vectors.specs.Vectors.{Vectors, has, greatest, highest}

-- q is in the list
abbrev any : ℕ → List ℕ → Bool
any q xs = list_any (eq_by_cmp nat_cmp q) xs

itself : (q : ℕ) (b : Bool) → (eq_by_cmp nat_cmp q q || b) ≡ true
itself q b = grind (arith, nat_tests, common_steps)

first_or_more : (q x : ℕ) (xs : List ℕ) → any q (x ∷ xs) ≡ true → (q ≡ x) ⊎ (any q xs ≡ true)
first_or_more q x xs h = elim (cases_lt q x) [
  | inl l ↦ inr (grind (arith, nat_tests, common_steps))
  | inr l ↦ elim (cases_lt x q) [ inl m ↦ inr (grind (arith, nat_tests, common_steps)) | inr m ↦ inl (omega arith) ]
]

is_more : (q x : ℕ) (xs : List ℕ) → any q xs ≡ true → any q (x ∷ xs) ≡ true
is_more q x xs h = grind (arith, nat_tests, common_steps)

is_first : (q x : ℕ) (xs : List ℕ) → q ≡ x → any q (x ∷ xs) ≡ true
is_first q x xs e = subst (λ y. any q (y ∷ xs) ≡ true) e (itself q (any q xs))

start_below : (m : ℕ) (xs : List ℕ) → m ≤ fold max m xs
start_below m [] = omega arith
start_below m (x ∷ xs) = omega (arith, start_below (max m x) xs)

each_below : (m : ℕ) (xs : List ℕ) (q : ℕ) → any q xs ≡ true → q ≤ fold max m xs
each_below m [] q h = absurd cc
each_below m (x ∷ xs) q h = elim (first_or_more q x xs h) [
  | inl e ↦ omega (arith, start_below (max m x) xs, e)
  | inr r ↦ each_below (max m x) xs q r
]

max_is : (m x : ℕ) → (max m x ≡ m) ⊎ (max m x ≡ x)
max_is m x = elim (cases_lt m x) [ inl l ↦ inr (omega arith) | inr l ↦ inl (omega arith) ]

-- the greatest is the first or one of the others
reached : (m : ℕ) (xs : List ℕ) → (fold max m xs ≡ m) ⊎ (any (fold max m xs) xs ≡ true)
reached m [] = inl refl
reached m (x ∷ xs) = elim (reached (max m x) xs) [
  | inl e ↦ elim (max_is m x) [ inl f ↦ inl (e ∙ f) | inr f ↦ inr (is_first _ x xs (e ∙ f)) ]
  | inr r ↦ inr (is_more _ x xs r)
]

member_below : (x : ℕ) (xs : List ℕ) (v : ℕ) → any v (x ∷ xs) ≡ true → v ≤ fold max x xs
member_below x xs v h = elim (first_or_more v x xs h) [ inl e ↦ omega (arith, start_below x xs, e) | inr r ↦ each_below x xs v r ]

is_member : (x : ℕ) (xs : List ℕ) → any (fold max x xs) (x ∷ xs) ≡ true
is_member x xs = elim (reached x xs) [ inl e ↦ is_first _ x xs e | inr r ↦ is_more _ x xs r ]

same_greatest : (m v : ℕ) (xs : List ℕ) → v ≤ m → any m xs ≡ true → ((w : ℕ) → v < w → any w xs ≡ false) → m ≡ v
same_greatest m v xs le h above = elim (cases_lt v m) [ inl l ↦ (let e = above m l in absurd cc) | inr l ↦ omega arith ]

greatest_is : (xs : List ℕ) (v : ℕ) → any v xs ≡ true → ((w : ℕ) → v < w → any w xs ≡ false) → greatest xs ≡ Some v
greatest_is [] v h above = absurd cc
greatest_is (x ∷ xs) v h above = ap Some (same_greatest (fold max x xs) v (x ∷ xs) (member_below x xs v h) (is_member x xs) above)

greatest_none : (xs : List ℕ) → ((w : ℕ) → any w xs ≡ false) → greatest xs ≡ None
greatest_none [] none = refl
greatest_none (x ∷ xs) none = (let e = none x in let f = is_first x x xs refl in absurd cc)

-- a member above which there is none is the highest
pub highest_is : (s : Vectors) (v : ℕ) → has s v ≡ true → ((w : ℕ) → v < w → has s w ≡ false) → highest s ≡ Some v
unfolding highest
highest_is s v h above = greatest_is (items s) v (sym (contains-items s v) ∙ h) (λ w l. sym (contains-items s w) ∙ above w l)

pub highest_none : (s : Vectors) → ((w : ℕ) → has s w ≡ false) → highest s ≡ None
unfolding highest
highest_none s none = greatest_none (items s) (λ w. sym (contains-items s w) ∙ none w)

pub no_member : (s : Vectors) → ((w : ℕ) → has s w ≡ false) → s ≡ empty
no_member s none = same_set nat_cmp_total nat_cmp-IsAntisymmetric s empty (λ q. none q ∙ sym (contains-empty nat_cmp q))

-- what the highest member tells
greatest_tells : (xs : List ℕ) (v : ℕ) → greatest xs ≡ Some v → (any v xs ≡ true) × ((w : ℕ) → any w xs ≡ true → w ≤ v)
greatest_tells [] v e = absurd cc
greatest_tells (x ∷ xs) v e = let f : fold max x xs ≡ v = cc in (subst (λ m. any m (x ∷ xs) ≡ true) f (is_member x xs), λ w h. subst (λ m. w ≤ m) f (member_below x xs w h))

pub highest_tells : (s : Vectors) (v : ℕ) → highest s ≡ Some v → (has s v ≡ true) × ((w : ℕ) → has s w ≡ true → w ≤ v)
unfolding highest
highest_tells s v e = let t = greatest_tells (items s) v e in (contains-items s v ∙ t.0, λ w h. t.1 w (sym (contains-items s w) ∙ h))
