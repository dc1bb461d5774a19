-- Searches in a list by a test.
use Rattle.std.proofs.Common.{◌≡◌, zero, suc, Bool, true, false, cond, List, [], ◌∷◌, Some, None, refl, sym, ap, subst, ◌∙◌, arith, ◌⊎◌, inl, inr}
use Rattle.std.specs.Prelude.{◌&&◌, find, Contains}
use Rattle.std.specs.List.{list_all, list_any}
use Rattle.std.proofs.lemmas.Bool.{and_parts, or_cases, or_left, or_right, cases_Bool}
use Rattle.std.proofs.lemmas.Option.{same_Some}

pub Contains-here : {X : Type 0} (x : X) (xs : List X) → Contains (x ∷ xs) x
Contains-here x xs = (0, omega arith, refl)

pub Contains-there : {X : Type 0} (y x : X) (xs : List X) → Contains xs x → Contains (y ∷ xs) x
Contains-there y x xs (k, l, e) = (suc k, omega arith, e)

pub Contains-cases : {X : Type 0} (y x : X) (xs : List X) → Contains (y ∷ xs) x → (y ≡ x) ⊎ Contains xs x
Contains-cases y x xs (zero, l, e) = inl e
Contains-cases y x xs (suc k, l, e) = inr (k, omega arith, e)

pub Contains-none : {X : Type 0} (x : X) → Contains [] x → {P : Type 0} → P
Contains-none x (k, l, e) = absurd (omega arith)

-- what a search finds passes the test and is in the list
pub find_some : {X : Type 0} (p : X → Bool) (xs : List X) (x : X) → find p xs ≡ Some x → (p x ≡ true) × Contains xs x
find_some p [] x e = absurd cc
find_some p (y ∷ ys) x e =
    elim (cases_Bool (p y)) [
      | inl t ↦
          let same : y ≡ x = same_Some y x (sym (ap (λ (b : Bool). cond b (Some y) (find p ys)) t) ∙ e) in
          (subst (λ z. p z ≡ true) same t, subst (λ z. Contains (y ∷ ys) z) same (Contains-here y ys))
      | inr f ↦
          let rest = find_some p ys x (sym (ap (λ (b : Bool). cond b (Some y) (find p ys)) f) ∙ e) in
          (rest.0, Contains-there y x ys rest.1)
    ]

pub any_some : {X : Type 0} (p : X → Bool) (xs : List X) → list_any p xs ≡ true → (x : X) × Contains xs x × (p x ≡ true)
any_some p [] e = absurd cc
any_some p (y ∷ ys) e =
    elim (or_cases (p y) (list_any p ys) e) [
      | inl t ↦ (y, Contains-here y ys, t)
      | inr t ↦ let r = any_some p ys t in (r.0, Contains-there y r.0 ys r.1, r.2)
    ]

pub any_from : {X : Type 0} (p : X → Bool) (xs : List X) (x : X) → Contains xs x → p x ≡ true → list_any p xs ≡ true
any_from p [] x c t = Contains-none x c
any_from p (y ∷ ys) x c t =
    elim (Contains-cases y x ys c) [
      | inl e ↦ or_left (p y) (list_any p ys) (ap p e ∙ t)
      | inr r ↦ or_right (p y) (list_any p ys) (any_from p ys x r t)
    ]

pub all_at : {X : Type 0} (p : X → Bool) (xs : List X) (x : X) → list_all p xs ≡ true → Contains xs x → p x ≡ true
all_at p [] x a c = Contains-none x c
all_at p (y ∷ ys) x a c =
    let both = and_parts (p y) (list_all p ys) a in
    elim (Contains-cases y x ys c) [
      | inl e ↦ subst (λ z. p z ≡ true) e both.0
      | inr r ↦ all_at p ys x both.1 r
    ]

pub find_none : {X : Type 0} (p : X → Bool) (xs : List X) → ((y : X) → Contains xs y → p y ≡ true → ⊥) → find p xs ≡ None
find_none p [] h = refl
find_none p (y ∷ ys) h =
    elim (cases_Bool (p y)) [
      | inl t ↦ absurd (h y (Contains-here y ys) t)
      | inr f ↦ ap (λ (b : Bool). cond b (Some y) (find p ys)) f ∙ find_none p ys (λ z c t. h z (Contains-there y z ys c) t)
    ]

-- the only one that passes is found
pub find_only : {X : Type 0} (p : X → Bool) (xs : List X) (x : X) → Contains xs x → p x ≡ true → ((y : X) → Contains xs y → p y ≡ true → y ≡ x) → find p xs ≡ Some x
find_only p [] x c t h = Contains-none x c
find_only p (y ∷ ys) x c t h =
    elim (cases_Bool (p y)) [
      | inl t1 ↦ ap (λ (b : Bool). cond b (Some y) (find p ys)) t1 ∙ ap (λ z. Some z) (h y (Contains-here y ys) t1)
      | inr f1 ↦ ap (λ (b : Bool). cond b (Some y) (find p ys)) f1
          ∙ elim (Contains-cases y x ys c) [
            | inl e ↦ absurd (let bad : p x ≡ false = subst (λ z. p z ≡ false) e f1 in let w : true ≡ false = sym t ∙ bad in cc)
            | inr r ↦ find_only p ys x r t (λ z d u. h z (Contains-there y z ys d) u)
          ]
    ]

-- each element is related to each one behind it
abbrev pub pairwise : {X : Type 0} → (X → X → Bool) → List X → Bool
pairwise r [] = true
pairwise r (x ∷ xs) = list_all (r x) xs && pairwise r xs

pub pairwise_at : {X : Type 0} (r : X → X → Bool) (xs : List X) (x y : X) → pairwise r xs ≡ true → Contains xs x → Contains xs y → (x ≡ y) ⊎ ((r x y ≡ true) ⊎ (r y x ≡ true))
pairwise_at r [] x y e c d = Contains-none x c
pairwise_at r (z ∷ zs) x y e c d =
    let both = and_parts (list_all (r z) zs) (pairwise r zs) e in
    elim (Contains-cases z x zs c) [
      | inl zx ↦ elim (Contains-cases z y zs d) [
        | inl zy ↦ inl (sym zx ∙ zy)
        | inr q ↦ inr (inl (subst (λ w. r w y ≡ true) zx (all_at (r z) zs y both.0 q)))
      ]
      | inr p ↦ elim (Contains-cases z y zs d) [
        | inl zy ↦ inr (inr (subst (λ w. r w x ≡ true) zy (all_at (r z) zs x both.0 p)))
        | inr q ↦ pairwise_at r zs x y both.1 p q
      ]
    ]
