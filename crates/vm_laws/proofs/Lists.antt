-- Tests on lists.
use Rattle.std.proofs.Common.{◌≡◌, ℕ, zero, suc, ◌+◌, ◌<◌, Bool, true, false, not, cond, List, [], ◌∷◌, ◌++◌, length, map, filter, get_or, refl, sym, ap, ◌∙◌, inl, inr, ◌⊎◌, arith, Some, None}
use Rattle.std.specs.Prelude.{◌&&◌, ◌||◌}
use Rattle.std.specs.List.{list_any, list_all, find, flat_map, range_with_len}
use Rattle.std.proofs.lemmas.Bool.{cases_Bool, or_parts, or_cases, true≢false, and_parts}
use Rattle.std.proofs.lemmas.List.Folds.{list_any-append, list_any_at}
use Rattle.std.proofs.lemmas.List.FromFn.{length-range_with_len, get_or-range_with_len}

pub clash : (b : Bool) → b ≡ true → b ≡ false → ⊥
clash b t f = true≢false (sym t ∙ f)

pub none_at : {X : Type 0} (p : X → Bool) → (xs : List X) (i : ℕ) (d : X) → i < length xs → list_any p xs ≡ false → p (get_or xs i d) ≡ false
none_at p xs i d l none =
    elim (cases_Bool (p (get_or xs i d))) [
      | inl t ↦ absurd (clash (list_any p xs) (list_any_at p xs i d l t) none)
      | inr f ↦ f
    ]

pub any-map : {X Y : Type 0} (p : X → Bool) (h : Y → X) → (ys : List Y) → list_any p (map h ys) ≡ list_any (λ y. p (h y)) ys
any-map p h [] = refl
any-map p h (y ∷ ys) = ap (λ b. p (h y) || b) (any-map p h ys)

abbrev if_in : {X : Type 0} → Bool → X → List X → List X
if_in b x xs = cond b (x ∷ xs) xs

any-filter-at : {X : Type 0} (p q : X → Bool) → (x : X) (xs : List X) (b : Bool) → list_any p (if_in b x (filter q xs)) ≡ ((b && p x) || list_any p (filter q xs))
any-filter-at p q x xs true = refl
any-filter-at p q x xs false = refl

pub any-filter : {X : Type 0} (p q : X → Bool) → (xs : List X) → list_any p (filter q xs) ≡ list_any (λ x. q x && p x) xs
any-filter p q [] = refl
any-filter p q (x ∷ xs) = any-filter-at p q x xs (q x) ∙ ap (λ b. (q x && p x) || b) (any-filter p q xs)

pub none_below : (p : ℕ → Bool) (n i : ℕ) → i < n → list_any p (range_with_len 0 n) ≡ false → p i ≡ false
none_below p n i l h =
    let long = length-range_with_len 0 n in
    let at : get_or (range_with_len 0 n) i 0 ≡ i = get_or-range_with_len 0 n i 0 l ∙ omega arith in
    ap (λ k. p k) (sym at) ∙ none_at p (range_with_len 0 n) i 0 (omega (arith, l, long)) h

some_from : (p : ℕ → Bool) (a n : ℕ) → list_any p (range_with_len a n) ≡ true → (i : ℕ) × (i < a + n) × (p i ≡ true)
some_from p a zero h = absurd (true≢false (sym h))
some_from p a (suc n) h =
    elim (or_cases (p a) (list_any p (range_with_len (a + 1) n)) h) [
      | inl t ↦ (a, omega arith, t)
      | inr later ↦ let w = some_from p (a + 1) n later in (w.0, omega (arith, w.1), w.2)
    ]

pub some_below : (p : ℕ → Bool) (n : ℕ) → list_any p (range_with_len 0 n) ≡ true → (i : ℕ) × (i < n) × (p i ≡ true)
some_below p n h = let w = some_from p 0 n h in (w.0, omega (arith, w.1), w.2)

pub is_below : (p : ℕ → Bool) (n i : ℕ) → i < n → p i ≡ true → list_any p (range_with_len 0 n) ≡ true
is_below p n i l t =
    elim (cases_Bool (list_any p (range_with_len 0 n))) [
      | inl h ↦ h
      | inr f ↦ absurd (clash (p i) t (none_below p n i l f))
    ]

pub any_below_from : (p q : ℕ → Bool) (n : ℕ) → ((i : ℕ) → p i ≡ true → q i ≡ true) → list_any p (range_with_len 0 n) ≡ true → list_any q (range_with_len 0 n) ≡ true
any_below_from p q n f h = let w = some_below p n h in is_below q n w.0 w.1 (f w.0 w.2)

-- a bounded search
pub search_below : (p : ℕ → Bool) (n : ℕ) → ((i : ℕ) × (i < n) × (p i ≡ true)) ⊎ ((i : ℕ) → i < n → p i ≡ false)
search_below p n =
    elim (cases_Bool (list_any p (range_with_len 0 n))) [
      | inl h ↦ inl (some_below p n h)
      | inr f ↦ inr (λ i l. none_below p n i l f)
    ]

find_none_at : {X : Type 0} (p : X → Bool) (x : X) (xs : List X) → (find p xs ≡ None → list_any p xs ≡ false) → (b : Bool) → cond b (Some x) (find p xs) ≡ None → (b || list_any p xs) ≡ false
find_none_at p x xs rest true h = absurd (cc)
find_none_at p x xs rest false h = rest h

pub find_none : {X : Type 0} (p : X → Bool) → (xs : List X) → find p xs ≡ None → list_any p xs ≡ false
find_none p [] h = refl
find_none p (x ∷ xs) h = find_none_at p x xs (find_none p xs) (p x) h

-- what find gives
pub record Found {X : Type 0} (p : X → Bool) (xs : List X) : Type 0 where
  pub item : X
  pub is : find p xs ≡ Some item
  pub passes : p item ≡ true

found_at : {X : Type 0} (p : X → Bool) (x : X) (xs : List X) → (list_any p xs ≡ true → Found p xs) → (b : Bool) → p x ≡ b → (b || list_any p xs) ≡ true → Found p (x ∷ xs)
found_at p x xs rest true e h = record { item = x; is = ap (λ b. cond b (Some x) (find p xs)) e; passes = e }
found_at p x xs rest false e h = let r = rest h in record { item = r.item; is = ap (λ b. cond b (Some x) (find p xs)) e ∙ r.is; passes = r.passes }

pub found : {X : Type 0} (p : X → Bool) → (xs : List X) → list_any p xs ≡ true → Found p xs
found p [] h = absurd (true≢false (sym h))
found p (x ∷ xs) h = found_at p x xs (found p xs) (p x) refl h

pub all_from : {X : Type 0} (p : X → Bool) (d : X) → (xs : List X) → ((i : ℕ) → i < length xs → p (get_or xs i d) ≡ true) → list_all p xs ≡ true
all_from p d [] h = refl
all_from p d (x ∷ xs) h = ap (λ b. b && list_all p xs) (h 0 (omega arith)) ∙ all_from p d xs (λ i l. h (suc i) (omega (arith, l)))

pub none_from : {X : Type 0} (p : X → Bool) (d : X) → (xs : List X) → ((i : ℕ) → i < length xs → p (get_or xs i d) ≡ false) → list_any p xs ≡ false
none_from p d [] h = refl
none_from p d (x ∷ xs) h = ap (λ b. b || list_any p xs) (h 0 (omega arith)) ∙ none_from p d xs (λ i l. h (suc i) (omega (arith, l)))

-- with a default for each place
pub all_each : {X : Type 0} (p : X → Bool) (d : ℕ → X) → (xs : List X) → ((i : ℕ) → i < length xs → p (get_or xs i (d i)) ≡ true) → list_all p xs ≡ true
all_each p d [] h = refl
all_each p d (x ∷ xs) h = ap (λ b. b && list_all p xs) (h 0 (omega arith)) ∙ all_each p (λ i. d (suc i)) xs (λ i l. h (suc i) (omega (arith, l)))

pub none_each : {X : Type 0} (p : X → Bool) (d : ℕ → X) → (xs : List X) → ((i : ℕ) → i < length xs → p (get_or xs i (d i)) ≡ false) → list_any p xs ≡ false
none_each p d [] h = refl
none_each p d (x ∷ xs) h = ap (λ b. b || list_any p xs) (h 0 (omega arith)) ∙ none_each p (λ i. d (suc i)) xs (λ i l. h (suc i) (omega (arith, l)))

pub all_at : {X : Type 0} (p : X → Bool) (d : X) → (xs : List X) → list_all p xs ≡ true → (i : ℕ) → i < length xs → p (get_or xs i d) ≡ true
all_at p d [] h i l = absurd (omega arith)
all_at p d (x ∷ xs) h zero l = (and_parts (p x) (list_all p xs) h).0
all_at p d (x ∷ xs) h (suc i) l = all_at p d xs (and_parts (p x) (list_all p xs) h).1 i (omega (arith, l))

pub none-flat : {X Y : Type 0} (p : X → Bool) (f : Y → List X) → (ys : List Y) → list_any p (flat_map f ys) ≡ list_any (λ y. list_any p (f y)) ys
none-flat p f [] = refl
none-flat p f (y ∷ ys) = list_any-append p (f y) (flat_map f ys) ∙ ap (λ b. list_any p (f y) || b) (none-flat p f ys)

-- under a test that passes, a list's tests are the list's own
pub under_open : {X : Type 0} (t : X → Bool) (xs : List X) → (closed : Bool) → closed ≡ false → list_any (λ e. not closed && t e) xs ≡ list_any t xs
under_open t xs true e = absurd (true≢false e)
under_open t xs false e = refl

pub where_last : {X : Type 0} (t : X → Bool) (x y : X) (b : Bool) → list_any t (cond b (x ∷ []) [] ++ y ∷ []) ≡ false → (b ≡ true → t x ≡ false) × (t y ≡ false)
where_last t x y true h = let a = or_parts (t x) (t y || false) h in ((λ e. a.0), (or_parts (t y) false a.1).0)
where_last t x y false h = ((λ e. absurd (true≢false (sym e))), (or_parts (t y) false h).0)

pub append_parts : {X : Type 0} (t : X → Bool) (xs ys : List X) → list_any t (xs ++ ys) ≡ false → (list_any t xs ≡ false) × (list_any t ys ≡ false)
append_parts t xs ys h = or_parts (list_any t xs) (list_any t ys) (sym (list_any-append t xs ys) ∙ h)
