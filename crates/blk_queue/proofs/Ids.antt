-- Requests by their ids, which ascend.
use Rattle.std.proofs.Common.{◌≡◌, ℕ, zero, suc, ◌+◌, ◌<◌, ◌≤◌, Bool, true, false, cond, List, [], ◌∷◌, ◌++◌, length, map, filter, get_or, set, Some, refl, sym, ap, subst, ◌∙◌, inl, inr, arith}
use Rattle.std.specs.Prelude.{◌&&◌, ◌||◌, ◌==◌, not, remove}
use Rattle.std.specs.List.{list_any, find, All}
use Rattle.std.proofs.lemmas.Bool.{or_from, or_parts, or_cases, and_parts, ne_eqb, eq-eqb}
use Rattle.std.proofs.lemmas.List.Elements.{All-head, All-tail}
use Rattle.blk_queue.specs.declared.progress.Progress.{Progress}
use Rattle.blk_queue.specs.declared.progress.Unfinished.{Unfinished}
use Rattle.blk_queue.specs.Steps.{change_one}
use Rattle.blk_queue.specs.Sound.{Ascend}

abbrev pub named : ℕ → Unfinished → Bool
named id x = x.id == id

abbrev pub with_own : (Progress → Progress) → Unfinished → Unfinished
with_own f x = record x { progress = f x.progress }

-- ---- lists in which nothing passes a test

pub or_nothing : (b : Bool) → (b || false) ≡ b
or_nothing true = refl
or_nothing false = refl

or_true : (b : Bool) → (b || true) ≡ true
or_true true = refl
or_true false = refl

pub filter_none : {X : Type 0} (p : X → Bool) (xs : List X) → list_any p xs ≡ false → filter p xs ≡ []
filter_none p [] h = refl
filter_none p (x ∷ xs) h =
    let parts = or_parts (p x) (list_any p xs) h in
    ap (λ b. cond b (x ∷ filter p xs) (filter p xs)) parts.0 ∙ filter_none p xs parts.1

pub filter_others : {X : Type 0} (p : X → Bool) (xs : List X) → list_any p xs ≡ false → filter (λ x. not (p x)) xs ≡ xs
filter_others p [] h = refl
filter_others p (x ∷ xs) h =
    let parts = or_parts (p x) (list_any p xs) h in
    ap (λ b. cond (not b) (x ∷ filter (λ y. not (p y)) xs) (filter (λ y. not (p y)) xs)) parts.0 ∙ ap (λ ys. x ∷ ys) (filter_others p xs parts.1)

change_other : (id : ℕ) (f : Progress → Progress) (x : Unfinished) → named id x ≡ false → change_one id f x ≡ x
change_other id f x h = ap (λ b. cond b (with_own f x) x) h

change_this : (id : ℕ) (f : Progress → Progress) (x : Unfinished) → named id x ≡ true → change_one id f x ≡ with_own f x
change_this id f x h = ap (λ b. cond b (with_own f x) x) h

pub changed_none : (id : ℕ) (f : Progress → Progress) (xs : List Unfinished) → list_any (named id) xs ≡ false → map (change_one id f) xs ≡ xs
changed_none id f [] h = refl
changed_none id f (x ∷ xs) h =
    let parts = or_parts (named id x) (list_any (named id) xs) h in
    ap (λ y. y ∷ map (change_one id f) xs) (change_other id f x parts.0) ∙ ap (λ ys. x ∷ ys) (changed_none id f xs parts.1)

-- ---- ids that ascend

pub none_below : (low next id : ℕ) (xs : List Unfinished) → id < low → Ascend low xs next → list_any (named id) xs ≡ false
none_below low next id [] l h = refl
none_below low next id (x ∷ xs) l h =
    or_from (named id x) (list_any (named id) xs) (ne_eqb x.id id (λ e. omega (arith, h.0))) (none_below (x.id + 1) next id xs (omega (arith, h.0)) h.1)

pub at_least : (low next : ℕ) (xs : List Unfinished) (i : ℕ) (d : Unfinished) → Ascend low xs next → i < length xs → low ≤ (get_or xs i d).id
at_least low next [] i d h l = absurd (omega arith)
at_least low next (x ∷ xs) zero d h l = h.0
at_least low next (x ∷ xs) (suc i) d h l = let below : i < length xs = omega arith in let more = at_least (x.id + 1) next xs i d h.1 below in omega (arith, h.0, more)

-- the head has another id than an element behind it
head_other : (low next id : ℕ) (x : Unfinished) (xs : List Unfinished) (i : ℕ) (d : Unfinished) → Ascend low (x ∷ xs) next → i < length xs → (get_or xs i d).id ≡ id → named id x ≡ false
head_other low next id x xs i d h l e = let more = at_least (x.id + 1) next xs i d h.1 l in ne_eqb x.id id (λ same. omega (arith, more, e, same))

-- the change of the request of an id is a write at its place
pub changed_at : (low next id : ℕ) (f : Progress → Progress) (xs : List Unfinished) (i : ℕ) (d : Unfinished) → Ascend low xs next → i < length xs → (get_or xs i d).id ≡ id
    → map (change_one id f) xs ≡ set xs i (with_own f (get_or xs i d))
changed_at low next id f [] i d h l e = absurd (omega arith)
changed_at low next id f (x ∷ xs) zero d h l e =
    ap (λ y. y ∷ map (change_one id f) xs) (change_this id f x (eq-eqb x.id id e))
    ∙ ap (λ ys. with_own f x ∷ ys) (changed_none id f xs (none_below (x.id + 1) next id xs (omega (arith, e)) h.1))
changed_at low next id f (x ∷ xs) (suc i) d h l e =
    let below : i < length xs = omega arith in
    ap (λ y. y ∷ map (change_one id f) xs) (change_other id f x (head_other low next id x xs i d h below e))
    ∙ ap (λ ys. x ∷ ys) (changed_at (x.id + 1) next id f xs i d h.1 below e)

-- those of other ids are the list without that place
pub others_at : (low next id : ℕ) (xs : List Unfinished) (i : ℕ) (d : Unfinished) → Ascend low xs next → i < length xs → (get_or xs i d).id ≡ id
    → filter (λ x. not (named id x)) xs ≡ remove xs i
others_at low next id [] i d h l e = absurd (omega arith)
others_at low next id (x ∷ xs) zero d h l e =
    ap (λ b. cond (not b) (x ∷ filter (λ y. not (named id y)) xs) (filter (λ y. not (named id y)) xs)) (eq-eqb x.id id e)
    ∙ filter_others (named id) xs (none_below (x.id + 1) next id xs (omega (arith, e)) h.1)
others_at low next id (x ∷ xs) (suc i) d h l e =
    let below : i < length xs = omega arith in
    ap (λ b. cond (not b) (x ∷ filter (λ y. not (named id y)) xs) (filter (λ y. not (named id y)) xs)) (head_other low next id x xs i d h below e)
    ∙ ap (λ ys. x ∷ ys) (others_at (x.id + 1) next id xs i d h.1 below e)

-- the one of an id is the element at that place
pub this_at : (low next id : ℕ) (xs : List Unfinished) (i : ℕ) (d : Unfinished) → Ascend low xs next → i < length xs → (get_or xs i d).id ≡ id
    → filter (named id) xs ≡ get_or xs i d ∷ []
this_at low next id [] i d h l e = absurd (omega arith)
this_at low next id (x ∷ xs) zero d h l e =
    ap (λ b. cond b (x ∷ filter (named id) xs) (filter (named id) xs)) (eq-eqb x.id id e)
    ∙ ap (λ ys. x ∷ ys) (filter_none (named id) xs (none_below (x.id + 1) next id xs (omega (arith, e)) h.1))
this_at low next id (x ∷ xs) (suc i) d h l e =
    let below : i < length xs = omega arith in
    ap (λ b. cond b (x ∷ filter (named id) xs) (filter (named id) xs)) (head_other low next id x xs i d h below e)
    ∙ this_at (x.id + 1) next id xs i d h.1 below e

-- a look-up by the id finds that element
pub find_at : (low next id : ℕ) (xs : List Unfinished) (i : ℕ) (d : Unfinished) → Ascend low xs next → i < length xs → (get_or xs i d).id ≡ id
    → find (named id) xs ≡ Some (get_or xs i d)
find_at low next id [] i d h l e = absurd (omega arith)
find_at low next id (x ∷ xs) zero d h l e = ap (λ b. cond b (Some x) (find (named id) xs)) (eq-eqb x.id id e)
find_at low next id (x ∷ xs) (suc i) d h l e =
    let below : i < length xs = omega arith in
    ap (λ b. cond b (Some x) (find (named id) xs)) (head_other low next id x xs i d h below e)
    ∙ find_at (x.id + 1) next id xs i d h.1 below e

pub none_with : (id : ℕ) (test : Unfinished → Bool) (xs : List Unfinished) → list_any (named id) xs ≡ false → list_any (λ x. named id x && test x) xs ≡ false
none_with id test [] h = refl
none_with id test (x ∷ xs) h =
    let parts = or_parts (named id x) (list_any (named id) xs) h in
    ap (λ b. (b && test x) || list_any (λ y. named id y && test y) xs) parts.0 ∙ none_with id test xs parts.1

-- a test of the one of this id is a test of that element
pub test_at : (low next id : ℕ) (test : Unfinished → Bool) (xs : List Unfinished) (i : ℕ) (d : Unfinished) → Ascend low xs next → i < length xs → (get_or xs i d).id ≡ id
    → list_any (λ x. named id x && test x) xs ≡ test (get_or xs i d)
test_at low next id test [] i d h l e = absurd (omega arith)
test_at low next id test (x ∷ xs) zero d h l e =
    ap (λ b. (b && test x) || list_any (λ y. named id y && test y) xs) (eq-eqb x.id id e)
    ∙ ap (λ b. test x || b) (none_with id test xs (none_below (x.id + 1) next id xs (omega (arith, e)) h.1)) ∙ or_nothing (test x)
test_at low next id test (x ∷ xs) (suc i) d h l e =
    let below : i < length xs = omega arith in
    ap (λ b. (b && test x) || list_any (λ y. named id y && test y) xs) (head_other low next id x xs i d h below e)
    ∙ test_at (x.id + 1) next id test xs i d h.1 below e

-- where the one of this id passes a test, there is one of this id
pub has_from_test : (id : ℕ) (test : Unfinished → Bool) (xs : List Unfinished) → list_any (λ x. named id x && test x) xs ≡ true → list_any (named id) xs ≡ true
has_from_test id test [] h = h
has_from_test id test (x ∷ xs) h =
    elim (or_cases (named id x && test x) (list_any (λ y. named id y && test y) xs) h) [
      | inl this ↦ ap (λ b. b || list_any (named id) xs) (and_parts (named id x) (test x) this).0
      | inr that ↦ ap (λ b. named id x || b) (has_from_test id test xs that) ∙ or_true (named id x)
    ]

-- ---- ascending is kept

pub ascend_from_less : (low lower next : ℕ) (xs : List Unfinished) → lower ≤ low → Ascend low xs next → Ascend lower xs next
ascend_from_less low lower next [] l h = omega (arith, h)
ascend_from_less low lower next (x ∷ xs) l h = (omega (arith, h.0), h.1)

ascend_kept : (low next : ℕ) (x : Unfinished) (xs : List Unfinished) (b : Bool) → low ≤ x.id → Ascend (x.id + 1) xs next → Ascend low (cond b (x ∷ xs) xs) next
ascend_kept low next x xs true l h = (l, h)
ascend_kept low next x xs false l h = ascend_from_less (x.id + 1) low next xs (omega arith) h

pub ascend-filter : (p : Unfinished → Bool) (low next : ℕ) (xs : List Unfinished) → Ascend low xs next → Ascend low (filter p xs) next
ascend-filter p low next [] h = h
ascend-filter p low next (x ∷ xs) h = ascend_kept low next x (filter p xs) (p x) h.0 (ascend-filter p (x.id + 1) next xs h.1)

pub ascend-map : (f : Unfinished → Unfinished) → ((x : Unfinished) → (f x).id ≡ x.id) → (low next : ℕ) (xs : List Unfinished) → Ascend low xs next → Ascend low (map f xs) next
ascend-map f same low next [] h = h
ascend-map f same low next (x ∷ xs) h =
    (subst (λ n. low ≤ n) (sym (same x)) h.0, subst (λ n. Ascend (n + 1) (map f xs) next) (sym (same x)) (ascend-map f same (x.id + 1) next xs h.1))

pub ascend-set : (low next : ℕ) (xs : List Unfinished) (i : ℕ) (d y : Unfinished) → y.id ≡ (get_or xs i d).id → Ascend low xs next → Ascend low (set xs i y) next
ascend-set low next [] i d y e h = h
ascend-set low next (x ∷ xs) zero d y e h = (subst (λ n. low ≤ n) (sym e) h.0, subst (λ n. Ascend (n + 1) xs next) (sym e) h.1)
ascend-set low next (x ∷ xs) (suc i) d y e h = (h.0, ascend-set (x.id + 1) next xs i d y e h.1)

-- one more id, above those there
pub ascend-push : (low next more : ℕ) (xs : List Unfinished) (y : Unfinished) → Ascend low xs next → next ≤ y.id → y.id < more → Ascend low (xs ++ y ∷ []) more
ascend-push low next more [] y h l m = (omega (arith, h), omega arith)
ascend-push low next more (x ∷ xs) y h l m = (h.0, ascend-push (x.id + 1) next more xs y h.1 l m)

-- the ids end below any number that is above each
pub ascend_below : (low next top : ℕ) (xs : List Unfinished) → Ascend low xs next → All (λ (x : Unfinished). x.id < top) xs → low ≤ top → Ascend low xs top
ascend_below low next top [] h a l = l
ascend_below low next top (x ∷ xs) h a l =
    let less = All-head (λ (x : Unfinished). x.id < top) x xs a in
    (h.0, ascend_below (x.id + 1) next top xs h.1 (All-tail (λ (x : Unfinished). x.id < top) x xs a) (omega (arith, less)))
