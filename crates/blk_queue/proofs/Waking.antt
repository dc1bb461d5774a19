-- Those that a mark names wait no more: which are those that start where a request ends that leaves.
use Rattle.std.proofs.Common.{◌≡◌, ℕ, ◌+◌, ◌<◌, Bool, true, false, cond, List, [], ◌∷◌, ◌++◌, length, map, filter, get_or, refl, sym, ap, subst, ◌∙◌, inl, inr, eqb}
use Rattle.std.specs.Prelude.{◌&&◌, ◌||◌, ◌==◌, not, remove}
use Rattle.std.specs.List.{list_any}
use Rattle.std.proofs.lemmas.Bool.{cases_eq, eq-eqb, ne_eqb}
use Rattle.std.proofs.lemmas.List.Elements.{All-head, All-tail}
use Rattle.std.specs.List.{All}
use Rattle.std.proofs.lemmas.List.Folds.{list_any-append}
use Rattle.blk_queue.specs.declared.progress.Progress.{Progress}
use Rattle.blk_queue.specs.declared.progress.Progress.TheVariants.{Pending, Blocked, Busy}
use Rattle.blk_queue.specs.declared.progress.Unfinished.{Unfinished}
use Rattle.blk_queue.specs.declared.starts.Mark.{Mark}
use Rattle.blk_queue.specs.Progress.{is_behind, blocks}
use Rattle.blk_queue.specs.Steps.{change_one, freed}
use Rattle.blk_queue.specs.Starts.{has_start, Indexes, starts_at, unblocked, woken}
use Rattle.blk_queue.specs.Sound.{Ascend}
use Rattle.blk_queue.proofs.Ids.{named, with_own, or_nothing, test_at, others_at, ascend-filter}
use Rattle.blk_queue.proofs.Fitting.{put_progress}
use Rattle.blk_queue.proofs.Index.{any-filter, any_indexed, any_agree, indexes_filter}

eqb_sym : (a b : ℕ) → eqb a b ≡ eqb b a
eqb_sym a b =
    elim (cases_eq a b) [
      | inl same ↦ eq-eqb a b same ∙ sym (eq-eqb b a (sym same))
      | inr other ↦ ne_eqb a b other ∙ sym (ne_eqb b a (λ e. other (sym e)))
    ]

map_on : (f g : Unfinished → Unfinished) (xs : List Unfinished) → All (λ x. f x ≡ g x) xs → map f xs ≡ map g xs
map_on f g [] h = refl
map_on f g (x ∷ xs) h = ap (λ y. y ∷ map f xs) (All-head (λ y. f y ≡ g y) x xs h) ∙ ap (λ ys. g x ∷ ys) (map_on f g xs (All-tail (λ y. f y ≡ g y) x xs h))

-- ---- mark by mark

unblocked_again : (p : Progress) → unblocked (unblocked p) ≡ unblocked p
unblocked_again Pending = refl
unblocked_again Blocked = refl
unblocked_again (Busy w moved failed dropped) = refl

wake_at : (x : Unfinished) (id : ℕ) (b t : Bool) → (x.id == id) ≡ t → change_one id unblocked (cond b (with_own unblocked x) x) ≡ cond (b || (t || false)) (with_own unblocked x) x
wake_at x id true true e =
    ap (λ c. cond c (with_own unblocked (with_own unblocked x)) (with_own unblocked x)) e ∙ ap (λ p. put_progress x p) (unblocked_again x.progress)
wake_at x id true false e = ap (λ c. cond c (with_own unblocked (with_own unblocked x)) (with_own unblocked x)) e
wake_at x id false true e = ap (λ c. cond c (with_own unblocked x) x) e
wake_at x id false false e = ap (λ c. cond c (with_own unblocked x) x) e

wake_one_more : (marks : List Mark) (m : Mark) (x : Unfinished) → change_one m.id unblocked (woken marks x) ≡ woken (marks ++ m ∷ []) x
wake_one_more marks m x =
    wake_at x m.id (list_any (λ (k : Mark). x.id == k.id) marks) (x.id == m.id) refl
    ∙ ap (λ b. cond b (with_own unblocked x) x) (sym (list_any-append (λ (k : Mark). x.id == k.id) marks (m ∷ [])))

pub wake_more : (marks : List Mark) (m : Mark) (xs : List Unfinished) → map (change_one m.id unblocked) (map (woken marks) xs) ≡ map (woken (marks ++ m ∷ [])) xs
wake_more marks m [] = refl
wake_more marks m (x ∷ xs) = ap (λ y. y ∷ map (change_one m.id unblocked) (map (woken marks) xs)) (wake_one_more marks m x) ∙ ap (λ ys. woken (marks ++ m ∷ []) x ∷ ys) (wake_more marks m xs)

pub wake_none : (xs : List Unfinished) → xs ≡ map (woken []) xs
wake_none [] = refl
wake_none (x ∷ xs) = ap (λ ys. x ∷ ys) (wake_none xs)

-- ---- those that start where one ends

same_wake : (x : Unfinished) (p : Progress) → x.progress ≡ p → (c : Bool) → cond c (with_own unblocked x) x ≡ cond (blocks p && c) (put_progress x Pending) x
same_wake x Pending e true = ap (λ q. put_progress x (unblocked q)) e ∙ ap (λ q. put_progress x q) (sym e)
same_wake x Pending e false = refl
same_wake x Blocked e true = ap (λ q. put_progress x (unblocked q)) e
same_wake x Blocked e false = refl
same_wake x (Busy w moved failed dropped) e true = ap (λ q. put_progress x (unblocked q)) e ∙ ap (λ q. put_progress x q) (sym e)
same_wake x (Busy w moved failed dropped) e false = refl

and_true : (b : Bool) → (b && true) ≡ b
and_true true = refl
and_true false = refl

and_false : (b : Bool) → (b && false) ≡ false
and_false true = refl
and_false false = refl

turned : (h s a b : Bool) → a ≡ b → (h && (s && a)) ≡ (b && (h && s))
turned true true a b e = e ∙ sym (and_true b)
turned true false a b e = sym (and_false b)
turned false s a b e = sym (and_false b)

behind_this : (h y a b : Bool) → y ≡ true → a ≡ b → (h && a) ≡ ((h && y && b) || false)
behind_this true true a b e s = s ∙ sym (or_nothing b)
behind_this false true a b e s = refl
behind_this true false a b e s = cc
behind_this false false a b e s = refl

freed_at : (xs : List Unfinished) (marks : List Mark) (next : ℕ) (y : Unfinished) (k : ℕ) (d : Unfinished) → Ascend 0 xs next → Indexes xs marks → has_start y ≡ true → k < length xs
    → woken (filter (starts_at (y.request.start + y.request.count)) marks) (get_or xs k d) ≡ freed (y ∷ []) (get_or xs k d)
unfolding freed
freed_at xs marks next y k d ids h s l =
    let x : Unfinished = get_or xs k d in
    let e : ℕ = y.request.start + y.request.count in
    let here : list_any (λ (m : Mark). x.id == m.id) (filter (starts_at e) marks) ≡ (has_start x && (x.request.start == e)) =
    any-filter (λ (m : Mark). x.id == m.id) (starts_at e) marks
    ∙ any_indexed xs marks (λ m. starts_at e m && (x.id == m.id)) h
    ∙ any_agree (λ z. has_start z && ((z.request.start == e) && (x.id == z.id))) (λ z. named x.id z && (has_start z && (z.request.start == e))) (λ z. turned (has_start z) (z.request.start == e) (x.id == z.id) (z.id == x.id) (eqb_sym x.id z.id)) xs
    ∙ test_at 0 next x.id (λ z. has_start z && (z.request.start == e)) xs k d ids l refl in
    let waits : (has_start x && (x.request.start == e)) ≡ (is_behind x.request y.request || false) = behind_this (has_start x) (has_start y) (x.request.start == e) (e == x.request.start) s (eqb_sym x.request.start e) in
    ap (λ b. cond b (with_own unblocked x) x) (here ∙ waits) ∙ same_wake x x.progress refl (is_behind x.request y.request || false)

pub freed_is : (xs : List Unfinished) (marks : List Mark) (next : ℕ) (y : Unfinished) → Ascend 0 xs next → Indexes xs marks → has_start y ≡ true
    → map (woken (filter (starts_at (y.request.start + y.request.count)) marks)) xs ≡ map (freed (y ∷ [])) xs
freed_is xs marks next y ids h s = map_on (woken (filter (starts_at (y.request.start + y.request.count)) marks)) (freed (y ∷ [])) xs (λ k d l. freed_at xs marks next y k d ids h s l)

-- behind a flush nobody stands
behind_flush : (b h e : Bool) → (b && ((h && false && e) || false)) ≡ false
behind_flush true true e = refl
behind_flush true false e = refl
behind_flush false h e = refl

freed_by_flush_at : (y x : Unfinished) → has_start y ≡ false → x ≡ freed (y ∷ []) x
unfolding freed
freed_by_flush_at y x s =
    let none : (blocks x.progress && (is_behind x.request y.request || false)) ≡ false =
    ap (λ h. blocks x.progress && ((has_start x && h && (y.request.start + y.request.count == x.request.start)) || false)) s
    ∙ behind_flush (blocks x.progress) (has_start x) (y.request.start + y.request.count == x.request.start) in
    sym (ap (λ b. cond b (put_progress x Pending) x) none)

pub freed_by_flush : (y : Unfinished) (xs : List Unfinished) → has_start y ≡ false → xs ≡ map (freed (y ∷ [])) xs
freed_by_flush y [] s = refl
freed_by_flush y (x ∷ xs) s = ap (λ z. z ∷ xs) (freed_by_flush_at y x s) ∙ ap (λ ys. freed (y ∷ []) x ∷ ys) (freed_by_flush y xs s)

-- ---- the one at a place is off the list

pub ascend-remove : (next : ℕ) (xs : List Unfinished) (i : ℕ) (x : Unfinished) → Ascend 0 xs next → i < length xs → x ≡ get_or xs i x → Ascend 0 (remove xs i) next
ascend-remove next xs i x ids l read =
    subst (λ ys. Ascend 0 ys next) (others_at 0 next x.id xs i x ids l (ap (λ (y : Unfinished). y.id) (sym read))) (ascend-filter (λ y. not (named x.id y)) 0 next xs ids)

pub indexes_remove : (next : ℕ) (xs : List Unfinished) (marks : List Mark) (i : ℕ) (x : Unfinished) → Ascend 0 xs next → i < length xs → x ≡ get_or xs i x → Indexes xs marks
    → Indexes (remove xs i) (filter (λ (m : Mark). not (m.id == x.id)) marks)
indexes_remove next xs marks i x ids l read h =
    subst (λ ys. Indexes ys (filter (λ (m : Mark). not (m.id == x.id)) marks)) (others_at 0 next x.id xs i x ids l (ap (λ (y : Unfinished). y.id) (sym read))) (indexes_filter x.id xs marks h)

pub same_id : (id : ℕ) (x : Unfinished) → (change_one id unblocked x).id ≡ x.id
same_id id x = elim (x.id == id) as (λ b. (cond b (with_own unblocked x) x).id ≡ x.id) [ true ↦ refl | false ↦ refl ]
