-- Every queue is sound: kept by each step.
use Rattle.std.proofs.Common.{◌≡◌, ℕ, ◌+◌, ◌<◌, ◌≤◌, ◌^◌, Bool, true, false, cond, List, [], ◌∷◌, ◌++◌, length, map, filter, get_or, set, Some, None, refl, sym, ap, subst, inl, inr, ◌∙◌, arith, length-append}
use Rattle.std.specs.Prelude.{◌&&◌, ◌||◌, not, remove, if◌then◌else◌}
use Rattle.std.specs.List.{list_any, find}
use Rattle.std.proofs.lemmas.Bool.{true≢false, eq-eqb, ltb-true, or_cases, or_left, or_right, and_parts, and_from}
use Rattle.std.proofs.lemmas.List.{length-set, length-map}
use Rattle.std.proofs.lemmas.List.Folds.{list_any_at}
use Rattle.std.proofs.lemmas.List.Filters.{length-filter_both}
use Rattle.vm_law.specs.declared.block.Request.{Request}
use Rattle.blk_queue.specs.declared.progress.Progress.{Progress}
use Rattle.blk_queue.specs.declared.progress.Progress.TheVariants.{Pending, Blocked, Busy}
use Rattle.blk_queue.specs.declared.progress.Unfinished.{Unfinished}
use Rattle.blk_queue.specs.Progress.{is_read, is_pending, is_busy, is_waiting, is_dropped, has_failed, has_more, moved_of, one_more, begun_by}
use Rattle.blk_queue.specs.Queue.{Queue, IsAbsent, IsThere, request_of, some_request, stands_behind}
use Rattle.blk_queue.specs.Steps.{changed, with_progress, begun, begun_at, joined, freed, without, left, mark_dropped, emptied}
use Rattle.blk_queue.specs.Sound.{ProgressFits, Fits, AllFit, Ascend, IsSound}
use Rattle.blk_queue.proofs.Ids.{named, with_own, changed_at, others_at, this_at, find_at, test_at, none_with, has_from_test, ascend-push, ascend-set, ascend-filter, ascend-map}
use Rattle.blk_queue.proofs.Fitting.{FitsAlone, put_progress, fits_at, all_fit-set, all_fit-left, all_fit-emptied, all_fit-push, freed_id}

-- one joins, under an id above those there
pub sound_push : (xs : List Unfinished) (low more : ℕ) (y : Unfinished) → length xs < 64 → Ascend 0 xs low → low ≤ y.id → y.id < more → more < 2 ^ 32 → AllFit [] xs → Fits xs y
    → IsSound (record { next = more; requests = xs ++ y ∷ [] })
sound_push xs low more y few ids le lt fits all fit = record {
  few = omega (arith, length-append xs (y ∷ []));
  next = fits;
  ids = ascend-push 0 low more xs y ids le lt;
  requests = all_fit-push xs y fit all;
}

-- its progress, by what stands before it
pub joined_fits : (xs : List Unfinished) (x : Unfinished) (b : Bool) → stands_behind xs x.request ≡ b → ProgressFits xs x (if b then Blocked else Pending)
joined_fits xs x true e = e
joined_fits xs x false e = tt

pub restored_fits : (xs : List Unfinished) (x : Unfinished) (b : Bool) → (b ≡ true → stands_behind xs x.request ≡ true) → ProgressFits xs x (if b then Blocked else Pending)
restored_fits xs x true h = h refl
restored_fits xs x false h = tt

-- one changes
pub sound_set : (next : ℕ) (xs : List Unfinished) (i : ℕ) (d : Unfinished) (p : Progress) → i < length xs → FitsAlone (get_or xs i d) p → IsSound (record { next = next; requests = xs })
    → IsSound (record { next = next; requests = set xs i (put_progress (get_or xs i d) p) })
sound_set next xs i d p l alone h = record {
  few = rw length-set h.few;
  next = h.next;
  ids = ascend-set 0 next xs i d (put_progress (get_or xs i d) p) refl h.ids;
  requests = all_fit-set xs i d p l alone h.requests;
}

abbrev pub queue_of : ℕ → List Unfinished → Queue
queue_of next xs = record { next = next; requests = xs }

-- ---- the one at a place, x, has an id

pub sound_change : (next : ℕ) (xs : List Unfinished) (i : ℕ) (x : Unfinished) (p : Progress) → i < length xs → x ≡ get_or xs i x → FitsAlone x p → IsSound (queue_of next xs)
    → IsSound (queue_of next (set xs i (put_progress x p)))
sound_change next xs i x p l read alone h =
    subst (λ (y : Unfinished). IsSound (queue_of next (set xs i (put_progress y p)))) (sym read)
    (sound_set next xs i x p l (subst (λ (y : Unfinished). FitsAlone y p) read alone) h)

pub changed_is : (q : Queue) (next : ℕ) (xs : List Unfinished) (id i : ℕ) (x : Unfinished) (f : Progress → Progress) (p : Progress) → queue_of next xs ≡ q → IsSound (queue_of next xs) → i < length xs
    → x ≡ get_or xs i x → x.id ≡ id → p ≡ f x.progress → queue_of next (set xs i (put_progress x p)) ≡ with_progress q id f
unfolding changed
changed_is q next xs id i x f p e h l read named same =
    ap (λ (r : Progress). queue_of next (set xs i (put_progress x r))) same
    ∙ ap (λ (y : Unfinished). queue_of next (set xs i (with_own f y))) read
    ∙ ap (λ ys. queue_of next ys) (sym (changed_at 0 next id f xs i x h.ids l (ap (λ (y : Unfinished). y.id) (sym read) ∙ named)))
    ∙ ap (λ (r : Queue). with_progress r id f) e

pub passes_at : (q : Queue) (next : ℕ) (xs : List Unfinished) (id i : ℕ) (x : Unfinished) (test : Unfinished → Bool) → queue_of next xs ≡ q → IsSound (queue_of next xs) → i < length xs
    → x ≡ get_or xs i x → x.id ≡ id → some_request q id test ≡ test x
passes_at q next xs id i x test e h l read named =
    ap (λ (r : Queue). some_request r id test) (sym e)
    ∙ test_at 0 next id test xs i x h.ids l (ap (λ (y : Unfinished). y.id) (sym read) ∙ named)
    ∙ ap test (sym read)

pub has_from_some : (q : Queue) (next : ℕ) (xs : List Unfinished) (id : ℕ) (test : Unfinished → Bool) → queue_of next xs ≡ q → some_request q id test ≡ true → list_any (named id) xs ≡ true
has_from_some q next xs id test e h = has_from_test id test xs (ap (λ (r : Queue). some_request r id test) e ∙ h)

pub found_at : (q : Queue) (next : ℕ) (xs : List Unfinished) (id i : ℕ) (x : Unfinished) → queue_of next xs ≡ q → IsSound (queue_of next xs) → i < length xs
    → x ≡ get_or xs i x → x.id ≡ id → request_of q id ≡ Some x
found_at q next xs id i x e h l read named =
    ap (λ (r : Queue). request_of r id) (sym e)
    ∙ find_at 0 next id xs i x h.ids l (ap (λ (y : Unfinished). y.id) (sym read) ∙ named)
    ∙ ap (λ (y : Unfinished). Some y) (sym read)

pub count_at : (next : ℕ) (xs : List Unfinished) (i : ℕ) (x : Unfinished) → IsSound (queue_of next xs) → i < length xs → x ≡ get_or xs i x → x.request.count ≤ 8192
count_at next xs i x h l read =
    let fits = fits_at [] xs i x l h.requests in
    subst (λ (y : Unfinished). y.request.count ≤ 8192) (sym read) fits.1.0.sectors

-- ---- one more unit

more_as : (x : Unfinished) (p : Progress) (ok : Bool) → has_more x.request.count p ≡ true → FitsAlone x (one_more ok p)
more_as x Pending ok h = absurd (true≢false (sym h))
more_as x Blocked ok h = absurd (true≢false (sym h))
more_as x (Busy w moved failed dropped) ok h = λ before. let less = ltb-true moved x.request.count h in omega (arith, less)

pub more_fits : (x : Unfinished) (ok : Bool) → has_more x.request.count x.progress ≡ true → FitsAlone x (one_more ok x.progress)
more_fits x ok h = more_as x x.progress ok h

pub more_moved : (count : ℕ) (p : Progress) → has_more count p ≡ true → count ≤ 8192 → moved_of p < 8192
more_moved count Pending h l = absurd (true≢false (sym h))
more_moved count Blocked h l = absurd (true≢false (sym h))
more_moved count (Busy w moved failed dropped) h l = let less = ltb-true moved count h in omega (arith, less)

-- ---- the one at a place leaves

not_not : (b : Bool) → b ≡ not (not b)
not_not true = refl
not_not false = refl

pub left_is : (q : Queue) (next : ℕ) (xs : List Unfinished) (id i : ℕ) (x : Unfinished) → queue_of next xs ≡ q → IsSound (queue_of next xs) → i < length xs → x ≡ get_or xs i x → x.id ≡ id
    → queue_of next (map (freed (x ∷ [])) (remove xs i)) ≡ left q id
unfolding left without
left_is q next xs id i x e h l read named_x =
    let here = ap (λ (y : Unfinished). y.id) (sym read) ∙ named_x in
    ap (λ (y : Unfinished). queue_of next (map (freed (y ∷ [])) (remove xs i))) read
    ∙ ap (λ ys. queue_of next (map (freed ys) (remove xs i))) (sym (this_at 0 next id xs i x h.ids l here))
    ∙ ap (λ ys. queue_of next (map (freed (filter (named id) xs)) ys)) (sym (others_at 0 next id xs i x h.ids l here))
    ∙ ap (λ (r : Queue). left r id) e

pub sound_left : (next : ℕ) (xs : List Unfinished) (id : ℕ) → IsSound (queue_of next xs) → IsSound (left (queue_of next xs) id)
unfolding left without
sound_left next xs id h = record {
  few = let kept = length-filter_both (λ x. not (named id x)) (named id) (λ x. not_not (named id x)) xs in rw length-map (omega (arith, kept, h.few));
  next = h.next;
  ids = ascend-map (freed (filter (named id) xs)) (freed_id (filter (named id) xs)) 0 next (filter (λ x. not (named id x)) xs) (ascend-filter (λ x. not (named id x)) 0 next xs h.ids);
  requests = all_fit-left (named id) xs h.requests;
}

-- ---- the device is reset

pub sound_emptied : (q : Queue) → IsSound q → IsSound (emptied q)
unfolding emptied
sound_emptied q h = record {
  few = let kept = length-filter_both is_busy (λ x. not (is_busy x)) (λ x. refl) q.requests in rw length-map (omega (arith, kept, h.few));
  next = h.next;
  ids = ascend-map mark_dropped (λ x. refl) 0 q.next (filter is_busy q.requests) (ascend-filter is_busy 0 q.next q.requests h.ids);
  requests = all_fit-emptied q.requests h.requests;
}

-- ---- the first that is pending

pub begun_is : (q : Queue) (worker next : ℕ) (xs : List Unfinished) (i : ℕ) (x : Unfinished) → queue_of next xs ≡ q → IsSound (queue_of next xs) → i < length xs → x ≡ get_or xs i x
    → find is_pending xs ≡ Some (get_or xs i x) → queue_of next (set xs i (put_progress x (Busy worker 0 false false))) ≡ begun q worker
unfolding begun
begun_is q worker next xs i x e h l read found =
    changed_is q next xs x.id i x (begun_by worker) (Busy worker 0 false false) e h l read refl refl
    ∙ ap (begun_at q worker) (ap (λ (y : Unfinished). Some y) read ∙ sym found ∙ ap (λ (r : Queue). find is_pending r.requests) e)

none_found_at : {X : Type 0} (p : X → Bool) (x : X) (xs : List X) (b : Bool) → p x ≡ b → cond b (Some x) (find p xs) ≡ None → (find p xs ≡ None → list_any p xs ≡ false) → (b || list_any p xs) ≡ false
none_found_at p x xs true e h rest = cc
none_found_at p x xs false e h rest = rest h

pub none_found : {X : Type 0} (p : X → Bool) (xs : List X) → find p xs ≡ None → list_any p xs ≡ false
none_found p [] h = refl
none_found p (x ∷ xs) h = none_found_at p x xs (p x) refl h (none_found p xs)

some_found_at : {X : Type 0} (p : X → Bool) (x : X) (xs : List X) (y : X) (b : Bool) → cond b (Some x) (find p xs) ≡ Some y → (find p xs ≡ Some y → list_any p xs ≡ true) → (b || list_any p xs) ≡ true
some_found_at p x xs y true h rest = refl
some_found_at p x xs y false h rest = rest h

pub some_found : {X : Type 0} (p : X → Bool) (xs : List X) (y : X) → find p xs ≡ Some y → list_any p xs ≡ true
some_found p [] y h = cc
some_found p (x ∷ xs) y h = some_found_at p x xs y (p x) h (some_found p xs y)

-- ---- what a worker may do, it may go on with

any_weaker : (p q : Unfinished → Bool) (xs : List Unfinished) → ((x : Unfinished) → p x ≡ true → q x ≡ true) → list_any p xs ≡ true → list_any q xs ≡ true
any_weaker p q [] w h = h
any_weaker p q (x ∷ xs) w h =
    elim (or_cases (p x) (list_any p xs) h) [
      | inl this ↦ or_left (q x) (list_any q xs) (w x this)
      | inr that ↦ or_right (q x) (list_any q xs) (any_weaker p q xs w that)
    ]

pub more_from_move : (xs : List Unfinished) (id : ℕ) → list_any (λ x. named id x && (is_read x.request && has_more x.request.count x.progress && not (is_dropped x))) xs ≡ true
    → list_any (λ x. named id x && has_more x.request.count x.progress) xs ≡ true
more_from_move xs id h =
    any_weaker (λ x. named id x && (is_read x.request && has_more x.request.count x.progress && not (is_dropped x))) (λ x. named id x && has_more x.request.count x.progress) xs (λ x t.
    let a = and_parts (named id x) (is_read x.request && has_more x.request.count x.progress && not (is_dropped x)) t in
    let b = and_parts (is_read x.request && has_more x.request.count x.progress) (not (is_dropped x)) a.1 in
    and_from (named id x) (has_more x.request.count x.progress) a.0 (and_parts (is_read x.request) (has_more x.request.count x.progress) b.0).1) h

pub more_from_put : (xs : List Unfinished) (id : ℕ) → list_any (λ x. named id x && (not (is_read x.request) && has_more x.request.count x.progress && not (has_failed x))) xs ≡ true
    → list_any (λ x. named id x && has_more x.request.count x.progress) xs ≡ true
more_from_put xs id h =
    any_weaker (λ x. named id x && (not (is_read x.request) && has_more x.request.count x.progress && not (has_failed x))) (λ x. named id x && has_more x.request.count x.progress) xs (λ x t.
    let a = and_parts (named id x) (not (is_read x.request) && has_more x.request.count x.progress && not (has_failed x)) t in
    let b = and_parts (not (is_read x.request) && has_more x.request.count x.progress) (not (has_failed x)) a.1 in
    and_from (named id x) (has_more x.request.count x.progress) a.0 (and_parts (not (is_read x.request)) (has_more x.request.count x.progress) b.0).1) h

pub begun_fits : (x : Unfinished) (worker : ℕ) → FitsAlone x (Busy worker 0 false false)
begun_fits x worker = λ before. omega arith

-- ---- how far the one of an id is

pub absent_is : (q : Queue) (next : ℕ) (xs : List Unfinished) (id : ℕ) → queue_of next xs ≡ q → list_any (named id) xs ≡ false → IsAbsent q id
absent_is q next xs id e none = subst (λ (r : Queue). IsAbsent r id) e (record {
  absent = none;
  waiting = none_with id is_waiting xs none;
  busy = none_with id is_busy xs none;
})

pub there_is : (q : Queue) (next : ℕ) (xs : List Unfinished) (id i : ℕ) (x : Unfinished) → queue_of next xs ≡ q → IsSound (queue_of next xs) → i < length xs → x ≡ get_or xs i x → x.id ≡ id
    → IsThere q id x.progress
there_is q next xs id i x e h l read named_x = record {
  there = ap (λ (r : Queue). list_any (named id) r.requests) (sym e) ∙ list_any_at (named id) xs i x l (eq-eqb (get_or xs i x).id id (ap (λ (y : Unfinished). y.id) (sym read) ∙ named_x));
  waiting = passes_at q next xs id i x is_waiting e h l read named_x;
  busy = passes_at q next xs id i x is_busy e h l read named_x;
}

pub joined_is : (q : Queue) (next : ℕ) (xs : List Unfinished) (r : Request) (p : Progress) → queue_of next xs ≡ q → p ≡ (if stands_behind xs r then Blocked else Pending)
    → queue_of (next + 1) (xs ++ record { id = next; request = r; progress = p } ∷ []) ≡ joined q r
unfolding joined
joined_is q next xs r p e same =
    ap (λ (s : Progress). queue_of (next + 1) (xs ++ record { id = next; request = r; progress = s } ∷ [])) same
    ∙ ap (λ (k : Queue). joined k r) e
