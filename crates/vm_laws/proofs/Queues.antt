-- What becomes of a request in each change of a queue.
use Rattle.std.proofs.Common.{◌≡◌, ◌≢◌, ℕ, ◌+◌, ◌<◌, ◌≤◌, Bool, true, false, not, cond, List, [], ◌∷◌, filter, refl, sym, ap, subst, ◌∙◌, inl, inr, ◌⊎◌, arith, Option, Some, None}
use Rattle.std.specs.Prelude.{◌&&◌, ◌||◌, ◌==◌, if◌then◌else◌}
use Rattle.std.specs.List.{list_any, find}
use Rattle.std.proofs.lemmas.List.Folds.{list_any-append}
use Rattle.std.proofs.lemmas.Bool.{cases_Bool, cases_eq, and_parts, or_cases, or_left, or_right, true≢false}
use Rattle.std.proofs.lemmas.Bool.Decides.{nat_tests}
use Rattle.std.proofs.lemmas.Grind.{common_steps}
use Rattle.vm_law.specs.declared.block.Request.{Request}
use Rattle.blk_queue.specs.declared.progress.Progress.{Progress}
use Rattle.blk_queue.specs.declared.progress.Progress.TheVariants.{Pending, Blocked, Busy}
use Rattle.blk_queue.specs.declared.progress.Unfinished.{Unfinished}
use Rattle.blk_queue.specs.Progress.{is_blocked, is_busy, is_pending, is_waiting, blocks, works, dropped, one_more, begun_by}
use Rattle.blk_queue.specs.Queue.{Queue, has_request, some_request, request_of, stands_behind}
use Rattle.blk_queue.specs.Sound.{IsSound, NamesOne, Ascend, passes}
use Rattle.blk_queue.specs.Steps.{joined, change_one, changed, with_progress, first_pending, begun, begun_at, freed, without, left, cancelled, emptied, mark_dropped}
use Rattle.vm_laws.specs.Counting.{one_if}
use Rattle.vm_laws.proofs.Lists.{clash, any-map, any-filter}

-- ---- tests on lists

pub any_same : {X : Type 0} (p q : X → Bool) (xs : List X) → ((x : X) → p x ≡ q x) → list_any p xs ≡ list_any q xs
any_same p q [] h = refl
any_same p q (x ∷ xs) h = ap (λ b. b || list_any p xs) (h x) ∙ ap (λ b. q x || b) (any_same p q xs h)

pub any_more : {X : Type 0} (p q : X → Bool) (xs : List X) → ((x : X) → p x ≡ true → q x ≡ true) → list_any p xs ≡ true → list_any q xs ≡ true
any_more p q [] f h = h
any_more p q (x ∷ xs) f h = elim (or_cases (p x) (list_any p xs) h) [ inl a ↦ or_left _ _ (f x a) | inr b ↦ or_right _ _ (any_more p q xs f b) ]

pub none_pass : {X : Type 0} (p : X → Bool) (xs : List X) → ((x : X) → p x ≡ false) → list_any p xs ≡ false
none_pass p [] h = refl
none_pass p (x ∷ xs) h = ap (λ b. b || list_any p xs) (h x) ∙ none_pass p xs h

same_truth : (a b : Bool) → (a ≡ true → b ≡ true) → (b ≡ true → a ≡ true) → a ≡ b
same_truth true b f g = sym (f refl)
same_truth false true f g = g refl
same_truth false false f g = refl

not_if : (a b : Bool) → (b ≡ true → a ≡ true) → a ≡ false → b ≡ false
not_if a true h e = absurd (clash a (h refl) e)
not_if a false h e = refl

-- ---- a request by its id: it is there, it waits, a worker has it

abbrev pub waits : Queue → ℕ → Bool
waits q id = some_request q id is_waiting

abbrev pub busy : Queue → ℕ → Bool
busy q id = some_request q id is_busy

pub test_has : (q : Queue) (id : ℕ) (test : Unfinished → Bool) → some_request q id test ≡ true → has_request q id ≡ true
test_has q id test h = any_more (λ (x : Unfinished). (x.id == id) && test x) (λ (x : Unfinished). x.id == id) q.requests (λ x t. (and_parts (x.id == id) (test x) t).0) h

not_both : (o : Option Unfinished) → passes is_waiting o ≡ true → passes is_busy o ≡ true → ⊥
not_both None a b = true≢false (sym a)
not_both (Some x) a b = true≢false (sym a ∙ ap not b)

pub waits_alone : (q : Queue) (id : ℕ) → NamesOne q → waits q id ≡ true → busy q id ≡ true → ⊥
waits_alone q id n a b = not_both (request_of q id) (sym (n.test id is_waiting) ∙ a) (sym (n.test id is_busy) ∙ b)

either_at : (id : ℕ) (x : Unfinished) → (x.id == id) ≡ true → (((x.id == id) && is_waiting x) ≡ true) ⊎ (((x.id == id) && is_busy x) ≡ true)
either_at id x h = elim (cases_Bool (is_busy x)) [
  | inl t ↦ inr (rw (h, t) refl)
  | inr f ↦ inl (rw (h, f) refl)
]

either_in : (id : ℕ) (xs : List Unfinished) → list_any (λ (x : Unfinished). x.id == id) xs ≡ true
    → (list_any (λ (x : Unfinished). (x.id == id) && is_waiting x) xs ≡ true) ⊎ (list_any (λ (x : Unfinished). (x.id == id) && is_busy x) xs ≡ true)
either_in id [] h = absurd (true≢false (sym h))
either_in id (x ∷ xs) h =
    elim (or_cases (x.id == id) (list_any (λ (x : Unfinished). x.id == id) xs) h) [
      | inl here ↦ elim (either_at id x here) [ inl a ↦ inl (or_left _ _ a) | inr b ↦ inr (or_left _ _ b) ]
      | inr later ↦ elim (either_in id xs later) [ inl a ↦ inl (or_right _ _ a) | inr b ↦ inr (or_right _ _ b) ]
    ]

pub waits_or_busy : (q : Queue) (id : ℕ) → has_request q id ≡ true → (waits q id ≡ true) ⊎ (busy q id ≡ true)
waits_or_busy q id h = either_in id q.requests h

-- ids stand below the next
ascend_le : (low : ℕ) (xs : List Unfinished) (next : ℕ) → Ascend low xs next → low ≤ next
ascend_le low [] next a = a
ascend_le low (x ∷ xs) next a = let b = ascend_le (x.id + 1) xs next a.1 in let c = a.0 in omega (arith, b, c)

below_in : (low : ℕ) (xs : List Unfinished) (next id : ℕ) → Ascend low xs next → list_any (λ (x : Unfinished). x.id == id) xs ≡ true → id < next
below_in low [] next id a h = absurd (true≢false (sym h))
below_in low (x ∷ xs) next id a h =
    elim (or_cases (x.id == id) (list_any (λ (x : Unfinished). x.id == id) xs) h) [
      | inl here ↦ let e : x.id ≡ id = grind (arith, nat_tests, here) in let m = ascend_le (x.id + 1) xs next a.1 in omega (arith, e, m)
      | inr later ↦ below_in (x.id + 1) xs next id a.1 later
    ]

pub id_below : (q : Queue) (id : ℕ) → IsSound q → has_request q id ≡ true → id < q.next
id_below q id s h = below_in 0 q.requests q.next id s.ids h

-- ---- what a change makes of the request of an id: acc, a request was accepted; fin, this one was finished; wrk, a worker
-- did something for it

pub record QueueStep (q r : Queue) (id : ℕ) (acc fin wrk : Bool) : Type 0 where
  pub next : r.next ≡ q.next + one_if acc
  pub old : has_request r id ≡ true → (has_request q id ≡ true) ⊎ ((acc ≡ true) × ((q.next == id) ≡ true))
  pub gone : has_request q id ≡ true → has_request r id ≡ false → (fin ≡ true) ⊎ (waits q id ≡ true)
  pub new : acc ≡ true → (q.next == id) ≡ true → has_request r id ≡ true
  pub finished : fin ≡ true → (has_request q id ≡ true) × (waits q id ≡ false) × (has_request r id ≡ false)
  pub worked : wrk ≡ true → has_request q id ≡ true
  pub stays : waits q id ≡ false → has_request q id ≡ true → waits r id ≡ false
  pub begun : waits q id ≡ true → wrk ≡ true → (waits r id ≡ false) × (has_request r id ≡ true)

-- its request is there as before, and waits as before; who works for it has it
pub step_same : (q r : Queue) (id : ℕ) (wrk : Bool) → r.next ≡ q.next → has_request r id ≡ has_request q id → waits r id ≡ waits q id → (wrk ≡ true → (has_request q id ≡ true) × (waits q id ≡ false)) → QueueStep q r id false false wrk
step_same q r id wrk n h w k = record {
  next = omega (arith, n);
  old = λ t. inl (sym h ∙ t);
  gone = λ t f. absurd (clash (has_request q id) t (sym h ∙ f));
  new = λ t e. absurd (true≢false (sym t));
  finished = λ t. absurd (true≢false (sym t));
  worked = λ t. (k t).0;
  stays = λ t e. w ∙ t;
  begun = λ t e. absurd (clash (waits q id) t (k e).1);
}

-- ---- one more unit is moved

more_works : (ok : Bool) (p : Progress) → works (one_more ok p) ≡ works p
more_works ok Pending = refl
more_works ok Blocked = refl
more_works ok (Busy w moved failed gone) = refl

more_id : (fid : ℕ) (ok : Bool) (x : Unfinished) (b : Bool) → (if b then record x { progress = one_more ok x.progress } else x).id ≡ x.id
more_id fid ok x true = refl
more_id fid ok x false = refl

more_busy : (ok : Bool) (x : Unfinished) (b : Bool) → is_busy (if b then record x { progress = one_more ok x.progress } else x) ≡ is_busy x
more_busy ok x true = more_works ok x.progress
more_busy ok x false = refl

more_has : (q : Queue) (fid id : ℕ) (ok : Bool) → has_request (with_progress q fid (one_more ok)) id ≡ has_request q id
unfolding changed
more_has q fid id ok =
    any-map (λ (x : Unfinished). x.id == id) (change_one fid (one_more ok)) q.requests
    ∙ any_same (λ (x : Unfinished). (change_one fid (one_more ok) x).id == id) (λ (x : Unfinished). x.id == id) q.requests (λ x. ap (λ n. n == id) (more_id fid ok x (x.id == fid)))

more_waits : (q : Queue) (fid id : ℕ) (ok : Bool) → waits (with_progress q fid (one_more ok)) id ≡ waits q id
unfolding changed
more_waits q fid id ok =
    any-map (λ (x : Unfinished). (x.id == id) && is_waiting x) (change_one fid (one_more ok)) q.requests
    ∙ any_same (λ (x : Unfinished). ((change_one fid (one_more ok) x).id == id) && is_waiting (change_one fid (one_more ok) x)) (λ (x : Unfinished). (x.id == id) && is_waiting x) q.requests
    (λ x. ap (λ n. (n == id) && is_waiting (change_one fid (one_more ok) x)) (more_id fid ok x (x.id == fid)) ∙ ap (λ b. (x.id == id) && not b) (more_busy ok x (x.id == fid)))

pub step_more : (q : Queue) (fid id : ℕ) (ok wrk : Bool) → (wrk ≡ true → (has_request q id ≡ true) × (waits q id ≡ false)) → QueueStep q (with_progress q fid (one_more ok)) id false false wrk
step_more q fid id ok wrk k = step_same q (with_progress q fid (one_more ok)) id wrk refl (more_has q fid id ok) (more_waits q fid id ok) k

-- ---- a worker begins the request fid

begun_id : (w : ℕ) (x : Unfinished) (b : Bool) → (if b then record x { progress = begun_by w x.progress } else x).id ≡ x.id
begun_id w x true = refl
begun_id w x false = refl

begun_has : (q : Queue) (fid id w : ℕ) → has_request (with_progress q fid (begun_by w)) id ≡ has_request q id
unfolding changed
begun_has q fid id w =
    any-map (λ (x : Unfinished). x.id == id) (change_one fid (begun_by w)) q.requests
    ∙ any_same (λ (x : Unfinished). (change_one fid (begun_by w) x).id == id) (λ (x : Unfinished). x.id == id) q.requests (λ x. ap (λ n. n == id) (begun_id w x (x.id == fid)))

begun_waits_at : (id w : ℕ) (x : Unfinished) (b : Bool) → (((if b then record x { progress = begun_by w x.progress } else x).id == id) && is_waiting (if b then record x { progress = begun_by w x.progress } else x)) ≡ true → ((x.id == id) && is_waiting x) ≡ true
begun_waits_at id w x true h = absurd (true≢false (sym (and_parts (x.id == id) false h).1))
begun_waits_at id w x false h = h

begun_less : (q : Queue) (fid id w : ℕ) → waits (with_progress q fid (begun_by w)) id ≡ true → waits q id ≡ true
unfolding changed
begun_less q fid id w h =
    any_more (λ (x : Unfinished). ((change_one fid (begun_by w) x).id == id) && is_waiting (change_one fid (begun_by w) x)) (λ (x : Unfinished). (x.id == id) && is_waiting x) q.requests
    (λ x t. begun_waits_at id w x (x.id == fid) t) (sym (any-map (λ (x : Unfinished). (x.id == id) && is_waiting x) (change_one fid (begun_by w)) q.requests) ∙ h)

and_false : (b : Bool) → (b && false) ≡ false
and_false true = refl
and_false false = refl

begun_none_at : (id w : ℕ) (x : Unfinished) (b : Bool) → (x.id == id) ≡ b → (((if b then record x { progress = begun_by w x.progress } else x).id == id) && is_waiting (if b then record x { progress = begun_by w x.progress } else x)) ≡ false
begun_none_at id w x true e = and_false (x.id == id)
begun_none_at id w x false e = ap (λ b. b && is_waiting x) e

begun_none : (q : Queue) (id w : ℕ) → waits (with_progress q id (begun_by w)) id ≡ false
unfolding changed
begun_none q id w =
    any-map (λ (x : Unfinished). (x.id == id) && is_waiting x) (change_one id (begun_by w)) q.requests
    ∙ none_pass (λ (x : Unfinished). ((change_one id (begun_by w) x).id == id) && is_waiting (change_one id (begun_by w) x)) q.requests (λ x. begun_none_at id w x (x.id == id) refl)

step_begun_at : (q : Queue) (fid id w : ℕ) → has_request q fid ≡ true → QueueStep q (with_progress q fid (begun_by w)) id false false (fid == id)
step_begun_at q fid id w t = record {
  next = omega arith;
  old = λ h. inl (sym (begun_has q fid id w) ∙ h);
  gone = λ h f. absurd (clash (has_request q id) h (sym (begun_has q fid id w) ∙ f));
  new = λ h e. absurd (true≢false (sym h));
  finished = λ h. absurd (true≢false (sym h));
  worked = λ h. (let e : fid ≡ id = grind (arith, nat_tests, h) in subst (λ n. has_request q n ≡ true) e t);
  stays = λ h e. not_if (waits q id) (waits (with_progress q fid (begun_by w)) id) (begun_less q fid id w) h;
  begun = λ h k. (let e : fid ≡ id = grind (arith, nat_tests, k) in
      (subst (λ n. waits (with_progress q n (begun_by w)) id ≡ false) (sym e) (begun_none q id w), begun_has q fid id w ∙ subst (λ n. has_request q n ≡ true) e t));
}

same_number : (n : ℕ) → (n == n) ≡ true
same_number n = grind (arith, nat_tests)

find_has_at : (p : Unfinished → Bool) (y : Unfinished) (ys : List Unfinished) (x : Unfinished) (b : Bool) → (find p ys ≡ Some x → list_any (λ (z : Unfinished). z.id == x.id) ys ≡ true) → cond b (Some y) (find p ys) ≡ Some x → ((y.id == x.id) || list_any (λ (z : Unfinished). z.id == x.id) ys) ≡ true
find_has_at p y ys x true r h = or_left _ _ (let e : y ≡ x = cc in ap (λ (z : Unfinished). z.id == x.id) e ∙ same_number x.id)
find_has_at p y ys x false r h = or_right _ _ (r h)

find_has : (p : Unfinished → Bool) (ys : List Unfinished) (x : Unfinished) → find p ys ≡ Some x → list_any (λ (z : Unfinished). z.id == x.id) ys ≡ true
find_has p [] x h = absurd (cc)
find_has p (y ∷ ys) x h = find_has_at p y ys x (p y) (find_has p ys x) h

found_has : (q : Queue) (x : Unfinished) → first_pending q ≡ Some x → has_request q x.id ≡ true
found_has q x e = find_has is_pending q.requests x e

-- the first that is pending, of this id
pub step_begun : (q : Queue) (w fid id : ℕ) (o : Option Unfinished) → first_pending q ≡ o → passes (λ (x : Unfinished). x.id == fid) o ≡ true → QueueStep q (begun q w) id false false (fid == id)
unfolding begun
step_begun q w fid id None e h = absurd (true≢false (sym h))
step_begun q w fid id (Some x) e h =
    let same : x.id ≡ fid = grind (arith, nat_tests, h) in
    subst (λ (o : Option Unfinished). QueueStep q (begun_at q w o) id false false (fid == id)) (sym e)
    (subst (λ n. QueueStep q (with_progress q x.id (begun_by w)) id false false (n == id)) same (step_begun_at q x.id id w (found_has q x e)))

-- ---- the request fid leaves

freed_id : (L : List Unfinished) (x : Unfinished) → (freed L x).id ≡ x.id
unfolding freed
freed_id L x = elim (is_blocked x && stands_behind L x.request) as (λ b. (if b then record x { progress = Pending } else x).id ≡ x.id) [ true ↦ refl | false ↦ refl ]

freed_busy_at : (x : Unfinished) (p : Progress) → x.progress ≡ p → (b : Bool) → is_busy (if blocks p && b then record x { progress = Pending } else x) ≡ works p
freed_busy_at x Pending e b = ap works e
freed_busy_at x Blocked e true = refl
freed_busy_at x Blocked e false = ap works e
freed_busy_at x (Busy w moved failed gone) e b = ap works e

freed_busy : (L : List Unfinished) (x : Unfinished) → is_busy (freed L x) ≡ is_busy x
unfolding freed
freed_busy L x = freed_busy_at x x.progress refl (stands_behind L x.request)

left_test : (q : Queue) (fid : ℕ) (p : Unfinished → Bool) → list_any p (left q fid).requests ≡ list_any (λ (x : Unfinished). not (x.id == fid) && p (freed (filter (λ (x : Unfinished). x.id == fid) q.requests) x)) q.requests
unfolding left without
left_test q fid p =
    let L = filter (λ (x : Unfinished). x.id == fid) q.requests in
    any-map p (freed L) (filter (λ (x : Unfinished). not (x.id == fid)) q.requests)
    ∙ any-filter (λ (x : Unfinished). p (freed L x)) (λ (x : Unfinished). not (x.id == fid)) q.requests

left_next : (q : Queue) (fid : ℕ) → (left q fid).next ≡ q.next
unfolding left
left_next q fid = refl

not_and : (b : Bool) → (not b && b) ≡ false
not_and true = refl
not_and false = refl

pub left_has_same : (q : Queue) (id : ℕ) → has_request (left q id) id ≡ false
left_has_same q id =
    left_test q id (λ (x : Unfinished). x.id == id)
    ∙ none_pass _ q.requests (λ x. ap (λ n. not (x.id == id) && (n == id)) (freed_id (filter (λ (x : Unfinished). x.id == id) q.requests) x) ∙ not_and (x.id == id))

other_at : (x fid id : ℕ) → fid ≢ id → (not (x == fid) && (x == id)) ≡ (x == id)
other_at x fid id ne = grind (arith, nat_tests, common_steps)

left_has_other : (q : Queue) (fid id : ℕ) → fid ≢ id → has_request (left q fid) id ≡ has_request q id
left_has_other q fid id ne =
    left_test q fid (λ (x : Unfinished). x.id == id)
    ∙ any_same _ (λ (x : Unfinished). x.id == id) q.requests (λ x. ap (λ n. not (x.id == fid) && (n == id)) (freed_id (filter (λ (x : Unfinished). x.id == fid) q.requests) x) ∙ other_at x.id fid id ne)

left_waits : (q : Queue) (fid id : ℕ) → waits (left q fid) id ≡ true → waits q id ≡ true
left_waits q fid id h =
    let L = filter (λ (x : Unfinished). x.id == fid) q.requests in
    any_more (λ (x : Unfinished). not (x.id == fid) && (((freed L x).id == id) && is_waiting (freed L x))) (λ (x : Unfinished). (x.id == id) && is_waiting x) q.requests
    (λ x t. (let b = (and_parts (not (x.id == fid)) (((freed L x).id == id) && is_waiting (freed L x)) t).1 in
    sym (ap (λ n. (n == id) && is_waiting (freed L x)) (freed_id L x) ∙ ap (λ b. (x.id == id) && not b) (freed_busy L x)) ∙ b))
    (sym (left_test q fid (λ (x : Unfinished). (x.id == id) && is_waiting x)) ∙ h)

abbrev eq_of : ℕ → ℕ → Bool
eq_of a b = a == b

eq_false : (a b : ℕ) → a ≢ b → (a == b) ≡ false
eq_false a b ne = grind (arith, nat_tests)

-- of another id
left_apart : (q : Queue) (fid id : ℕ) (fin wrk : Bool) → fid ≢ id → fin ≡ false → wrk ≡ false → QueueStep q (left q fid) id false fin wrk
left_apart q fid id fin wrk ne f w = record {
  next = (let n = left_next q fid in omega (arith, n));
  old = λ h. inl (sym (left_has_other q fid id ne) ∙ h);
  gone = λ h g. absurd (clash (has_request q id) h (sym (left_has_other q fid id ne) ∙ g));
  new = λ h e. absurd (true≢false (sym h));
  finished = λ h. absurd (clash fin h f);
  worked = λ h. absurd (clash wrk h w);
  stays = λ h e. not_if (waits q id) (waits (left q fid) id) (left_waits q fid id) h;
  begun = λ h k. absurd (clash wrk k w);
}

no_waits : (q : Queue) (id : ℕ) → NamesOne q → busy q id ≡ true → waits q id ≡ false
no_waits q id n b = elim (cases_Bool (waits q id)) [ inr f ↦ f | inl t ↦ absurd (waits_alone q id n t b) ]

finish_itself : (q : Queue) (id : ℕ) → NamesOne q → busy q id ≡ true → QueueStep q (left q id) id false true true
finish_itself q id n b = record {
  next = (let k = left_next q id in omega (arith, k));
  old = λ h. absurd (clash (has_request (left q id) id) h (left_has_same q id));
  gone = λ h g. inl refl;
  new = λ h e. absurd (true≢false (sym h));
  finished = λ h. (test_has q id is_busy b, no_waits q id n b, left_has_same q id);
  worked = λ h. test_has q id is_busy b;
  stays = λ h e. not_if (waits q id) (waits (left q id) id) (left_waits q id id) h;
  begun = λ h k. absurd (waits_alone q id n h b);
}

pub step_finish : (q : Queue) (fid id : ℕ) → NamesOne q → busy q fid ≡ true → QueueStep q (left q fid) id false (fid == id) (fid == id)
step_finish q fid id n b =
    elim (cases_eq fid id) [
      | inl same ↦ subst (λ k. QueueStep q (left q fid) k false (fid == k) (fid == k)) same (subst (λ c. QueueStep q (left q fid) fid false c c) (sym (same_number fid)) (finish_itself q fid n b))
      | inr other ↦ left_apart q fid id (fid == id) (fid == id) other (eq_false fid id other) (eq_false fid id other)
    ]

-- ---- an order cancels the request fid, where it waits

cancel_itself : (q : Queue) (id : ℕ) → waits q id ≡ true → QueueStep q (left q id) id false false false
cancel_itself q id w = record {
  next = (let k = left_next q id in omega (arith, k));
  old = λ h. absurd (clash (has_request (left q id) id) h (left_has_same q id));
  gone = λ h g. inr w;
  new = λ h e. absurd (true≢false (sym h));
  finished = λ h. absurd (true≢false (sym h));
  worked = λ h. absurd (true≢false (sym h));
  stays = λ h e. absurd (clash (waits q id) w h);
  begun = λ h k. absurd (true≢false (sym k));
}

cancel_if : (q : Queue) (fid id : ℕ) (b : Bool) → waits q fid ≡ b → QueueStep q (if b then left q fid else q) id false false false
cancel_if q fid id true w =
    elim (cases_eq fid id) [
      | inl same ↦ subst (λ k. QueueStep q (left q fid) k false false false) same (cancel_itself q fid w)
      | inr other ↦ left_apart q fid id false false other refl refl
    ]
cancel_if q fid id false w = step_same q q id false refl refl refl (λ h. absurd (true≢false (sym h)))

pub step_cancel : (q : Queue) (fid id : ℕ) → QueueStep q (cancelled q fid) id false false false
unfolding cancelled
step_cancel q fid id = cancel_if q fid id (waits q fid) refl

-- ---- a reset: those that wait leave, the others are dropped

dropped_works : (p : Progress) → works (dropped p) ≡ works p
dropped_works Pending = refl
dropped_works Blocked = refl
dropped_works (Busy w moved failed gone) = refl

and_swap : (a b : Bool) → (a && b) ≡ (b && a)
and_swap true true = refl
and_swap true false = refl
and_swap false true = refl
and_swap false false = refl

pub emptied_has : (q : Queue) (id : ℕ) → has_request (emptied q) id ≡ busy q id
unfolding emptied
emptied_has q id =
    any-map (λ (x : Unfinished). x.id == id) mark_dropped (filter is_busy q.requests)
    ∙ any-filter (λ (x : Unfinished). x.id == id) is_busy q.requests
    ∙ any_same (λ (x : Unfinished). is_busy x && (x.id == id)) (λ (x : Unfinished). (x.id == id) && is_busy x) q.requests (λ x. and_swap (is_busy x) (x.id == id))

none_of : (a b : Bool) → (a && (b && not a)) ≡ false
none_of true true = refl
none_of true false = refl
none_of false b = refl

emptied_waits : (q : Queue) (id : ℕ) → waits (emptied q) id ≡ false
unfolding emptied
emptied_waits q id =
    any-map (λ (x : Unfinished). (x.id == id) && is_waiting x) mark_dropped (filter is_busy q.requests)
    ∙ any-filter (λ (x : Unfinished). (x.id == id) && is_waiting (mark_dropped x)) is_busy q.requests
    ∙ none_pass (λ (x : Unfinished). is_busy x && ((x.id == id) && is_waiting (mark_dropped x))) q.requests
    (λ x. ap (λ b. is_busy x && ((x.id == id) && not b)) (dropped_works x.progress) ∙ none_of (is_busy x) (x.id == id))

emptied_next : (q : Queue) → (emptied q).next ≡ q.next
unfolding emptied
emptied_next q = refl

pub step_emptied : (q : Queue) (id : ℕ) → QueueStep q (emptied q) id false false false
step_emptied q id = record {
  next = (let k = emptied_next q in omega (arith, k));
  old = λ h. inl (test_has q id is_busy (sym (emptied_has q id) ∙ h));
  gone = λ h g. elim (waits_or_busy q id h) [ inl w ↦ inr w | inr b ↦ absurd (clash (busy q id) b (sym (emptied_has q id) ∙ g)) ];
  new = λ h e. absurd (true≢false (sym h));
  finished = λ h. absurd (true≢false (sym h));
  worked = λ h. absurd (true≢false (sym h));
  stays = λ h e. emptied_waits q id;
  begun = λ h k. absurd (true≢false (sym k));
}

-- ---- a request joins

join_if : (xs : List Unfinished) (r : Request) (n : ℕ) (b : Bool) → is_busy (record { id = n; request = r; progress = if b then Blocked else Pending }) ≡ false
join_if xs r n true = refl
join_if xs r n false = refl

joined_has : (q : Queue) (r : Request) (id : ℕ) → has_request (joined q r) id ≡ (has_request q id || ((q.next == id) || false))
unfolding joined
joined_has q r id = list_any-append (λ (x : Unfinished). x.id == id) q.requests (record { id = q.next; request = r; progress = if stands_behind q.requests r then Blocked else Pending } ∷ [])

joined_waits : (q : Queue) (r : Request) (id : ℕ) → waits (joined q r) id ≡ (waits q id || (((q.next == id) && true) || false))
unfolding joined
joined_waits q r id =
    list_any-append (λ (x : Unfinished). (x.id == id) && is_waiting x) q.requests (record { id = q.next; request = r; progress = if stands_behind q.requests r then Blocked else Pending } ∷ [])
    ∙ ap (λ b. waits q id || (((q.next == id) && not b) || false)) (join_if q.requests r q.next (stands_behind q.requests r))

joined_next : (q : Queue) (r : Request) → (joined q r).next ≡ q.next + 1
unfolding joined
joined_next q r = refl

joined_cases : (a b : Bool) → (a || (b || false)) ≡ true → (a ≡ true) ⊎ (b ≡ true)
joined_cases true b h = inl refl
joined_cases false true h = inr refl
joined_cases false false h = absurd (true≢false (sym h))

pub step_joined : (q : Queue) (r : Request) (id : ℕ) → IsSound q → QueueStep q (joined q r) id true false false
step_joined q r id s = record {
  next = joined_next q r;
  old = λ h. elim (joined_cases (has_request q id) (q.next == id) (sym (joined_has q r id) ∙ h)) [ inl a ↦ inl a | inr b ↦ inr (refl, b) ];
  gone = λ h g. absurd (clash (has_request (joined q r) id) (joined_has q r id ∙ or_left _ _ h) g);
  new = λ h e. joined_has q r id ∙ or_right _ _ (or_left _ _ e);
  finished = λ h. absurd (true≢false (sym h));
  worked = λ h. absurd (true≢false (sym h));
  stays = λ h e. (let l = id_below q id s e in let z : (q.next == id) ≡ false = grind (arith, nat_tests, l) in joined_waits q r id ∙ rw (h, z) refl);
  begun = λ h k. absurd (true≢false (sym k));
}
