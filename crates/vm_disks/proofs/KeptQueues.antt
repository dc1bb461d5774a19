-- What holds of a drive's requests is kept where the progress of one changes, where one leaves, and where one joins.
use Rattle.std.specs.Prelude.{Option, Some, None, slice_get, ◌==◌, ◌&&◌, ◌||◌, if◌then◌else◌, remove}
use Rattle.std.specs.List.{All, list_any, find}
use Rattle.std.proofs.Common.{◌≡◌, ◌≢◌, ℕ, zero, suc, ◌+◌, ◌-◌, ◌^◌, ◌<◌, ◌≤◌, Bool, true, false, not, cond, List, [], ◌∷◌, ◌++◌, length, map, filter, get_or, set, refl, sym, ap, subst, ◌∙◌, arith, inl, inr}
use Rattle.std.proofs.Math.ListN.{length-set}
use Rattle.std.proofs.lemmas.Bool.{and_parts, or_cases, or_left, or_right, true≢false, eqb-true, ne_eqb, cases_Bool}
use Rattle.std.proofs.lemmas.List.{length-map}
use Rattle.std.proofs.lemmas.List.Edits.{length-remove}
use Rattle.std.proofs.lemmas.List.Elements.{All-set, All-push, All-filter, All-map}
use Rattle.std.proofs.lemmas.List.Folds.{list_any-append}
use Rattle.std.proofs.lemmas.Grind.{common_steps}
use Rattle.std.proofs.lemmas.Option.{slice_get_read}
use Rattle.vm_law.specs.declared.block.Request.{Request}
use Rattle.blk_queue.specs.declared.progress.Progress.{Progress}
use Rattle.blk_queue.specs.declared.progress.Progress.TheVariants.{Pending, Blocked, Busy}
use Rattle.blk_queue.specs.declared.progress.Unfinished.{Unfinished}
use Rattle.blk_queue.specs.Progress.{IsRequest, is_read, is_blocked, blocks}
use Rattle.blk_queue.specs.Queue.{Queue, request_of, some_request, stands_behind}
use Rattle.blk_queue.specs.Sound.{IsSound, ProgressFits, passes}
use Rattle.blk_queue.specs.Steps.{with_progress, left, joined, freed, without}
use Rattle.blk_queue.proofs.Fitting.{FitsAlone, put_progress}
use Rattle.blk_queue.proofs.Ids.{named}
use Rattle.blk_queue.proofs.Names.{names_one}
use Rattle.blk_queue.proofs.Index.{any-filter, any_agree}
use Rattle.blk_queue.proofs.Sound.{queue_of, sound_change, changed_is, sound_left, left_is, sound_push, joined_fits}
use Rattle.vm_state.specs.declared.image.Holder.{Holder}
use Rattle.vm_state.specs.Sound.{is_out, is_midway}

-- ---- where the first one is that passes a test

pub record Found (test : Unfinished → Bool) (xs : List Unfinished) (x : Unfinished) : Type 0 where
  pub at : ℕ
  pub within : at < length xs
  pub is : x ≡ get_or xs at x
  pub so : test x ≡ true

found_at : (test : Unfinished → Bool) (x y : Unfinished) (xs : List Unfinished) (b : Bool) → test y ≡ b → (find test xs ≡ Some x → Found test xs x) → cond b (Some y) (find test xs) ≡ Some x → Found test (y ∷ xs) x
found_at test x y xs true e rest h =
    let same : y ≡ x = cc in
    record { at = 0; within = omega arith; is = sym same; so = ap test (sym same) ∙ e }
found_at test x y xs false e rest h = let p = rest h in record { at = suc p.at; within = let w = p.within in omega (arith, w); is = p.is; so = p.so }

pub found : (test : Unfinished → Bool) (xs : List Unfinished) (x : Unfinished) → find test xs ≡ Some x → Found test xs x
found test [] x h = absurd (cc)
found test (y ∷ xs) x h = found_at test x y xs (test y) refl (found test xs x) h

-- it is the request of its id
pub is_request_of : (q : Queue) (test : Unfinished → Bool) (x : Unfinished) → IsSound q → Found test q.requests x → request_of q x.id ≡ Some x
is_request_of q test x h f = (names_one q h).place f.at x (slice_get_read q.requests (length q.requests) f.at x refl f.within f.is)

pub record Place (xs : List Unfinished) (id : ℕ) (x : Unfinished) : Type 0 where
  pub at : ℕ
  pub within : at < length xs
  pub is : x ≡ get_or xs at x
  pub named : x.id ≡ id

pub place_of : (q : Queue) (id : ℕ) (x : Unfinished) → request_of q id ≡ Some x → Place q.requests id x
place_of q id x h =
    let f = found (named id) q.requests x h in
    record { at = f.at; within = f.within; is = f.is; named = eqb-true x.id id f.so }

-- ---- its progress changes

abbrev pub moved_to : (Progress → Progress) → Unfinished → Unfinished
moved_to f x = put_progress x (f x.progress)

as_set : (q : Queue) (id : ℕ) (x : Unfinished) (f : Progress → Progress) → IsSound q → (p : Place q.requests id x) → queue_of q.next (set q.requests p.at (moved_to f x)) ≡ with_progress q id f
as_set q id x f h p = changed_is q q.next q.requests id p.at x f (f x.progress) refl h p.within p.is p.named refl

pub sound_progress : (q : Queue) (id : ℕ) (x : Unfinished) (f : Progress → Progress) → IsSound q → request_of q id ≡ Some x → FitsAlone x (f x.progress) → IsSound (with_progress q id f)
sound_progress q id x f h there fits =
    let p = place_of q id x there in
    subst (λ (r : Queue). IsSound r) (as_set q id x f h p) (sound_change q.next q.requests p.at x (f x.progress) p.within p.is fits h)

pub all_progress : (P : Unfinished → Type 0) (q : Queue) (id : ℕ) (x : Unfinished) (f : Progress → Progress) → IsSound q → request_of q id ≡ Some x → All P q.requests → P (moved_to f x)
    → All P (with_progress q id f).requests
all_progress P q id x f h there all new =
    let p = place_of q id x there in
    subst (λ (r : Queue). All P r.requests) (as_set q id x f h p) (All-set P q.requests p.at (moved_to f x) new all)

pub its_fact : (P : Unfinished → Type 0) (q : Queue) (id : ℕ) (x : Unfinished) → request_of q id ≡ Some x → All P q.requests → P x
its_fact P q id x there all = let p = place_of q id x there in subst (λ (y : Unfinished). P y) (sym p.is) (all p.at x p.within)

pub count_progress : (q : Queue) (id : ℕ) (x : Unfinished) (f : Progress → Progress) → IsSound q → request_of q id ≡ Some x → length (with_progress q id f).requests ≡ length q.requests
count_progress q id x f h there =
    let p = place_of q id x there in
    ap (λ (r : Queue). length r.requests) (sym (as_set q id x f h p)) ∙ length-set q.requests p.at (moved_to f x)

any_set : {X : Type 0} (p : X → Bool) (xs : List X) (i : ℕ) (y d : X) → i < length xs → p (get_or xs i d) ≡ false → list_any p xs ≡ true → list_any p (set xs i y) ≡ true
any_set p [] i y d l f h = absurd (omega (arith, l))
any_set p (x ∷ xs) zero y d l f h =
    or_right (p y) (list_any p xs) (elim (or_cases (p x) (list_any p xs) h) [ inl t ↦ absurd (true≢false (sym t ∙ f)) | inr rest ↦ rest ])
any_set p (x ∷ xs) (suc i) y d l f h =
    elim (or_cases (p x) (list_any p xs) h) [
      | inl t ↦ or_left (p x) (list_any p (set xs i y)) t
      | inr rest ↦ or_right (p x) (list_any p (set xs i y)) (any_set p xs i y d (omega (arith, l)) f rest)
    ]

-- an image that is out for another request stays so
pub held_progress : (q : Queue) (id : ℕ) (x : Unfinished) (f : Progress → Progress) (h : Holder) → IsSound q → request_of q id ≡ Some x → is_out h x ≡ false → list_any (is_out h) q.requests ≡ true
    → list_any (is_out h) (with_progress q id f).requests ≡ true
held_progress q id x f h sound there out any =
    let p = place_of q id x there in
    let here : is_out h (get_or q.requests p.at x) ≡ false = ap (is_out h) (sym p.is) ∙ out in
    subst (λ (r : Queue). list_any (is_out h) r.requests ≡ true) (as_set q id x f sound p) (any_set (is_out h) q.requests p.at (moved_to f x) x p.within here any)

-- ---- it leaves

freed_fact : (P : Unfinished → Type 0) (b : Bool) (x : Unfinished) → P x → (b ≡ true → P (put_progress x Pending)) → P (if b then record x { progress = Pending } else x)
freed_fact P true x p q = q refl
freed_fact P false x p q = p

-- a fact that one keeps which is blocked no more
pub all_left : (P : Unfinished → Type 0) (q : Queue) (id : ℕ) → ((x : Unfinished) → P x → is_blocked x ≡ true → P (put_progress x Pending)) → All P q.requests → All P (left q id).requests
unfolding left without freed
all_left P q id keep all =
    All-map P (freed (filter (named id) q.requests)) (filter (λ (x : Unfinished). not (named id x)) q.requests)
    (λ k d l.
    let x : Unfinished = get_or (filter (λ (x : Unfinished). not (named id x)) q.requests) k d in
    let here : P x = All-filter (λ (x : Unfinished). not (named id x)) P q.requests all k d l in
    freed_fact P (is_blocked x && stands_behind (filter (named id) q.requests) x.request) x here
    (λ t. keep x here (and_parts (is_blocked x) (stands_behind (filter (named id) q.requests) x.request) t).0))

pub count_left : (q : Queue) (id : ℕ) (x : Unfinished) → IsSound q → request_of q id ≡ Some x → length (left q id).requests + 1 ≡ length q.requests
count_left q id x h there =
    let p = place_of q id x there in
    let e : length (left q id).requests ≡ length (remove q.requests p.at) =
    ap (λ (r : Queue). length r.requests) (sym (left_is q q.next q.requests id p.at x refl h p.within p.is p.named)) ∙ length-map (remove q.requests p.at) (freed (x ∷ [])) in
    let n = length-remove q.requests p.at p.within in
    omega (arith, e, n)

pub next_left : (q : Queue) (id : ℕ) → (left q id).next ≡ q.next
unfolding left
next_left q id = refl

midway_freed : (by count : ℕ) (p : Progress) → blocks p ≡ true → is_midway by count p ≡ false
midway_freed by count Pending h = absurd (true≢false (sym h))
midway_freed by count Blocked h = refl
midway_freed by count (Busy w moved failed dropped) h = absurd (true≢false (sym h))

and_false : (a b : Bool) → b ≡ false → (a && b) ≡ false
and_false true b h = h
and_false false b h = refl

out_if : (h : Holder) (x : Unfinished) (b : Bool) → (b ≡ true → is_blocked x ≡ true) → is_out h (if b then record x { progress = Pending } else x) ≡ is_out h x
out_if h x true t =
    let no = midway_freed h.by x.request.count x.progress (t refl) in
    and_false ((x.id == h.id) && not (is_read x.request)) false refl ∙ sym (and_false ((x.id == h.id) && not (is_read x.request)) (is_midway h.by x.request.count x.progress) no)
out_if h x false t = refl

out_freed : (h : Holder) (leaving : List Unfinished) (x : Unfinished) → is_out h (freed leaving x) ≡ is_out h x
unfolding freed
out_freed h leaving x = out_if h x (is_blocked x && stands_behind leaving x.request) (λ t. (and_parts (is_blocked x) (stands_behind leaving x.request) t).0)

any-map : {X Y : Type 0} (p : X → Bool) (f : Y → X) (ys : List Y) → list_any p (map f ys) ≡ list_any (λ (y : Y). p (f y)) ys
any-map p f [] = refl
any-map p f (y ∷ ys) = ap (λ b. p (f y) || b) (any-map p f ys)

out_tells : (h : Holder) (x : Unfinished) → is_out h x ≡ true → x.id ≡ h.id
out_tells h x t =
    let a = and_parts ((x.id == h.id) && not (is_read x.request)) (is_midway h.by x.request.count x.progress) t in
    eqb-true x.id h.id (and_parts (x.id == h.id) (not (is_read x.request)) a.0).0

other_id : (h : Holder) (id : ℕ) (x : Unfinished) → h.id ≢ id → (not (named id x) && is_out h x) ≡ is_out h x
other_id h id x ne =
    elim (cases_Bool (is_out h x)) [
      | inl t ↦
          let same = out_tells h x t in
          ap (λ b. not b && is_out h x) (ne_eqb x.id id (λ e. ne (sym same ∙ e)))
      | inr f ↦ and_false (not (named id x)) (is_out h x) f ∙ sym f
    ]

pub held_left : (q : Queue) (id : ℕ) (h : Holder) → h.id ≢ id → list_any (is_out h) q.requests ≡ true → list_any (is_out h) (left q id).requests ≡ true
unfolding left without
held_left q id h ne any =
    any-map (is_out h) (freed (filter (named id) q.requests)) (filter (λ (x : Unfinished). not (named id x)) q.requests)
    ∙ any_agree (λ (x : Unfinished). is_out h (freed (filter (named id) q.requests) x)) (is_out h) (out_freed h (filter (named id) q.requests)) (filter (λ (x : Unfinished). not (named id x)) q.requests)
    ∙ any-filter (is_out h) (λ (x : Unfinished). not (named id x)) q.requests
    ∙ any_agree (λ (x : Unfinished). not (named id x) && is_out h x) (is_out h) (λ x. other_id h id x ne) q.requests
    ∙ any

-- ---- one joins

pub sound_joined : (q : Queue) (r : Request) → IsSound q → length q.requests < 64 → q.next < 2 ^ 32 - 1 → IsRequest r → IsSound (joined q r)
unfolding joined
sound_joined q r h few more good =
    let y : Unfinished = record { id = q.next; request = r; progress = if stands_behind q.requests r then Blocked else Pending } in
    sound_push q.requests q.next (q.next + 1) y few h.ids (omega arith) (omega arith) (omega (arith, more)) h.requests (good, fits_if (stands_behind q.requests r) refl)
  where
    fits_if : (b : Bool) → stands_behind q.requests r ≡ b → ProgressFits q.requests (record { id = q.next; request = r; progress = if b then Blocked else Pending }) (if b then Blocked else Pending)
    fits_if b e = joined_fits q.requests (record { id = q.next; request = r; progress = if b then Blocked else Pending }) b e

waits_if : (P : Unfinished → Type 0) (id : ℕ) (r : Request) (b : Bool) → ((p : Progress) → (b ≡ true → p ≡ Blocked) → (b ≡ false → p ≡ Pending) → P (record { id = id; request = r; progress = p }))
    → P (record { id = id; request = r; progress = if b then Blocked else Pending })
waits_if P id r true f = f Blocked (λ e. refl) (λ e. absurd (true≢false e))
waits_if P id r false f = f Pending (λ e. absurd (true≢false (sym e))) (λ e. refl)

pub all_joined : (P : Unfinished → Type 0) (q : Queue) (r : Request) → All P q.requests → P (record { id = q.next; request = r; progress = Pending }) → P (record { id = q.next; request = r; progress = Blocked })
    → All P (joined q r).requests
unfolding joined
all_joined P q r all pending blocked = All-push P q.requests _ all (either (stands_behind q.requests r))
  where
    either : (b : Bool) → P (record { id = q.next; request = r; progress = if b then Blocked else Pending })
    either true = blocked
    either false = pending

pub held_joined : (q : Queue) (r : Request) (h : Holder) → list_any (is_out h) q.requests ≡ true → list_any (is_out h) (joined q r).requests ≡ true
unfolding joined
held_joined q r h any = list_any-append (is_out h) q.requests _ ∙ or_left (list_any (is_out h) q.requests) _ any
