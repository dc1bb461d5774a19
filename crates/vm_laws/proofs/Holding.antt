-- While a pass holds the image of a disk, entries of other passes leave it, the disk and the request.
use Rattle.std.proofs.Common.{◌≡◌, ◌≢◌, ℕ, Bool, true, false, not, cond, List, [], ◌∷◌, ◌++◌, map, filter, refl, sym, ap, subst, ◌∙◌, arith, Option, Some, None}
use Rattle.std.specs.Prelude.{◌&&◌, ◌||◌, ◌==◌, if◌then◌else◌}
use Rattle.std.specs.List.{list_any, find}
use Rattle.std.proofs.lemmas.Bool.{and_parts, or_left, or_right, true≢false}
use Rattle.std.proofs.lemmas.Bool.Decides.{nat_tests}
use Rattle.std.proofs.lemmas.Grind.{common_steps}
use Rattle.blk_queue.specs.declared.progress.Progress.{Progress}
use Rattle.blk_queue.specs.declared.progress.Progress.TheVariants.{Pending, Blocked, Busy}
use Rattle.blk_queue.specs.declared.progress.Unfinished.{Unfinished}
use Rattle.blk_queue.specs.Progress.{is_blocked, is_busy, is_pending, is_read, is_waiting, blocks, works, pends, dropped, moved_of, begun_by}
use Rattle.blk_queue.specs.Queue.{Queue, request_of, some_request, stands_behind}
use Rattle.blk_queue.specs.Sound.{NamesOne, passes}
use Rattle.blk_queue.specs.Steps.{joined, change_one, changed, with_progress, first_pending, begun, begun_at, freed, without, left, cancelled, emptied, mark_dropped}
use Rattle.vm_state.specs.Requests.{is_busy_by, has_worker}
use Rattle.vm_state.specs.declared.image.Holder.{Holder}
use Rattle.vm_state.specs.Sound.{IsHeld, is_out, is_midway}
use Rattle.vm_laws.specs.Owned.{SameWork}
use Rattle.vm_laws.proofs.Lists.{clash}
use Rattle.vm_laws.proofs.Queues.{any_more}

-- ---- the request of an id after changes of others

abbrev pub named : ℕ → Unfinished → Bool
named id x = x.id == id

pub same_work : (o : Option Unfinished) → SameWork o o
same_work None = refl
same_work (Some x) = (refl, refl)

-- the request is there
pub record Has (q : Queue) (p id : ℕ) : Type 0 where
  pub item : Unfinished
  pub is : request_of q id ≡ Some item
  pub by : is_busy_by p item ≡ true

by_busy : (p : ℕ) (x : Progress) → has_worker p x ≡ true → works x ≡ true
by_busy p Pending h = h
by_busy p Blocked h = h
by_busy p (Busy w moved failed gone) h = refl

has_busy : (p : ℕ) (x : Unfinished) → is_busy_by p x ≡ true → is_busy x ≡ true
has_busy p x h = by_busy p x.progress h

has_passes : (q : Queue) (p id : ℕ) (o : Option Unfinished) → request_of q id ≡ o → passes (is_busy_by p) o ≡ true → Has q p id
has_passes q p id None e h = absurd (true≢false (sym h))
has_passes q p id (Some x) e h = record { item = x; is = e; by = h }

midway_by : (p count : ℕ) (x : Progress) → is_midway p count x ≡ true → has_worker p x ≡ true
midway_by p count Pending h = h
midway_by p count Blocked h = h
midway_by p count (Busy w moved failed gone) h = grind (arith, nat_tests, common_steps, and_parts)

out_by : (h : Holder) (x : Unfinished) → is_out h x ≡ true → ((x.id == h.id) && is_busy_by h.by x) ≡ true
out_by h x o =
    let a = and_parts ((x.id == h.id) && not (is_read x.request)) (is_midway h.by x.request.count x.progress) o in
    let b = and_parts (x.id == h.id) (not (is_read x.request)) a.0 in
    rw (b.0, midway_by h.by x.request.count x.progress a.1) refl

pub has_held : (q : Queue) (p id : ℕ) → NamesOne q → IsHeld q.requests (Some (record { by = p; id = id })) → Has q p id
has_held q p id n h =
    let some : some_request q id (is_busy_by p) ≡ true = any_more (is_out (record { by = p; id = id })) (λ (x : Unfinished). (x.id == id) && is_busy_by p x) q.requests (λ x o. out_by (record { by = p; id = id }) x o) h in
    has_passes q p id (request_of q id) refl (sym (n.test id (is_busy_by p)) ∙ some)

-- what the request of this id passes, that one passes
it_passes : (q : Queue) (p id : ℕ) → NamesOne q → (h : Has q p id) → (test : Unfinished → Bool) → some_request q id test ≡ true → test h.item ≡ true
it_passes q p id n h test t = ap (λ (o : Option Unfinished). passes test o) (sym h.is) ∙ sym (n.test id test) ∙ t

-- requests that join
push_at : (id : ℕ) (y : Unfinished) (ys zs : List Unfinished) (x : Unfinished) (b : Bool) → (find (named id) ys ≡ Some x → find (named id) (ys ++ zs) ≡ Some x) → cond b (Some y) (find (named id) ys) ≡ Some x → cond b (Some y) (find (named id) (ys ++ zs)) ≡ Some x
push_at id y ys zs x true r h = h
push_at id y ys zs x false r h = r h

pub push_find : (id : ℕ) (ys zs : List Unfinished) (x : Unfinished) → find (named id) ys ≡ Some x → find (named id) (ys ++ zs) ≡ Some x
push_find id [] zs x h = absurd (cc)
push_find id (y ∷ ys) zs x h = push_at id y ys zs x (y.id == id) (push_find id ys zs x) h

-- requests of other ids that change
change_same : (f : Progress → Progress) (y : Unfinished) (b : Bool) → b ≡ false → (if b then record y { progress = f y.progress } else y) ≡ y
change_same f y true e = absurd (true≢false e)
change_same f y false e = refl

change_id : (f : Progress → Progress) (y : Unfinished) (b : Bool) → (if b then record y { progress = f y.progress } else y).id ≡ y.id
change_id f y true = refl
change_id f y false = refl

change_at : (fid id : ℕ) (f : Progress → Progress) (y : Unfinished) (b : Bool) (o u : Option Unfinished) → fid ≢ id → (y.id == id) ≡ b → o ≡ u → cond b (Some (change_one fid f y)) o ≡ cond b (Some y) u
change_at fid id f y true o u ne e h = ap (λ (x : Unfinished). Some x) (change_same f y (y.id == fid) (grind (arith, nat_tests)))
change_at fid id f y false o u ne e h = h

pub changed_find : (fid id : ℕ) (f : Progress → Progress) (ys : List Unfinished) → fid ≢ id → find (named id) (map (change_one fid f) ys) ≡ find (named id) ys
changed_find fid id f [] ne = refl
changed_find fid id f (y ∷ ys) ne =
    ap (λ n. cond (n == id) (Some (change_one fid f y)) (find (named id) (map (change_one fid f) ys))) (change_id f y (y.id == fid))
    ∙ change_at fid id f y (y.id == id) (find (named id) (map (change_one fid f) ys)) (find (named id) ys) ne refl (changed_find fid id f ys ne)

pub other_changes : (q : Queue) (fid id : ℕ) (f : Progress → Progress) → fid ≢ id → SameWork (request_of q id) (request_of (with_progress q fid f) id)
unfolding changed
other_changes q fid id f ne = subst (λ (o : Option Unfinished). SameWork (request_of q id) o) (sym (changed_find fid id f q.requests ne)) (same_work (request_of q id))

-- requests of other ids that leave
pub freed_id : (L : List Unfinished) (x : Unfinished) → (freed L x).id ≡ x.id
unfolding freed
freed_id L x = elim (is_blocked x && stands_behind L x.request) as (λ b. (if b then record x { progress = Pending } else x).id ≡ x.id) [ true ↦ refl | false ↦ refl ]

freed_busy_at : (x : Unfinished) (p : Progress) → x.progress ≡ p → works p ≡ true → (b : Bool) → (if blocks p && b then record x { progress = Pending } else x) ≡ x
freed_busy_at x Pending e w b = absurd (true≢false (sym w))
freed_busy_at x Blocked e w b = absurd (true≢false (sym w))
freed_busy_at x (Busy w moved failed gone) e v b = refl

freed_busy : (L : List Unfinished) (x : Unfinished) → is_busy x ≡ true → freed L x ≡ x
unfolding freed
freed_busy L x h = freed_busy_at x x.progress refl h (stands_behind L x.request)

found_is : (y x : Unfinished) → Some y ≡ Some x → y ≡ x
found_is y x h = cc

left_kept : (id : ℕ) (L : List Unfinished) (y : Unfinished) (zs : List Unfinished) (x : Unfinished) (o : Option Unfinished) (b : Bool) → is_busy x ≡ true → (o ≡ Some x → find (named id) (map (freed L) zs) ≡ Some x) → cond b (Some y) o ≡ Some x → cond b (Some (freed L y)) (find (named id) (map (freed L) zs)) ≡ Some x
left_kept id L y zs x o true w r h = ap (λ (z : Unfinished). Some (freed L z)) (found_is y x h) ∙ ap (λ (z : Unfinished). Some z) (freed_busy L x w)
left_kept id L y zs x o false w r h = r h

left_at : (fid id : ℕ) (L : List Unfinished) (y : Unfinished) (ys : List Unfinished) (x : Unfinished) (a b : Bool) → (y.id == fid) ≡ a → (y.id == id) ≡ b → fid ≢ id → is_busy x ≡ true
    → (find (named id) ys ≡ Some x → find (named id) (map (freed L) (filter (λ (x : Unfinished). not (x.id == fid)) ys)) ≡ Some x)
    → cond b (Some y) (find (named id) ys) ≡ Some x
    → find (named id) (map (freed L) (cond (not a) (y ∷ filter (λ (x : Unfinished). not (x.id == fid)) ys) (filter (λ (x : Unfinished). not (x.id == fid)) ys))) ≡ Some x
left_at fid id L y ys x true true e f ne w r h = absurd (ne (grind (arith, nat_tests)))
left_at fid id L y ys x true false e f ne w r h = r h
left_at fid id L y ys x false b e f ne w r h =
    let zs = filter (λ (x : Unfinished). not (x.id == fid)) ys in
    ap (λ n. cond (n == id) (Some (freed L y)) (find (named id) (map (freed L) zs))) (freed_id L y)
    ∙ ap (λ c. cond c (Some (freed L y)) (find (named id) (map (freed L) zs))) f
    ∙ left_kept id L y zs x (find (named id) ys) b w r h

left_find : (fid id : ℕ) (L xs : List Unfinished) (x : Unfinished) → fid ≢ id → is_busy x ≡ true → find (named id) xs ≡ Some x → find (named id) (map (freed L) (filter (λ (x : Unfinished). not (x.id == fid)) xs)) ≡ Some x
left_find fid id L [] x ne w h = absurd (cc)
left_find fid id L (y ∷ ys) x ne w h = left_at fid id L y ys x (y.id == fid) (y.id == id) refl refl ne w (left_find fid id L ys x ne w) h

work_some : (o : Option Unfinished) (x : Unfinished) (u : Option Unfinished) → o ≡ Some x → u ≡ Some x → SameWork o u
work_some o x u e f = subst (λ (k : Option Unfinished). SameWork k u) (sym e) (subst (λ (k : Option Unfinished). SameWork (Some x) k) (sym f) (refl, refl))

pub other_leaves : (q : Queue) (p fid id : ℕ) → Has q p id → fid ≢ id → SameWork (request_of q id) (request_of (left q fid) id)
unfolding left without
other_leaves q p fid id h ne =
    work_some (request_of q id) h.item (request_of (left q fid) id) h.is
    (left_find fid id (filter (λ (x : Unfinished). x.id == fid) q.requests) q.requests h.item ne (has_busy p h.item h.by) h.is)

-- a reset
emptied_kept : (id : ℕ) (y : Unfinished) (zs : List Unfinished) (x : Unfinished) (o : Option Unfinished) (b : Bool) → (o ≡ Some x → find (named id) (map mark_dropped zs) ≡ Some (mark_dropped x)) → cond b (Some y) o ≡ Some x → cond b (Some (mark_dropped y)) (find (named id) (map mark_dropped zs)) ≡ Some (mark_dropped x)
emptied_kept id y zs x o true r h = ap (λ (z : Unfinished). Some (mark_dropped z)) (found_is y x h)
emptied_kept id y zs x o false r h = r h

emptied_at : (id : ℕ) (y : Unfinished) (ys : List Unfinished) (x : Unfinished) (a b : Bool) → is_busy y ≡ a → (y.id == id) ≡ b → is_busy x ≡ true
    → (find (named id) ys ≡ Some x → find (named id) (map mark_dropped (filter is_busy ys)) ≡ Some (mark_dropped x)) → cond b (Some y) (find (named id) ys) ≡ Some x
    → find (named id) (map mark_dropped (cond a (y ∷ filter is_busy ys) (filter is_busy ys))) ≡ Some (mark_dropped x)
emptied_at id y ys x true b e f w r h =
    let zs = filter is_busy ys in
    ap (λ c. cond c (Some (mark_dropped y)) (find (named id) (map mark_dropped zs))) f ∙ emptied_kept id y zs x (find (named id) ys) b r h
emptied_at id y ys x false true e f w r h = absurd (clash (is_busy x) w (sym (ap is_busy (found_is y x h)) ∙ e))
emptied_at id y ys x false false e f w r h = r h

pub emptied_find : (id : ℕ) (xs : List Unfinished) (x : Unfinished) → is_busy x ≡ true → find (named id) xs ≡ Some x → find (named id) (map mark_dropped (filter is_busy xs)) ≡ Some (mark_dropped x)
emptied_find id [] x w h = absurd (cc)
emptied_find id (y ∷ ys) x w h = emptied_at id y ys x (is_busy y) (y.id == id) refl refl w (emptied_find id ys x w) h

pub dropped_moved : (p : Progress) → moved_of (dropped p) ≡ moved_of p
dropped_moved Pending = refl
dropped_moved Blocked = refl
dropped_moved (Busy w moved failed gone) = refl

pub reset_leaves : (q : Queue) (p id : ℕ) → Has q p id → SameWork (request_of q id) (request_of (emptied q) id)
unfolding emptied
reset_leaves q p id h =
    subst (λ (k : Option Unfinished). SameWork k (request_of (emptied q) id)) (sym h.is)
    (subst (λ (k : Option Unfinished). SameWork (Some h.item) k) (sym (emptied_find id q.requests h.item (has_busy p h.item h.by) h.is)) (refl, dropped_moved h.item.progress))

-- a request joins
pub joins : (q : Queue) (r : _) (p id : ℕ) → Has q p id → SameWork (request_of q id) (request_of (joined q r) id)
unfolding joined
joins q r p id h = work_some (request_of q id) h.item (request_of (joined q r) id) h.is (push_find id q.requests _ h.item h.is)

pub same_number : (n : ℕ) → (n == n) ≡ true
same_number n = grind (arith, nat_tests)

not_true : (b : Bool) → not b ≡ true → b ≡ false
not_true true h = absurd (true≢false (sym h))
not_true false h = refl

-- a worker begins another
find_passes_at : (p : Unfinished → Bool) (y : Unfinished) (ys : List Unfinished) (x : Unfinished) (b : Bool) → p y ≡ b → (find p ys ≡ Some x → list_any (λ (z : Unfinished). (z.id == x.id) && p z) ys ≡ true)
    → cond b (Some y) (find p ys) ≡ Some x → (((y.id == x.id) && p y) || list_any (λ (z : Unfinished). (z.id == x.id) && p z) ys) ≡ true
find_passes_at p y ys x true e r h =
    let s = found_is y x h in
    let z : (y.id == x.id) ≡ true = ap (λ (k : Unfinished). k.id == x.id) s ∙ same_number x.id in
    let both : ((y.id == x.id) && p y) ≡ true = rw (z, e) refl in
    or_left _ _ both
find_passes_at p y ys x false e r h = or_right _ _ (r h)

pub find_passes : (p : Unfinished → Bool) (ys : List Unfinished) (x : Unfinished) → find p ys ≡ Some x → list_any (λ (z : Unfinished). (z.id == x.id) && p z) ys ≡ true
find_passes p [] x h = absurd (cc)
find_passes p (y ∷ ys) x h = find_passes_at p y ys x (p y) refl (find_passes p ys x) h

pending_idle : (p : Progress) → pends p ≡ true → works p ≡ false
pending_idle Pending h = refl
pending_idle Blocked h = absurd (true≢false (sym h))
pending_idle (Busy w moved failed gone) h = absurd (true≢false (sym h))

begun_other : (q : Queue) (p id w : ℕ) → NamesOne q → Has q p id → (o : Option Unfinished) → first_pending q ≡ o → SameWork (request_of q id) (request_of (begun_at q w o) id)
begun_other q p id w n h None e = same_work (request_of q id)
begun_other q p id w n h (Some y) e =
    other_changes q y.id id (begun_by w) (λ same.
    let t = subst (λ k. some_request q k is_pending ≡ true) same (find_passes is_pending q.requests y e) in
    clash (is_busy h.item) (has_busy p h.item h.by) (pending_idle h.item.progress (it_passes q p id n h is_pending t)))

pub begins_other : (q : Queue) (p id w : ℕ) → NamesOne q → Has q p id → SameWork (request_of q id) (request_of (begun q w) id)
unfolding begun
begins_other q p id w n h = begun_other q p id w n h (first_pending q) refl

-- an order cancels another
cancels_if : (q : Queue) (p fid id : ℕ) (b : Bool) → NamesOne q → Has q p id → some_request q fid is_waiting ≡ b → SameWork (request_of q id) (request_of (if b then left q fid else q) id)
cancels_if q p fid id true n h e =
    other_leaves q p fid id h (λ same. (let t = it_passes q p id n h is_waiting (subst (λ k. some_request q k is_waiting ≡ true) same e) in clash (is_busy h.item) (has_busy p h.item h.by) (not_true (is_busy h.item) t)))
cancels_if q p fid id false n h e = same_work (request_of q id)

pub cancels_other : (q : Queue) (p fid id : ℕ) → NamesOne q → Has q p id → SameWork (request_of q id) (request_of (cancelled q fid) id)
unfolding cancelled
cancels_other q p fid id n h = cancels_if q p fid id (some_request q fid is_waiting) n h refl

-- a worker of another pass has another
has_both : (p q : ℕ) (x : Progress) → has_worker p x ≡ true → has_worker q x ≡ true → p ≡ q
has_both p q Pending a b = absurd (true≢false (sym a))
has_both p q Blocked a b = absurd (true≢false (sym a))
has_both p q (Busy w moved failed gone) a b = grind (arith, nat_tests)

pub works_other : (q : Queue) (p w fid id : ℕ) (test : Unfinished → Bool) → NamesOne q → Has q p id → (w == p) ≡ false → some_request q fid (λ x. is_busy_by w x && test x) ≡ true → fid ≢ id
works_other q p w fid id test n h ne t same =
    let a = it_passes q p id n h (λ x. is_busy_by w x && test x) (subst (λ k. some_request q k (λ x. is_busy_by w x && test x) ≡ true) same t) in
    let b = (and_parts (is_busy_by w h.item) (test h.item) a).0 in
    let e : w ≡ p = has_both w p h.item.progress b h.by in
    clash (w == p) (grind (arith, nat_tests, e)) ne
