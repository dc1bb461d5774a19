-- An unfinished request has as many units moved as entries moved one.
use Rattle.std.proofs.Common.{◌≡◌, ◌≢◌, ℕ, ◌+◌, ◌<◌, Bool, true, false, not, cond, List, [], ◌∷◌, length, map, filter, get_or, refl, sym, ap, subst, ◌∙◌, inl, inr, ◌⊎◌, arith, Option, Some, None}
use Rattle.std.specs.Prelude.{◌&&◌, ◌==◌, if◌then◌else◌}
use Rattle.std.specs.List.{find}
use Rattle.std.proofs.lemmas.List.{set_past}
use Rattle.std.proofs.lemmas.Bool.{cases_eq, cases_lt, and_parts, true≢false}
use Rattle.std.proofs.lemmas.Bool.Decides.{nat_tests}
use Rattle.vm_law.specs.declared.block.Request.{Request}
use Rattle.vm_law.specs.declared.journal.Entry.{Entry}
use Rattle.vm_law.specs.declared.journal.Entry.TheVariants.{Claim, Start, Enter, Slice, Step, Exit, Sleep, Wake, Yield, Turn, Meet, Pull, Begin, Move, Hold, Put, Finish, Feed, Wish, Done, End, Close, Tick}
use Rattle.vm_law.specs.declared.journal.Signed.{Signed}
use Rattle.vm_law.specs.declared.script.Order.{Order}
use Rattle.vm_law.specs.declared.script.Order.TheVariants as order
use Rattle.vm_vblk.specs.Queue as vblk
use Rattle.vm_vblk.specs.declared.pulled.Pulled.{Pulled}
use Rattle.vm_vblk.specs.declared.pulled.Pulled.TheVariants as pulled
use Rattle.blk_queue.specs.declared.progress.Progress.{Progress}
use Rattle.blk_queue.specs.declared.progress.Progress.TheVariants.{Pending, Blocked, Busy}
use Rattle.blk_queue.specs.declared.progress.Unfinished.{Unfinished}
use Rattle.blk_queue.specs.Progress.{is_busy, is_pending, is_waiting, blocks, works, pends, moved_of, moves, one_more, begun_by}
use Rattle.blk_queue.specs.Queue.{Queue, has_request, request_of, some_request, stands_behind}
use Rattle.blk_queue.specs.Sound.{NamesOne, passes}
use Rattle.blk_queue.specs.Steps.{joined, change_one, changed, with_progress, first_pending, begun, begun_at, freed, without, left, cancelled, emptied, mark_dropped}
use Rattle.blk_queue.proofs.Names.{names_one}
use Rattle.vm_state.specs.declared.drive.Drive.{Drive}
use Rattle.vm_state.specs.Machine.{MachineState, drive_at, drive_count, with_drive, no_drive}
use Rattle.vm_state.specs.State.{State, image_at, next_order}
use Rattle.vm_owners.specs.Owners.{after_claim, after_start, after_exit, after_sleep, after_wake, after_yield}
use Rattle.vm_owners.specs.Turn.{after_turn}
use Rattle.vm_devices.specs.Windows.{with_window}
use Rattle.vm_running.specs.Enter.{after_enter}
use Rattle.vm_running.specs.Slice.{after_slice}
use Rattle.vm_running.specs.Step.{after_step}
use Rattle.vm_disks.specs.Queueing.{may_pull, queue_with, pulled_in, after_pull, may_begin, with_queue, after_begin}
use Rattle.vm_disks.specs.Moving.{may_move, read_in, after_move, may_finish, after_finish}
use Rattle.vm_disks.specs.Images.{after_hold, may_put, after_put}
use Rattle.vm_orders.specs.Duties.{after_feed, after_meet, after_tick, after_wish}
use Rattle.vm_orders.specs.Done.{ordered, ordered_as, noted_as, said_as, after_done, request_cancelled, noted}
use Rattle.vm_orders.specs.Ending.{after_end, after_close}
use Rattle.vm_table.specs.Table.{allowed, lawful, effect, counted, after}
use Rattle.vm_laws.specs.Counting.{one_if}
use Rattle.vm_laws.specs.Entries.{is_unit_of}
use Rattle.vm_laws.specs.Requests.{queue_of, moved_in}
use Rattle.vm_laws.proofs.Lists.{clash, found}
use Rattle.vm_laws.proofs.Heard.{Hears, hears_followed}
use Rattle.vm_laws.proofs.Holding.{named, push_find, changed_find, emptied_find, dropped_moved, find_passes, freed_id}
use Rattle.vm_laws.proofs.Queues.{busy, emptied_has, left_has_same}
use Rattle.vm_laws.proofs.Serving.{Known, drive_case, at_drives, enter_drives, turn_drives, slice_drives, tick_drives, feed_drives, step_drive, pull_tells, begin_tells, move_tells, finish_tells, put_tells, busy_from, holder_busy, read_in_drives, written_out_queue, finished_queue}

-- where it is there before and after, a unit more was moved, or none
abbrev Moved : Queue → Queue → ℕ → Bool → Type 0
Moved q r id u = has_request q id ≡ true → has_request r id ≡ true → moved_in (request_of r id) ≡ moved_in (request_of q id) + one_if u

moved_by : (o u : Option Unfinished) (x y : Unfinished) (n : ℕ) → o ≡ Some x → u ≡ Some y → moved_of y.progress ≡ moved_of x.progress + n → moved_in u ≡ moved_in o + n
moved_by o u x y n e f h = let a = ap moved_in e in let b = ap moved_in f in omega (arith, a, b, h)

move_same : (q : Queue) (id : ℕ) → Moved q q id false
move_same q id = λ h g. omega arith

-- ---- one request changes

some_is : (y x : Unfinished) → Some y ≡ Some x → y ≡ x
some_is y x h = cc

self_at : (id : ℕ) (f : Progress → Progress) (y : Unfinished) (x : Unfinished) (o u : Option Unfinished) (b : Bool) → (y.id == id) ≡ b → (o ≡ Some x → u ≡ Some (record x { progress = f x.progress })) → cond b (Some y) o ≡ Some x
    → cond ((change_one id f y).id == id) (Some (change_one id f y)) u ≡ Some (record x { progress = f x.progress })
self_at id f y x o u true e r h = rw (e, e) (ap (λ (z : Unfinished). Some (record z { progress = f z.progress })) (some_is y x h))
self_at id f y x o u false e r h = rw (e, e) (r h)

self_find : (id : ℕ) (f : Progress → Progress) (ys : List Unfinished) (x : Unfinished) → find (named id) ys ≡ Some x → find (named id) (map (change_one id f) ys) ≡ Some (record x { progress = f x.progress })
self_find id f [] x h = absurd (cc)
self_find id f (y ∷ ys) x h = self_at id f y x (find (named id) ys) (find (named id) (map (change_one id f) ys)) (y.id == id) refl (self_find id f ys x) h

change_other : (q : Queue) (fid id : ℕ) (f : Progress → Progress) → fid ≢ id → Moved q (with_progress q fid f) id false
unfolding changed
change_other q fid id f ne = λ h g. (let e = ap moved_in (changed_find fid id f q.requests ne) in omega (arith, e))

change_self : (q : Queue) (id : ℕ) (f : Progress → Progress) (u : Bool) → ((x : Unfinished) → request_of q id ≡ Some x → moved_of (f x.progress) ≡ moved_of x.progress + one_if u) → Moved q (with_progress q id f) id u
unfolding changed
change_self q id f u k = λ h g.
    (let x = found (named id) q.requests h in
    moved_by (request_of q id) (request_of (with_progress q id f) id) x.item (record x.item { progress = f x.item.progress }) (one_if u) x.is (self_find id f q.requests x.item x.is) (k x.item x.is))

-- of the request that a worker has
passes_at : (q : Queue) (id : ℕ) (x : Unfinished) (test : Unfinished → Bool) → NamesOne q → request_of q id ≡ Some x → some_request q id test ≡ true → test x ≡ true
passes_at q id x test n e t = ap (λ (o : Option Unfinished). passes test o) (sym e) ∙ sym (n.test id test) ∙ t

more_moved : (ok : Bool) (p : Progress) → works p ≡ true → moved_of (one_more ok p) ≡ moved_of p + 1
more_moved ok Pending h = absurd (true≢false (sym h))
more_moved ok Blocked h = absurd (true≢false (sym h))
more_moved ok (Busy w moved failed gone) h = refl

more_unit : (q : Queue) (fid id : ℕ) (ok : Bool) → NamesOne q → busy q fid ≡ true → Moved q (with_progress q fid (one_more ok)) id (fid == id)
more_unit q fid id ok n b =
    elim (cases_eq fid id) [
      | inl same ↦
          let z : (fid == id) ≡ true = grind (arith, nat_tests, same) in
          subst (λ c. Moved q (with_progress q fid (one_more ok)) id c) (sym z)
          (subst (λ k. Moved q (with_progress q k (one_more ok)) id true) (sym same)
          (change_self q id (one_more ok) true (λ x e. more_moved ok x.progress (passes_at q id x is_busy n e (subst (λ k. busy q k ≡ true) same b)))))
      | inr other ↦ let z : (fid == id) ≡ false = grind (arith, nat_tests, other) in subst (λ c. Moved q (with_progress q fid (one_more ok)) id c) (sym z) (change_other q fid id (one_more ok) other)
    ]

pending_none : (p : Progress) → pends p ≡ true → moved_of p ≡ 0
pending_none Pending h = refl
pending_none Blocked h = refl
pending_none (Busy w moved failed gone) h = absurd (true≢false (sym h))

begun_unit : (q : Queue) (id w : ℕ) → NamesOne q → (o : Option Unfinished) → first_pending q ≡ o → Moved q (begun_at q w o) id false
begun_unit q id w n None e = move_same q id
begun_unit q id w n (Some y) e =
    elim (cases_eq y.id id) [
      | inr other ↦ change_other q y.id id (begun_by w) other
      | inl same ↦
          subst (λ k. Moved q (with_progress q k (begun_by w)) id false) (sym same)
          (change_self q id (begun_by w) false (λ x is. let z = pending_none x.progress (passes_at q id x is_pending n is (subst (λ k. some_request q k is_pending ≡ true) same (find_passes is_pending q.requests y e))) in omega (arith, z)))
    ]

begins_unit : (q : Queue) (id w : ℕ) → NamesOne q → Moved q (begun q w) id false
unfolding begun
begins_unit q id w n = begun_unit q id w n (first_pending q) refl

-- ---- some requests leave, and one joins

freed_moved_at : (x : Unfinished) (p : Progress) → x.progress ≡ p → (b : Bool) → moved_of (if blocks p && b then record x { progress = Pending } else x).progress ≡ moved_of p
freed_moved_at x Pending e b = ap moved_of e
freed_moved_at x Blocked e true = refl
freed_moved_at x Blocked e false = ap moved_of e
freed_moved_at x (Busy w moved failed gone) e b = ap moved_of e

freed_moved : (L : List Unfinished) (x : Unfinished) → moved_of (freed L x).progress ≡ moved_of x.progress
unfolding freed
freed_moved L x = freed_moved_at x x.progress refl (stands_behind L x.request)

kept_at : (id : ℕ) (L : List Unfinished) (y : Unfinished) (zs : List Unfinished) (x : Unfinished) (o : Option Unfinished) (b : Bool) → (o ≡ Some x → find (named id) (map (freed L) zs) ≡ Some (freed L x)) → cond b (Some y) o ≡ Some x → cond b (Some (freed L y)) (find (named id) (map (freed L) zs)) ≡ Some (freed L x)
kept_at id L y zs x o true r h = ap (λ (z : Unfinished). Some (freed L z)) (some_is y x h)
kept_at id L y zs x o false r h = r h

left_at : (fid id : ℕ) (L : List Unfinished) (y : Unfinished) (ys : List Unfinished) (x : Unfinished) (a b : Bool) → (y.id == fid) ≡ a → (y.id == id) ≡ b → fid ≢ id
    → (find (named id) ys ≡ Some x → find (named id) (map (freed L) (filter (λ (x : Unfinished). not (x.id == fid)) ys)) ≡ Some (freed L x)) → cond b (Some y) (find (named id) ys) ≡ Some x
    → find (named id) (map (freed L) (cond (not a) (y ∷ filter (λ (x : Unfinished). not (x.id == fid)) ys) (filter (λ (x : Unfinished). not (x.id == fid)) ys))) ≡ Some (freed L x)
left_at fid id L y ys x true true e f ne r h = absurd (ne (grind (arith, nat_tests)))
left_at fid id L y ys x true false e f ne r h = r h
left_at fid id L y ys x false b e f ne r h =
    let zs = filter (λ (x : Unfinished). not (x.id == fid)) ys in
    ap (λ n. cond (n == id) (Some (freed L y)) (find (named id) (map (freed L) zs))) (freed_id L y)
    ∙ ap (λ c. cond c (Some (freed L y)) (find (named id) (map (freed L) zs))) f
    ∙ kept_at id L y zs x (find (named id) ys) b r h

left_find : (fid id : ℕ) (L xs : List Unfinished) (x : Unfinished) → fid ≢ id → find (named id) xs ≡ Some x → find (named id) (map (freed L) (filter (λ (x : Unfinished). not (x.id == fid)) xs)) ≡ Some (freed L x)
left_find fid id L [] x ne h = absurd (cc)
left_find fid id L (y ∷ ys) x ne h = left_at fid id L y ys x (y.id == fid) (y.id == id) refl refl ne (left_find fid id L ys x ne) h

left_other : (q : Queue) (fid id : ℕ) → fid ≢ id → Moved q (left q fid) id false
unfolding left without
left_other q fid id ne = λ h g.
    (let x = found (named id) q.requests h in
    let L = filter (λ (x : Unfinished). x.id == fid) q.requests in
    let z = freed_moved L x.item in
    moved_by (request_of q id) (request_of (left q fid) id) x.item (freed L x.item) 0 x.is (left_find fid id L q.requests x.item ne x.is) (omega (arith, z)))

left_unit : (q : Queue) (fid id : ℕ) → Moved q (left q fid) id false
left_unit q fid id =
    elim (cases_eq fid id) [
      | inl same ↦ λ h g. absurd (clash (has_request (left q fid) id) g (subst (λ k. has_request (left q k) id ≡ false) (sym same) (left_has_same q id)))
      | inr other ↦ left_other q fid id other
    ]

cancel_if : (q : Queue) (fid id : ℕ) (b : Bool) → Moved q (if b then left q fid else q) id false
cancel_if q fid id true = left_unit q fid id
cancel_if q fid id false = move_same q id

cancel_unit : (q : Queue) (fid id : ℕ) → Moved q (cancelled q fid) id false
unfolding cancelled
cancel_unit q fid id = cancel_if q fid id (some_request q fid is_waiting)

emptied_is : (q : Queue) (id : ℕ) (x : Unfinished) → is_busy x ≡ true → request_of q id ≡ Some x → request_of (emptied q) id ≡ Some (mark_dropped x)
unfolding emptied
emptied_is q id x b e = emptied_find id q.requests x b e

reset_unit : (q : Queue) (id : ℕ) → NamesOne q → Moved q (emptied q) id false
reset_unit q id n = λ h g.
    (let x = found (named id) q.requests h in
    let b = passes_at q id x.item is_busy n x.is (sym (emptied_has q id) ∙ g) in
    let z = dropped_moved x.item.progress in
    moved_by (request_of q id) (request_of (emptied q) id) x.item (mark_dropped x.item) 0 x.is (emptied_is q id x.item b x.is) (omega (arith, z)))

join_unit : (q : Queue) (r : Request) (id : ℕ) → Moved q (joined q r) id false
unfolding joined
join_unit q r id = λ h g.
    (let x = found (named id) q.requests h in
    moved_by (request_of q id) (request_of (joined q r) id) x.item x.item 0 x.is (push_find id q.requests _ x.item x.is) (omega arith))

-- ---- every entry

-- by another drive c
unit_case : (s : State) (m : MachineState) (c d id : ℕ) (x : Drive) (u : Bool) → m.drives ≡ s.machine.drives → c < drive_count s.machine → (c ≡ d → Moved (queue_of s.machine d) x.queue id u) → (d ≢ c → u ≡ false)
    → Moved (queue_of s.machine d) (drive_at (with_drive m c x) d).queue id u
unit_case s m c d id x u e l f g =
    drive_case (λ z. Moved (queue_of s.machine d) z.queue id u) m c d x (subst (λ (ds : List Drive). c < length ds) (sym e) l) f
    (λ ne. subst (λ b. Moved (queue_of s.machine d) (drive_at m d).queue id b) (sym (g ne)) (at_drives (λ z. Moved (queue_of s.machine d) z.queue id false) s.machine.drives m.drives d e (move_same (queue_of s.machine d) id)))

unit_still : (s : State) (new : List Drive) (d id : ℕ) → new ≡ s.machine.drives → Moved (queue_of s.machine d) (get_or new d no_drive).queue id false
unit_still s new d id e = at_drives (λ z. Moved (queue_of s.machine d) z.queue id false) s.machine.drives new d e (move_same (queue_of s.machine d) id)

pulled_unit : (q : Queue) (a : Pulled) (id : ℕ) → Moved q (queue_with q a) id false
pulled_unit q (pulled.Request r) id = join_unit q r id
pulled_unit q pulled.Answered id = move_same q id
pulled_unit q pulled.Broken id = move_same q id

hears_unit : (s : State) (u n : MachineState) (c d id : ℕ) (x : Drive) → u.drives ≡ s.machine.drives → c < drive_count s.machine → (c ≡ d → Moved (queue_of s.machine d) x.queue id false) → Hears (with_drive u c x) n → Moved (queue_of s.machine d) (queue_of n d) id false
hears_unit s u n c d id x e l f h =
    at_drives (λ z. Moved (queue_of s.machine d) z.queue id false) (with_drive u c x).drives n.drives d h.drives (unit_case s u c d id x false e l f (λ ne. refl))

pull_unit : (s : State) (p c d id : ℕ) → may_pull s p c ≡ true → Moved (queue_of s.machine d) (queue_of (after_pull s c).machine d) id false
unfolding after_pull pulled_in with_window
pull_unit s p c d id m =
    let x = vblk.pull_of s.machine.ram (drive_at s.machine c).window in
    let y : Drive = record (drive_at s.machine c) { window = x.window; queue = queue_with (drive_at s.machine c).queue x.answer } in
    hears_unit s (record s.machine { ram = x.memory }) _ c d id y refl (pull_tells s p c m)
    (λ e. subst (λ n. Moved (queue_of s.machine d) (queue_with (queue_of s.machine n) x.answer) id false) (sym e) (pulled_unit (queue_of s.machine d) x.answer id)) (hears_followed _ _ _ _)

begin_unit : (s : State) (p c fid d id : ℕ) → Known s → may_begin s p c fid ≡ true → Moved (queue_of s.machine d) (queue_of (after_begin s p c).machine d) id false
unfolding after_begin
begin_unit s p c fid d id k m =
    unit_case s s.machine c d id (record (drive_at s.machine c) { queue = begun (drive_at s.machine c).queue p }) false refl (begin_tells s p c fid m).0
    (λ e. subst (λ n. Moved (queue_of s.machine d) (begun (queue_of s.machine n) p) id false) (sym e) (begins_unit (queue_of s.machine d) id p (names_one (queue_of s.machine d) (k.queues d)))) (λ ne. refl)

and_left : (a b : Bool) → a ≡ false → (a && b) ≡ false
and_left a b e = ap (λ x. x && b) e

eq_false : (c d : ℕ) → d ≢ c → (c == d) ≡ false
eq_false c d ne = grind (arith, nat_tests)

eq_true : (c d : ℕ) → c ≡ d → (c == d) ≡ true
eq_true c d e = grind (arith, nat_tests)

-- a unit of request fid of disk c
unit_of : (s : State) (n : MachineState) (c fid d id : ℕ) (ok : Bool) → Known s → n.drives ≡ s.machine.drives → c < drive_count s.machine → busy (queue_of s.machine c) fid ≡ true
    → Moved (queue_of s.machine d) (queue_of (with_queue n c (with_progress (drive_at n c).queue fid (one_more ok))) d) id ((c == d) && (fid == id))
unit_of s n c fid d id ok k e l b =
    unit_case s n c d id (record (drive_at n c) { queue = with_progress (drive_at n c).queue fid (one_more ok) }) ((c == d) && (fid == id)) e l
    (λ same. subst (λ b. Moved (queue_of s.machine d) (with_progress (drive_at n c).queue fid (one_more ok)) id (b && (fid == id))) (sym (eq_true c d same))
    (subst (λ (ds : List Drive). Moved (queue_of s.machine d) (with_progress (get_or ds c no_drive).queue fid (one_more ok)) id (fid == id)) (sym e)
    (subst (λ j. Moved (queue_of s.machine d) (with_progress (queue_of s.machine j) fid (one_more ok)) id (fid == id)) (sym same)
    (more_unit (queue_of s.machine d) fid id ok (names_one (queue_of s.machine d) (k.queues d)) (subst (λ j. busy (queue_of s.machine j) fid ≡ true) same b)))))
    (λ ne. and_left (c == d) (fid == id) (eq_false c d ne))

move_unit : (s : State) (p c fid d id : ℕ) → Known s → may_move s p c fid ≡ true → Moved (queue_of s.machine d) (queue_of (after_move s c fid).machine d) id ((c == d) && (fid == id))
unfolding after_move
move_unit s p c fid d id k m =
    let t = move_tells s p c fid m in
    unit_of s (read_in s.machine c fid) c fid d id true k (read_in_drives s.machine c fid) t.0 (busy_from (queue_of s.machine c) p fid moves t.1)

put_unit : (s : State) (p c fid : ℕ) (ok : Bool) (d id : ℕ) → Known s → may_put s p c fid ≡ true → Moved (queue_of s.machine d) (queue_of (after_put s c fid ok).machine d) id ((c == d) && (fid == id))
unfolding after_put
put_unit s p c fid ok d id k m =
    let t = put_tells s p c fid m in
    unit_of s s.machine c fid d id ok k refl t.0 (holder_busy p fid (queue_of s.machine c) (image_at s c).holder t.1 (k.held c t.0))

hold_unit : (s : State) (p c fid d id : ℕ) → Moved (queue_of s.machine d) (queue_of (after_hold s p c fid).machine d) id false
unfolding after_hold
hold_unit s p c fid d id = subst (λ r. Moved (queue_of s.machine d) r id false) (sym (written_out_queue s.machine c fid d)) (move_same (queue_of s.machine d) id)

finish_unit : (s : State) (p c fid d id : ℕ) → may_finish s p c fid ≡ true → Moved (queue_of s.machine d) (queue_of (after_finish s c fid).machine d) id false
unfolding after_finish
finish_unit s p c fid d id m =
    let n = with_queue s.machine c (left (drive_at s.machine c).queue fid) in
    subst (λ r. Moved (queue_of s.machine d) r id false) (sym (finished_queue n c (request_of (drive_at s.machine c).queue fid) d))
    (unit_case s s.machine c d id (record (drive_at s.machine c) { queue = left (drive_at s.machine c).queue fid }) false refl (finish_tells s p c fid m).0
    (λ e. subst (λ n. Moved (queue_of s.machine d) (left (queue_of s.machine n) fid) id false) (sym e) (left_unit (queue_of s.machine d) fid id)) (λ ne. refl))

cancel_at : (s : State) (c fid d id : ℕ) → Moved (queue_of s.machine d) (queue_of (with_queue s.machine c (cancelled (drive_at s.machine c).queue fid)) d) id false
cancel_at s c fid d id =
    elim (cases_lt c (drive_count s.machine)) [
      | inl l ↦ unit_case s s.machine c d id (record (drive_at s.machine c) { queue = cancelled (drive_at s.machine c).queue fid }) false refl l
          (λ e. subst (λ n. Moved (queue_of s.machine d) (cancelled (queue_of s.machine n) fid) id false) (sym e) (cancel_unit (queue_of s.machine d) fid id)) (λ ne. refl)
      | inr past ↦ unit_still s _ d id (set_past s.machine.drives c _ past)
    ]

ordered_unit : (s : State) (o : Order) (d id : ℕ) → Moved (queue_of s.machine d) (queue_of (ordered s o).machine d) id false
unfolding ordered request_cancelled
ordered_unit s (order.Input bytes) d id = move_same (queue_of s.machine d) id
ordered_unit s (order.Nmi i) d id = move_same (queue_of s.machine d) id
ordered_unit s (order.Cancel c fid) d id = cancel_at s c fid d id
ordered_unit s (order.Set i reg value) d id = move_same (queue_of s.machine d) id
ordered_unit s order.Resume d id = move_same (queue_of s.machine d) id
ordered_unit s o d id = move_same (queue_of s.machine d) id

done_as_unit : (s : State) (o : Option Order) (d id : ℕ) → Moved (queue_of s.machine d) (queue_of (noted_as (ordered_as s o) o (said_as s o)).machine d) id false
unfolding noted
done_as_unit s None d id = move_same (queue_of s.machine d) id
done_as_unit s (Some o) d id = ordered_unit s o d id

done_unit : (s : State) (d id : ℕ) → Moved (queue_of s.machine d) (queue_of (after_done s).machine d) id false
unfolding after_done
done_unit s d id = done_as_unit s (next_order s) d id

accessed_unit : (q r : Queue) (id : ℕ) → NamesOne q → (r ≡ q) ⊎ (r ≡ emptied q) → Moved q r id false
accessed_unit q r id n (inl e) = subst (λ x. Moved q x id false) (sym e) (move_same q id)
accessed_unit q r id n (inr e) = subst (λ x. Moved q x id false) (sym e) (reset_unit q id n)

effect_unit : (s : State) (p : ℕ) (e : Entry) (d id : ℕ) → Known s → allowed s p e ≡ true → Moved (queue_of s.machine d) (queue_of (effect s p e).machine d) id (is_unit_of d id e)
unfolding allowed effect after_claim after_start after_exit after_sleep after_wake after_yield after_meet after_wish after_end after_close
effect_unit s p (Claim j) d id k m = move_same (queue_of s.machine d) id
effect_unit s p (Start j) d id k m = move_same (queue_of s.machine d) id
effect_unit s p (Enter j grant) d id k m = unit_still s (after_enter s p j grant).machine.drives d id (enter_drives s p j grant)
effect_unit s p (Slice j n) d id k m = unit_still s (after_slice s j n).machine.drives d id (slice_drives s j n)
effect_unit s p (Step j) d id k m = accessed_unit (queue_of s.machine d) (queue_of (after_step s p j).machine d) id (names_one (queue_of s.machine d) (k.queues d)) (step_drive s p j d).queue
effect_unit s p (Exit j) d id k m = move_same (queue_of s.machine d) id
effect_unit s p (Sleep j) d id k m = move_same (queue_of s.machine d) id
effect_unit s p (Wake j) d id k m = move_same (queue_of s.machine d) id
effect_unit s p (Yield j) d id k m = move_same (queue_of s.machine d) id
effect_unit s p (Turn j) d id k m = unit_still s (after_turn s j).machine.drives d id (turn_drives s j)
effect_unit s p Meet d id k m = move_same (queue_of s.machine d) id
effect_unit s p (Pull c) d id k m = pull_unit s p c d id m
effect_unit s p (Begin c fid) d id k m = begin_unit s p c fid d id k m
effect_unit s p (Move c fid) d id k m = move_unit s p c fid d id k m
effect_unit s p (Hold c fid) d id k m = hold_unit s p c fid d id
effect_unit s p (Put c fid ok) d id k m = put_unit s p c fid ok d id k m
effect_unit s p (Finish c fid) d id k m = finish_unit s p c fid d id m
effect_unit s p Feed d id k m = unit_still s (after_feed s).machine.drives d id (feed_drives s)
effect_unit s p Wish d id k m = move_same (queue_of s.machine d) id
effect_unit s p (Done n) d id k m = done_unit s d id
effect_unit s p (End c) d id k m = move_same (queue_of s.machine d) id
effect_unit s p Close d id k m = move_same (queue_of s.machine d) id
effect_unit s p (Tick n) d id k m = unit_still s (after_tick s n).machine.drives d id (tick_drives s n)

pub after_unit : (s : State) (x : Signed) (d id : ℕ) → Known s → lawful s x.by x.entry ≡ true → Moved (queue_of s.machine d) (queue_of (after s x).machine d) id (is_unit_of d id x.entry)
unfolding after counted lawful
after_unit s x d id k m = effect_unit s x.by x.entry d id k (and_parts (not s.closed) (allowed s x.by x.entry) m).1
