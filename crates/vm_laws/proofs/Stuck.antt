-- No state is stuck: where a run isn't closed, some pass's list has a lawful entry, or some vCPU may have a Slice, or an
-- image is held.
use Rattle.std.proofs.Common.{◌≡◌, ℕ, zero, suc, ◌+◌, ◌<◌, ◌≤◌, Bool, true, false, not, List, [], ◌∷◌, ◌++◌, length, drop, get_or, refl, sym, ap, subst, ◌∙◌, inl, inr, arith, Option, Some, None}
use Rattle.std.specs.Prelude.{◌&&◌, ◌||◌, ◌==◌, nat_lt, is_some, is_none, slice_get}
use Rattle.std.specs.List.{list_any, list_all, sum_by}
use Rattle.std.proofs.lemmas.Bool.{cases_Bool, cases_lt, or_parts, or_right, true≢false, and_parts}
use Rattle.std.proofs.lemmas.Bool.Decides.{nat_tests}
use Rattle.std.proofs.lemmas.Grind.{common_steps}
use Rattle.std.proofs.lemmas.List.{get_or_past}
use Rattle.std.proofs.lemmas.List.Folds.{list_any_at, sum_by-zero}
use Rattle.std.proofs.lemmas.List.Sums.{sum_by_more, sum_by-take-le}
use Rattle.vm_law.specs.declared.journal.Entry.TheVariants.{Begin}
use Rattle.vm_law.specs.declared.journal.EndCause.TheVariants.{Budget}
use Rattle.vm_law.specs.declared.script.Order.{Order}
use Rattle.vm_law.specs.declared.script.Order.TheVariants.{WaitQuiet, WaitConsole, WaitExecuted, Input, Nmi, Rendezvous, Pause, Resume, Checkpoint, Set, Get, Cancel, Against, Send}
use Rattle.vm_law.specs.declared.stage.Owned.{Owned}
use Rattle.vm_law.specs.declared.stage.Owned.TheVariants.{Idle, Frozen, Running, Sleeping}
use Rattle.x86_fetch.specs.Fetching.{is_local_next}
use Rattle.x86_fetch.specs.Slices.{all_local, stands_local}
use Rattle.blk_queue.specs.declared.progress.Progress.{Progress}
use Rattle.blk_queue.specs.declared.progress.Progress.TheVariants.{Pending, Blocked, Busy}
use Rattle.blk_queue.specs.declared.progress.Unfinished.{Unfinished}
use Rattle.blk_queue.specs.Progress.{is_busy, is_pending, works, pends, is_read, is_over, moves, puts, ends, is_dropped}
use Rattle.blk_queue.specs.Sound.{ProgressFits, AllFit}
use Rattle.blk_queue.specs.Steps.{first_pending}
use Rattle.vm_meet.specs.Meeting.{awaits}
use Rattle.vm_meet.specs.declared.meeting.Meeting.{Meeting}
use Rattle.vm_state.specs.declared.cpu.Cpu.{Cpu}
use Rattle.vm_state.specs.declared.cpu.Seat.{Seat}
use Rattle.vm_state.specs.declared.drive.Drive.{Drive}
use Rattle.vm_state.specs.declared.image.DiskImage.{DiskImage}
use Rattle.vm_state.specs.declared.image.Holder.{Holder}
use Rattle.vm_state.specs.declared.run_state.Why.{Why}
use Rattle.vm_state.specs.Machine.{MachineState, cpu_at, cpu_count, drive_at, drive_count, no_drive, unstarted_cpu, is_idle, is_frozen, is_eager, is_awake, any_eager, all_idle, all_frozen, code_of}
use Rattle.vm_state.specs.Requests.{is_worker, first_worker, pass_count, is_busy_by, has_worker, none_busy, any_request}
use Rattle.vm_state.specs.State.{State, seat_at, empty_seat, image_at, no_image, none_held, next_order, open_grants}
use Rattle.vm_state.specs.Sound.{IsOwner, Stays, MeetFits, WorkerFits, IsNext, OrdersFit, is_pause_first, IsSoundState}
use Rattle.vm_devices.specs.Timers.{is_armed, is_live, any_armed, any_live}
use Rattle.vm_running.specs.Slice.{may_slice}
use Rattle.vm_running.specs.Step.{next_at}
use Rattle.vm_disks.specs.Queueing.{may_begin, may_pull, can_pull, has_id}
use Rattle.vm_disks.specs.Moving.{may_move, may_finish}
use Rattle.vm_disks.specs.Images.{may_hold}
use Rattle.vm_orders.specs.Quiet.{any_pull, can_feed, is_still, is_quiet}
use Rattle.vm_orders.specs.Duties.{may_meet, may_feed, may_wish, may_tick, tick_of}
use Rattle.vm_orders.specs.Done.{may_done, is_cut, is_met, is_wait}
use Rattle.vm_orders.specs.Ending.{is_used_up, may_end, may_close}
use Rattle.vm_table.specs.Table.{allowed}
use Rattle.vm_table.specs.Turns.{first_lawful, begin_first}
use Rattle.vm_laws.proofs.Lists.{clash, none_at, some_below, found, all_from, none_from, all_each, none_each, all_at, any_below_from}
use Rattle.vm_laws.proofs.Moves.{awaited_is_named, claims_awaited, turns_awaited, wakes_named, exits_met, yields_ended, wakes_ended, exits_ended, claims_paused, yields_paused, wakes_paused, exits_paused, claims_going, yields_going, starts_going, wakes_going, enters_going, exits_due, slices_going, steps_going}
use Rattle.vm_laws.proofs.Rests.{RunnerRests, ControlRests, WorkerRests, runner_rests, control_rests, worker_rests}

-- nothing can be added, and nothing is out
pub record IsStuck (s : State) : Type 0 where
  pub none : (p : ℕ) → p < pass_count s.machine → first_lawful s p ≡ None
  pub no_slice : (i : ℕ) → may_slice s (1 + i) i 1 ≡ false
  pub at_home : none_held s ≡ true

runner_below : (m : MachineState) (i : ℕ) → i < cpu_count m → 1 + i < pass_count m
unfolding pass_count
runner_below m i l = omega arith

control_below : (m : MachineState) → 0 < pass_count m
unfolding pass_count
control_below m = omega arith

worker_below : (m : MachineState) (d w : ℕ) → d < drive_count m → w < first_worker m d + (drive_at m d).workers → w < pass_count m
unfolding pass_count first_worker
worker_below m d w l to =
    let more = sum_by_more (λ (x : Drive). x.workers) m.drives d no_drive l in
    let most = sum_by-take-le (λ (x : Drive). x.workers) m.drives (d + 1) in
    omega arith

and_rest : (a b : Bool) → a ≡ true → (a && b) ≡ false → b ≡ false
and_rest a b t f = sym (ap (λ x. x && b) t) ∙ f

-- ---- an image at home

none_is : (o : Option Holder) → is_none o ≡ true → o ≡ None
none_is None h = refl
none_is (Some x) h = absurd (true≢false (sym h))

blank : no_image.holder ≡ None
unfolding no_image
blank = refl

home_at : (s : State) (d : ℕ) → none_held s ≡ true → (image_at s d).holder ≡ None
home_at s d h =
    elim (cases_lt d (length s.images)) [
      | inl l ↦ none_is (image_at s d).holder (all_at (λ (x : DiskImage). is_none x.holder) no_image s.images h d l)
      | inr past ↦ ap (λ (x : DiskImage). x.holder) (get_or_past s.images d no_image past) ∙ blank
    ]

same_number : (w : ℕ) → (w == w) ≡ true
same_number w = grind (arith, nat_tests)

record GoesOn (x : Unfinished) : Type 0 where
  pub read : is_read x.request ≡ true → moves x ≡ true
  pub other : is_read x.request ≡ false → (puts x && not (is_dropped x)) ≡ true

goes_on : (x : Unfinished) (w moved : ℕ) (failed dropped : Bool) → x.progress ≡ Busy w moved failed dropped → moved ≤ x.request.count
    → is_over x.request.count (Busy w moved failed dropped) ≡ false → GoesOn x
goes_on x w moved failed dropped e le over =
    let a = or_parts ((moved == x.request.count) || failed) dropped over in
    let b = or_parts (moved == x.request.count) failed a.0 in
    let less : nat_lt moved x.request.count ≡ true = grind (arith, nat_tests, le, b.0) in
    record { read = λ r. rw (e, r, less, a.1) refl; other = λ r. rw (e, r, less, b.1, a.1) refl }

-- a test that the request at place j passes
at_place : (d : Drive) (j : ℕ) (x : Unfinished) (test : Unfinished → Bool) → j < length d.queue.requests → x ≡ get_or d.queue.requests j x → test x ≡ true
    → list_any (λ (y : Unfinished). (y.id == x.id) && test y) d.queue.requests ≡ true
at_place d j x test l at t =
    list_any_at (λ (y : Unfinished). (y.id == x.id) && test y) d.queue.requests j x l
    (ap (λ (y : Unfinished). (y.id == x.id) && test y) (sym at) ∙ rw (same_number x.id, t) refl)

finishes : (s : State) (w d j : ℕ) → d < drive_count s.machine → j < length (drive_at s.machine d).queue.requests → (x : Unfinished) → x ≡ get_or (drive_at s.machine d).queue.requests j x
    → (image_at s d).holder ≡ None → is_busy_by w x ≡ true → ends x ≡ true → may_finish s w d x.id ≡ true
unfolding may_finish
finishes s w d j l m x at home mine over =
    let one = at_place (drive_at s.machine d) j x (λ y. is_busy_by w y && ends y) m at (rw (mine, over) refl) in
    let is : nat_lt d (drive_count s.machine) ≡ true = grind (arith, nat_tests) in
    rw (is, home, one) refl

moves_on : (s : State) (w d j : ℕ) → d < drive_count s.machine → j < length (drive_at s.machine d).queue.requests → (x : Unfinished) → x ≡ get_or (drive_at s.machine d).queue.requests j x
    → is_busy_by w x ≡ true → moves x ≡ true → may_move s w d x.id ≡ true
unfolding may_move
moves_on s w d j l m x at mine more =
    let one = at_place (drive_at s.machine d) j x (λ y. is_busy_by w y && moves y) m at (rw (mine, more) refl) in
    let is : nat_lt d (drive_count s.machine) ≡ true = grind (arith, nat_tests) in
    rw (is, one) refl

holds_on : (s : State) (w d j : ℕ) → d < drive_count s.machine → j < length (drive_at s.machine d).queue.requests → (x : Unfinished) → x ≡ get_or (drive_at s.machine d).queue.requests j x
    → (image_at s d).holder ≡ None → is_busy_by w x ≡ true → (puts x && not (is_dropped x)) ≡ true → may_hold s w d x.id ≡ true
unfolding may_hold
holds_on s w d j l m x at home mine more =
    let one = at_place (drive_at s.machine d) j x (λ y. is_busy_by w y && puts y && not (is_dropped y)) m at (let p = and_parts (puts x) (not (is_dropped x)) more in rw (mine, p.0, p.1) refl) in
    let is : nat_lt d (drive_count s.machine) ≡ true = grind (arith, nat_tests) in
    rw (is, home, one) refl

is_worker_of : (m : MachineState) (p d : ℕ) → d < drive_count m → first_worker m d ≤ p → p < first_worker m d + (drive_at m d).workers → is_worker m p d ≡ true
unfolding is_worker
is_worker_of m p d l from to = grind (arith, nat_tests, common_steps)

-- ---- 1. a rendezvous is open

module _ (s : State) (h : IsSoundState s) (g : s.closed ≡ false) (k : IsStuck s) where
  rests : (i : ℕ) → i < cpu_count s.machine → RunnerRests s i
  rests i l = runner_rests s i g l (k.none (1 + i) (runner_below s.machine i l))

  control : ControlRests s
  control = control_rests s g (k.none 0 (control_below s.machine))

  owner_at : (i : ℕ) (st : Owned) → (cpu_at s.machine i).stage ≡ st → IsOwner i st
  owner_at i st e = subst (λ (x : Owned). IsOwner i x) e (h.seats.each i).owner

  awaited_moves : (i : ℕ) → i < cpu_count s.machine → is_some s.machine.meet ≡ true → awaits s.machine.meet i ≡ true → (st : Owned) → (cpu_at s.machine i).stage ≡ st → IsOwner i st → ⊥
  awaited_moves i l some aw Idle st o = clash _ (claims_awaited s i l st aw) (rests i l).claim
  awaited_moves i l some aw (Frozen p) st (inl z) = clash _ (turns_awaited s 0 i l (st ∙ ap (λ q. Frozen q) z) aw) (control.turn i l)
  awaited_moves i l some aw (Frozen p) st (inr o) = clash _ (turns_awaited s (1 + i) i l (st ∙ ap (λ q. Frozen q) o) aw) (rests i l).turn
  awaited_moves i l some aw (Running p) st o = let x = exits_met s (1 + i) i l (st ∙ ap (λ q. Running q) o) some in clash _ x.1 ((rests i l).exit x.0)
  awaited_moves i l some aw (Sleeping p) st o = clash _ (wakes_named s (1 + i) i l (st ∙ ap (λ q. Sleeping q) o) (awaited_is_named s.machine.meet i aw)) (rests i l).wake

  meeting_moves : (m : Meeting) → s.machine.meet ≡ Some m → ⊥
  meeting_moves m e =
      let w = some_below (awaits (Some m)) (cpu_count s.machine) (subst (λ (x : Option Meeting). MeetFits s.machine x) e h.meet).waits in
      awaited_moves w.0 w.1 (ap (λ (x : Option Meeting). is_some x) e) (ap (λ (x : Option Meeting). awaits x w.0) e ∙ w.2) (cpu_at s.machine w.0).stage refl (h.seats.each w.0).owner

  no_meeting_at : (m : Option Meeting) → s.machine.meet ≡ m → s.machine.meet ≡ None
  no_meeting_at None e = e
  no_meeting_at (Some m) e = absurd (meeting_moves m e)

  no_meeting : s.machine.meet ≡ None
  no_meeting = no_meeting_at s.machine.meet refl

  -- ---- a busy request goes on

  above_first : (d : ℕ) → cpu_count s.machine < first_worker s.machine d
  unfolding first_worker
  above_first d = omega arith

  busy_moves : (d j : ℕ) → d < drive_count s.machine → j < length (drive_at s.machine d).queue.requests → (x : Unfinished) → x ≡ get_or (drive_at s.machine d).queue.requests j x
      → (w moved : ℕ) (failed dropped : Bool) → x.progress ≡ Busy w moved failed dropped → moved ≤ x.request.count
      → first_worker s.machine d ≤ w → w < first_worker s.machine d + (drive_at s.machine d).workers → ⊥
  busy_moves d j l m x at w moved failed dropped e le from to =
      let above = above_first d in
      let worker : is_worker s.machine w d ≡ true = is_worker_of s.machine w d l from to in
      let wr = worker_rests s w d g l (omega arith) worker (k.none w (worker_below s.machine d w l to)) in
      let home = home_at s d k.at_home in
      let mine : is_busy_by w x ≡ true = ap (λ (p : Progress). has_worker w p) e ∙ same_number w in
      let no_finish = and_rest _ _ mine (ap (λ (y : Unfinished). is_busy_by w y && may_finish s w d y.id) at ∙ none_at (λ (y : Unfinished). is_busy_by w y && may_finish s w d y.id) (drive_at s.machine d).queue.requests j x m wr.finish) in
      let no_move = and_rest _ _ mine (ap (λ (y : Unfinished). is_busy_by w y && may_move s w d y.id) at ∙ none_at (λ (y : Unfinished). is_busy_by w y && may_move s w d y.id) (drive_at s.machine d).queue.requests j x m wr.move) in
      let no_hold = and_rest _ _ mine (ap (λ (y : Unfinished). is_busy_by w y && may_hold s w d y.id) at ∙ none_at (λ (y : Unfinished). is_busy_by w y && may_hold s w d y.id) (drive_at s.machine d).queue.requests j x m wr.hold) in
      elim (cases_Bool (is_over x.request.count (Busy w moved failed dropped))) [
        | inl over ↦ clash _ (finishes s w d j l m x at home mine (ap (λ (p : Progress). is_over x.request.count p) e ∙ over)) no_finish
        | inr more ↦
            let left = goes_on x w moved failed dropped e le more in
            elim (cases_Bool (is_read x.request)) [
              | inl reads ↦ clash _ (moves_on s w d j l m x at mine (left.read reads)) no_move
              | inr writes ↦ clash _ (holds_on s w d j l m x at home mine (left.other writes)) no_hold
            ]
      ]

-- ---- a place in a disk's list

pub fits_at : (before xs : List Unfinished) → AllFit before xs → (j : ℕ) → j < length xs
    → (b : List Unfinished) × (x : Unfinished) × (x ≡ get_or xs j x) × ProgressFits b x x.progress
fits_at before [] q j l = absurd (omega arith)
fits_at before (x ∷ xs) q zero l = (before, x, refl, q.0.1)
fits_at before (x ∷ xs) q (suc j) l = fits_at (before ++ x ∷ []) xs q.1 j (omega (arith, l))

-- its place by a default: what stands there is there by any default
at_any : {X : Type 0} (xs : List X) (j : ℕ) (d e : X) → j < length xs → get_or xs j d ≡ get_or xs j e
at_any [] j d e l = absurd (omega arith)
at_any (x ∷ xs) zero d e l = refl
at_any (x ∷ xs) (suc j) d e l = at_any xs j d e (omega (arith, l))

none_busy_in : (rs : List Unfinished) → ((j : ℕ) → j < length rs → (r : Unfinished) → r ≡ get_or rs j r → is_busy r ≡ false) → list_any is_busy rs ≡ false
none_busy_in [] h = refl
none_busy_in (r ∷ rs) h = ap (λ b. b || list_any is_busy rs) (h 0 (omega arith) r refl) ∙ none_busy_in rs (λ j l q e. h (suc j) (omega (arith, l)) q e)

not_busy_for : (p : ℕ) (x : Progress) → works x ≡ false → has_worker p x ≡ false
not_busy_for p Pending h = refl
not_busy_for p Blocked h = refl
not_busy_for p (Busy w moved failed dropped) h = absurd (true≢false h)

none_busy_for : (p : ℕ) (xs : List Unfinished) → list_any is_busy xs ≡ false → list_any (is_busy_by p) xs ≡ false
none_busy_for p [] h = refl
none_busy_for p (x ∷ xs) h =
    let a = or_parts (is_busy x) (list_any is_busy xs) h in
    ap (λ b. b || list_any (is_busy_by p) xs) (not_busy_for p x.progress a.0) ∙ none_busy_for p xs a.1

-- ---- lawful entries of workers and of control

begins : (s : State) (p d : ℕ) (x : Unfinished) → is_worker s.machine p d ≡ true → list_any (is_busy_by p) (drive_at s.machine d).queue.requests ≡ false
    → first_pending (drive_at s.machine d).queue ≡ Some x → s.machine.pause ≡ false → s.ended ≡ None → may_begin s p d x.id ≡ true
unfolding may_begin
begins s p d x w b f q e =
    let n : has_id x.id (first_pending (drive_at s.machine d).queue) ≡ true = ap (λ (o : Option Unfinished). has_id x.id o) f ∙ same_number x.id in
    rw (w, b, n, q, e) refl

pulls : (s : State) (p d : ℕ) → is_worker s.machine p d ≡ true → can_pull s.machine.ram (drive_at s.machine d) ≡ true → s.machine.pause ≡ false → s.ended ≡ None → may_pull s p d ≡ true
unfolding may_pull
pulls s p d w c q e = rw (w, c, q, e) refl

feeds : (s : State) → can_feed s ≡ true → s.machine.pause ≡ false → s.ended ≡ None → may_feed s 0 ≡ true
unfolding may_feed
feeds s c q e = rw (c, q, e) refl

dones : (s : State) (o : Order) → next_order s ≡ Some o → is_met s o ≡ true → s.ended ≡ None → may_done s 0 s.place ≡ true
unfolding may_done
dones s o here m e = rw (same_number s.place, here, m, e) refl

wishes : (s : State) → next_order s ≡ Some Pause → s.machine.pause ≡ false → s.ended ≡ None → may_wish s 0 ≡ true
unfolding may_wish
wishes s o q e = rw (o, q, e) refl

meets : (s : State) → next_order s ≡ Some Rendezvous → s.begun ≡ false → s.machine.meet ≡ None → s.ended ≡ None → may_meet s 0 ≡ true
unfolding may_meet
meets s o b m e = rw (o, b, m, e) refl

armed_if_live : (m : MachineState) (i : ℕ) → is_live m i ≡ true → is_armed m i ≡ true
unfolding is_live
armed_if_live m i h = (and_parts (is_armed m i) _ h).0

any_armed_if : (m : MachineState) → any_live m ≡ true → any_armed m ≡ true
any_armed_if m h = any_below_from (is_live m) (is_armed m) (cpu_count m) (armed_if_live m) h

ticks : (s : State) → any_live s.machine ≡ true → is_still s ≡ true → s.machine.pause ≡ false → s.ended ≡ None → may_tick s 0 (tick_of s) ≡ true
unfolding may_tick
ticks s live still q e = rw (same_number (tick_of s), still, any_armed_if s.machine live, live, q, e) (or_right _ true refl)

ends_full : (s : State) (o : Order) → next_order s ≡ Some o → is_wait o ≡ true → is_met s o ≡ false → s.executed ≡ s.limit → any_eager s.machine ≡ true → s.ended ≡ None → may_end s 0 Budget ≡ true
unfolding may_end is_used_up
ends_full s o here w m full a e =
    let f : (s.executed == s.limit) ≡ true = grind (arith, nat_tests) in rw (here, m, w, f, a, e) (or_right _ true refl)

closes : (s : State) → is_some s.ended ≡ true → all_idle s.machine ≡ true → none_busy s.machine ≡ true → none_held s ≡ true → s.machine.meet ≡ None → may_close s 0 ≡ true
unfolding may_close
closes s e i b h m = rw (e, i, b, h, m) refl

cuts : (s : State) → s.machine.pause ≡ true → all_frozen s.machine ≡ true → none_busy s.machine ≡ true → none_held s ≡ true → s.machine.meet ≡ None → is_cut s ≡ true
unfolding is_cut
cuts s q f b h m = rw (q, f, b, h, m) refl

-- ---- the order that comes next

pub record Stands (s : State) (paused : Bool) : Type 0 where
  pub order : Order
  pub rest : List Order
  pub here : next_order s ≡ Some order
  pub left : drop s.place s.script ≡ order ∷ rest

pub order_in : (os : List Order) (n : ℕ) → n < length os → (o : Order) × (rest : List Order) × (slice_get os n ≡ Some o) × (drop n os ≡ o ∷ rest)
order_in [] n l = absurd (omega arith)
order_in (o ∷ os) zero l = (o, os, refl, refl)
order_in (o ∷ os) (suc n) l = order_in os n (omega (arith, l))

order_is : (s : State) → next_order s ≡ slice_get s.script s.place
unfolding next_order
order_is s = refl

is_zero : (n : ℕ) → (n == 0) ≡ true → n ≡ 0
is_zero n h = grind (arith, nat_tests)

begin_no : (s : State) (p d : ℕ) (x : Unfinished) → list_any (allowed s p) (Begin d x.id ∷ []) ≡ false → may_begin s p d x.id ≡ false
unfolding allowed
begin_no s p d x h = (or_parts (may_begin s p d x.id) false h).0

first_none : (x : Unfinished) (p : Progress) → ProgressFits [] x p → works p ≡ false → pends p ≡ false → ⊥
first_none x Pending f b p = true≢false p
first_none x Blocked f b p = true≢false (sym f)
first_none x (Busy w moved failed dropped) f b p = true≢false b

empty_queue : (xs : List Unfinished) → AllFit [] xs → list_any is_busy xs ≡ false → list_any is_pending xs ≡ false → nat_lt 0 (length xs) ≡ false
empty_queue [] q b p = refl
empty_queue (x ∷ xs) q b p =
    absurd (first_none x x.progress q.0.1 (or_parts (is_busy x) (list_any is_busy xs) b).0 (or_parts (is_pending x) (list_any is_pending xs) p).0)

stills : (s : State) → any_eager s.machine ≡ false → s.machine.meet ≡ None → any_pull s.machine ≡ false → any_request s.machine ≡ false → can_feed s ≡ false → is_still s ≡ true
unfolding is_still
stills s a m c r f = rw (a, c, r, f, m) refl

quiets : (s : State) → is_still s ≡ true → any_live s.machine ≡ false → is_quiet s ≡ true
unfolding is_quiet
quiets s a b = rw (a, b) refl

-- ---- 2. to 4.

module _ (s : State) (h : IsSoundState s) (g : s.closed ≡ false) (k : IsStuck s) where
  busy_at : (d j : ℕ) → d < drive_count s.machine → j < length (drive_at s.machine d).queue.requests → (x : Unfinished) → x ≡ get_or (drive_at s.machine d).queue.requests j x
      → (b : List Unfinished) (p : Progress) → x.progress ≡ p → ProgressFits b x p → WorkerFits (first_worker s.machine d) (drive_at s.machine d).workers p → works p ≡ false
  busy_at d j l m x at b Pending e f w = refl
  busy_at d j l m x at b Blocked e f w = refl
  busy_at d j l m x at b (Busy p moved failed dropped) e f w = absurd (busy_moves s h g k d j l m x at p moved failed dropped e f w.0 w.1)

  none_busy_at : (d : ℕ) → d < drive_count s.machine → list_any is_busy (drive_at s.machine d).queue.requests ≡ false
  none_busy_at d l =
      none_busy_in (drive_at s.machine d).queue.requests (λ j m r at.
      let q = fits_at [] (drive_at s.machine d).queue.requests (h.machine.each_drive d l).queue.requests j m in
      let same : q.1 ≡ r = q.2 ∙ at_any (drive_at s.machine d).queue.requests j q.1 r m ∙ sym at in
      let w = subst (λ (x : Unfinished). WorkerFits (first_worker s.machine d) (drive_at s.machine d).workers x.progress) (sym q.2) ((h.images.each d l).workers j q.1 m) in
      ap (λ (x : Unfinished). is_busy x) (sym same) ∙ busy_at d j l m q.1 q.2 q.0 q.1.progress refl q.3 w)

  nobody_busy : none_busy s.machine ≡ true
  nobody_busy = all_from (λ (x : Drive). not (list_any is_busy x.queue.requests)) no_drive s.machine.drives (λ d l. ap not (none_busy_at d l))

  -- ---- 2. the run has ended

  ended_idle : (i : ℕ) → i < cpu_count s.machine → is_some s.ended ≡ true → (st : Owned) → (cpu_at s.machine i).stage ≡ st → IsOwner i st → is_idle st ≡ true
  ended_idle i l e Idle st o = refl
  ended_idle i l e (Frozen p) st (inl z) = absurd (clash _ (yields_ended s 0 i l (st ∙ ap (λ q. Frozen q) z) (no_meeting s h g k) e) ((control s h g k).yield i l))
  ended_idle i l e (Frozen p) st (inr o) = absurd (clash _ (yields_ended s (1 + i) i l (st ∙ ap (λ q. Frozen q) o) (no_meeting s h g k) e) (rests s h g k i l).yield)
  ended_idle i l e (Running p) st o = absurd (let x = exits_ended s (1 + i) i l (st ∙ ap (λ q. Running q) o) e in clash _ x.1 ((rests s h g k i l).exit x.0))
  ended_idle i l e (Sleeping p) st o = absurd (clash _ (wakes_ended s (1 + i) i l (st ∙ ap (λ q. Sleeping q) o) e) (rests s h g k i l).wake)

  ended_moves : is_some s.ended ≡ true → ⊥
  ended_moves e =
      let idle = all_each (λ (cpu : Cpu). is_idle cpu.stage) unstarted_cpu s.machine.cpus (λ i l. ended_idle i l e (cpu_at s.machine i).stage refl (h.seats.each i).owner) in
      clash _ (closes s e idle nobody_busy k.at_home (no_meeting s h g k)) (control s h g k).close

  -- ---- 3. a pause is wished

  paused_frozen : (i : ℕ) → i < cpu_count s.machine → s.machine.pause ≡ true → s.ended ≡ None → (st : Owned) → (cpu_at s.machine i).stage ≡ st → IsOwner i st → is_frozen st 0 ≡ true
  paused_frozen i l w e Idle st o = absurd (clash _ (claims_paused s i l st w e) ((control s h g k).claim i l))
  paused_frozen i l w e (Frozen p) st (inl z) = ap (λ q. q == 0) z
  paused_frozen i l w e (Frozen p) st (inr o) = absurd (clash _ (yields_paused s i l (st ∙ ap (λ q. Frozen q) o) (no_meeting s h g k) w) (rests s h g k i l).yield)
  paused_frozen i l w e (Running p) st o = absurd (let x = exits_paused s (1 + i) i l (st ∙ ap (λ q. Running q) o) w in clash _ x.1 ((rests s h g k i l).exit x.0))
  paused_frozen i l w e (Sleeping p) st o = absurd (clash _ (wakes_paused s (1 + i) i l (st ∙ ap (λ q. Sleeping q) o) w) (rests s h g k i l).wake)

  frozen_at : (i : ℕ) → i < cpu_count s.machine → s.machine.pause ≡ true → s.ended ≡ None → is_frozen (cpu_at s.machine i).stage 0 ≡ true
  frozen_at i l w e = paused_frozen i l w e (cpu_at s.machine i).stage refl (h.seats.each i).owner

  everyone_frozen : s.machine.pause ≡ true → s.ended ≡ None → all_frozen s.machine ≡ true
  everyone_frozen w e = all_each (λ (cpu : Cpu). is_frozen cpu.stage 0) unstarted_cpu s.machine.cpus (λ i l. frozen_at i l w e)

  is_cut_now : s.machine.pause ≡ true → s.ended ≡ None → is_cut s ≡ true
  is_cut_now w e = cuts s w (everyone_frozen w e) nobody_busy k.at_home (no_meeting s h g k)

  done_moves : (o : Order) → next_order s ≡ Some o → s.ended ≡ None → is_met s o ≡ true → ⊥
  done_moves o here e met = clash _ (dones s o here met e) (control s h g k).done

  rendezvous_moves : next_order s ≡ Some Rendezvous → s.ended ≡ None → ⊥
  rendezvous_moves here e =
      elim (cases_Bool s.begun) [
        | inl begun ↦ done_moves Rendezvous here e (rw (begun, no_meeting s h g k) refl)
        | inr not_yet ↦ clash _ (meets s here not_yet (no_meeting s h g k) e) (control s h g k).meet
      ]

  paused_moves : s.machine.pause ≡ true → s.ended ≡ None → (o : Order) (after : Bool) → next_order s ≡ Some o → IsNext (cpu_count s.machine) true o after → ⊥
  paused_moves w e WaitQuiet after here n = n
  paused_moves w e (WaitConsole c) after here n = n
  paused_moves w e (WaitExecuted c) after here n = n
  paused_moves w e Pause after here n = n
  paused_moves w e (Input bytes) after here n = done_moves (Input bytes) here e refl
  paused_moves w e (Nmi i) after here n = done_moves (Nmi i) here e refl
  paused_moves w e Rendezvous after here n = rendezvous_moves here e
  paused_moves w e (Cancel d id) after here n = done_moves (Cancel d id) here e refl
  paused_moves w e Resume after here n = done_moves Resume here e (rw (w, everyone_frozen w e, no_meeting s h g k) refl)
  paused_moves w e (Checkpoint name) after here n = done_moves (Checkpoint name) here e (is_cut_now w e)
  paused_moves w e (Against name base) after here n = done_moves (Against name base) here e (is_cut_now w e)
  paused_moves w e (Send name) after here n = done_moves (Send name) here e (or_right _ _ (is_cut_now w e))
  paused_moves w e (Set i reg number) after here n = done_moves (Set i reg number) here e (frozen_at i n.1 w e)
  paused_moves w e (Get i reg) after here n = done_moves (Get i reg) here e (frozen_at i n.1 w e)

  wished_moves : s.machine.pause ≡ true → s.ended ≡ None → (o : Order) (os : List Order) → next_order s ≡ Some o → is_pause_first (o ∷ os) ≡ true → ⊥
  wished_moves w e Pause os here n = done_moves Pause here e (is_cut_now w e)
  wished_moves w e o os here n = true≢false (sym n)

  -- ---- 4. the run goes on

  idle_left : (i : ℕ) (st : Owned) → IsOwner i st → Stays st (cpu_at s.machine i).halted (seat_at s i) → ((p : ℕ) → st ≡ Running p → ⊥) → (seat_at s i).left ≡ 0
  idle_left i Idle o y n = y
  idle_left i (Frozen p) o y n = y
  idle_left i (Running p) o y n = absurd (n p refl)
  idle_left i (Sleeping p) o y n = y

  local_one : (i : ℕ) → all_local (code_of s.machine) (cpu_at s.machine i).ctx 1 ≡ is_local_next (next_at s i)
  unfolding stands_local
  local_one i = refl

  running_moves : (i p : ℕ) → i < cpu_count s.machine → s.ended ≡ None → (cpu_at s.machine i).stage ≡ Running p → p ≡ 1 + i → Stays (Running p) (cpu_at s.machine i).halted (seat_at s i) → ⊥
  running_moves i p l e st o y =
      let at : (cpu_at s.machine i).stage ≡ Running (1 + i) = st ∙ ap (λ q. Running q) o in
      elim (cases_Bool (cpu_at s.machine i).halted) [
        | inl halts ↦ let x = exits_due s (1 + i) i l at (y.1 halts) (inl halts) in clash _ x.1 ((rests s h g k i l).exit x.0)
        | inr awake ↦
            elim (cases_lt 0 (seat_at s i).left) [
              | inr none ↦
                  let zero_left : (seat_at s i).left ≡ 0 = omega (arith, none) in
                  let x = exits_due s (1 + i) i l at (y.0 zero_left) (inr zero_left) in
                  clash _ x.1 ((rests s h g k i l).exit x.0)
              | inl some ↦
                  elim (cases_Bool (is_local_next (next_at s i))) [
                    | inl is_local ↦ clash _ (slices_going s (1 + i) i l at awake some (no_meeting s h g k) (local_one i ∙ is_local)) (k.no_slice i)
                    | inr shared ↦ clash _ (steps_going s (1 + i) i l at awake some (no_meeting s h g k) e shared) (rests s h g k i l).step
                  ]
            ]
      ]

  none_running : (i : ℕ) → i < cpu_count s.machine → s.ended ≡ None → (p : ℕ) → (cpu_at s.machine i).stage ≡ Running p → ⊥
  none_running i l e p st =
      running_moves i p l e st (owner_at s h g k i (Running p) st) (subst (λ (x : Owned). Stays x (cpu_at s.machine i).halted (seat_at s i)) st (h.seats.each i).stay)

  nothing_left : (i : ℕ) → i < length s.seats → s.ended ≡ None → (seat_at s i).left ≡ 0
  nothing_left i l e =
      let n : i < cpu_count s.machine = omega (arith, h.seats.count) in
      idle_left i (cpu_at s.machine i).stage (h.seats.each i).owner (h.seats.each i).stay (λ p st. none_running i n e p st)

  no_grants : s.ended ≡ None → open_grants s.seats ≡ 0
  unfolding open_grants
  no_grants e =
      let all : list_all (λ (x : Seat). x.left == 0) s.seats ≡ true = all_from (λ (x : Seat). x.left == 0) empty_seat s.seats (λ i l. ap (λ n. n == 0) (nothing_left i l e)) in
      let z = sum_by-zero (λ (x : Seat). x.left) s.seats in
      is_zero (sum_by (λ (x : Seat). x.left) s.seats) (z ∙ all)

  -- an eager vCPU lacks grant
  frozen_full : (i : ℕ) → i < cpu_count s.machine → s.machine.pause ≡ false → s.ended ≡ None → (cpu_at s.machine i).stage ≡ Frozen (1 + i) → is_eager (cpu_at s.machine i) ≡ true → s.limit ≤ s.executed
  unfolding is_eager
  frozen_full i l w e st eager =
      elim (cases_Bool (is_some (cpu_at s.machine i).startup)) [
        | inl waits ↦ absurd (clash _ (starts_going s i l st waits w e) (rests s h g k i l).start)
        | inr none ↦
            let parts = and_parts (cpu_at s.machine i).started (is_awake (cpu_at s.machine i)) (sym (ap (λ b. b || ((cpu_at s.machine i).started && is_awake (cpu_at s.machine i))) none) ∙ eager) in
            elim (cases_lt (s.executed + open_grants s.seats) s.limit) [
              | inl room ↦ absurd (clash _ (enters_going s i l st parts.0 parts.1 (no_meeting s h g k) w e room) (rests s h g k i l).enter)
              | inr full ↦ let z = no_grants e in omega arith
            ]
      ]

  eager_full_at : (i : ℕ) → i < cpu_count s.machine → s.machine.pause ≡ false → s.ended ≡ None → is_eager (cpu_at s.machine i) ≡ true → (st : Owned) → (cpu_at s.machine i).stage ≡ st → IsOwner i st → s.limit ≤ s.executed
  eager_full_at i l w e eager Idle st o = absurd (clash _ (claims_going s i l st w e) (rests s h g k i l).claim)
  eager_full_at i l w e eager (Frozen p) st (inl z) = absurd (clash _ (yields_going s i l (st ∙ ap (λ q. Frozen q) z) (no_meeting s h g k) w) ((control s h g k).yield i l))
  eager_full_at i l w e eager (Frozen p) st (inr o) = frozen_full i l w e (st ∙ ap (λ q. Frozen q) o) eager
  eager_full_at i l w e eager (Running p) st o = absurd (none_running i l e p st)
  eager_full_at i l w e eager (Sleeping p) st o = absurd (clash _ (wakes_going s (1 + i) i l (st ∙ ap (λ q. Sleeping q) o) eager) (rests s h g k i l).wake)

  not_eager : (i : ℕ) → i < cpu_count s.machine → s.machine.pause ≡ false → s.ended ≡ None → s.executed < s.limit → is_eager (cpu_at s.machine i) ≡ false
  not_eager i l w e less =
      elim (cases_Bool (is_eager (cpu_at s.machine i))) [
        | inr f ↦ f
        | inl t ↦ let full = eager_full_at i l w e t (cpu_at s.machine i).stage refl (h.seats.each i).owner in absurd (omega arith)
      ]

  is_full : s.machine.pause ≡ false → s.ended ≡ None → any_eager s.machine ≡ true → s.executed ≡ s.limit
  is_full w e eager =
      elim (cases_lt s.executed s.limit) [
        | inr past ↦ let b = h.counts.granted in omega arith
        | inl less ↦ absurd (
            let none : any_eager s.machine ≡ false = none_each is_eager unstarted_cpu s.machine.cpus (λ i l. not_eager i l w e less) in
            clash _ eager none)
      ]

  -- no request is unfinished, since the first of a disk is neither busy nor pending nor blocked
  first_rests : (d : ℕ) → d < drive_count s.machine → (is_worker s.machine (first_worker s.machine d) d ≡ true) × WorkerRests s (first_worker s.machine d) d
  first_rests d l =
      let some = (h.machine.each_drive d l).some_worker in
      let worker : is_worker s.machine (first_worker s.machine d) d ≡ true = is_worker_of s.machine (first_worker s.machine d) d l (omega arith) (omega (arith, some)) in
      (worker, worker_rests s (first_worker s.machine d) d g l (above_first s h g k d) worker (k.none (first_worker s.machine d) (worker_below s.machine d (first_worker s.machine d) l (omega (arith, some)))))

  none_pending : (d : ℕ) → d < drive_count s.machine → s.machine.pause ≡ false → s.ended ≡ None → list_any is_pending (drive_at s.machine d).queue.requests ≡ false
  none_pending d l w e =
      let p = first_worker s.machine d in
      let wr = first_rests d l in
      elim (cases_Bool (list_any is_pending (drive_at s.machine d).queue.requests)) [
        | inr f ↦ f
        | inl t ↦ absurd (
            let f = found is_pending (drive_at s.machine d).queue.requests t in
            let may = begins s p d f.item wr.0 (none_busy_for p (drive_at s.machine d).queue.requests (none_busy_at d l)) f.is w e in
            let no = ap (λ (o : Option Unfinished). list_any (allowed s p) (begin_first d o)) (sym f.is) ∙ wr.1.begin in
            clash _ may (begin_no s p d f.item no))
      ]

  none_left : (d : ℕ) → d < drive_count s.machine → s.machine.pause ≡ false → s.ended ≡ None → nat_lt 0 (length (drive_at s.machine d).queue.requests) ≡ false
  none_left d l w e = empty_queue (drive_at s.machine d).queue.requests (h.machine.each_drive d l).queue.requests (none_busy_at d l) (none_pending d l w e)

  no_request : s.machine.pause ≡ false → s.ended ≡ None → any_request s.machine ≡ false
  no_request w e = none_from (λ (x : Drive). nat_lt 0 (length x.queue.requests)) no_drive s.machine.drives (λ d l. none_left d l w e)

  no_pull_at : (d : ℕ) → d < drive_count s.machine → s.machine.pause ≡ false → s.ended ≡ None → can_pull s.machine.ram (drive_at s.machine d) ≡ false
  no_pull_at d l w e =
      let p = first_worker s.machine d in
      let wr = first_rests d l in
      elim (cases_Bool (can_pull s.machine.ram (drive_at s.machine d))) [
        | inr f ↦ f
        | inl t ↦ absurd (clash _ (pulls s p d wr.0 t w e) wr.1.pull)
      ]

  no_pull : s.machine.pause ≡ false → s.ended ≡ None → any_pull s.machine ≡ false
  no_pull w e = none_from (can_pull s.machine.ram) no_drive s.machine.drives (λ d l. no_pull_at d l w e)

  no_feed : s.machine.pause ≡ false → s.ended ≡ None → can_feed s ≡ false
  no_feed w e =
      elim (cases_Bool (can_feed s)) [
        | inr f ↦ f
        | inl t ↦ absurd (clash _ (feeds s t w e) (control s h g k).feed)
      ]

  still_now : s.machine.pause ≡ false → s.ended ≡ None → any_eager s.machine ≡ false → is_still s ≡ true
  still_now w e none = stills s none (no_meeting s h g k) (no_pull w e) (no_request w e) (no_feed w e)

  quiet_now : s.machine.pause ≡ false → s.ended ≡ None → any_eager s.machine ≡ false → is_quiet s ≡ true
  quiet_now w e none =
      elim (cases_Bool (any_live s.machine)) [
        | inr f ↦ quiets s (still_now w e none) f
        | inl t ↦ absurd (clash _ (ticks s t (still_now w e none) w e) (control s h g k).ticks)
      ]

  wait_moves : (o : Order) → next_order s ≡ Some o → is_wait o ≡ true → (is_quiet s ≡ true → is_met s o ≡ true) → s.machine.pause ≡ false → s.ended ≡ None → ⊥
  wait_moves o here waits met w e =
      elim (cases_Bool (is_met s o)) [
        | inl t ↦ done_moves o here e t
        | inr f ↦
            elim (cases_Bool (any_eager s.machine)) [
              | inl eager ↦ clash _ (ends_full s o here waits f (is_full w e eager) eager e) (control s h g k).over
              | inr none ↦ clash _ (met (quiet_now w e none)) f
            ]
      ]

  going_moves : s.machine.pause ≡ false → s.ended ≡ None → (o : Order) (after : Bool) → next_order s ≡ Some o → IsNext (cpu_count s.machine) false o after → ⊥
  going_moves w e WaitQuiet after here n = wait_moves WaitQuiet here refl (λ q. q) w e
  going_moves w e (WaitConsole c) after here n = wait_moves (WaitConsole c) here refl (λ q. or_right _ _ q) w e
  going_moves w e (WaitExecuted c) after here n = wait_moves (WaitExecuted c) here refl (λ q. or_right _ _ q) w e
  going_moves w e Pause after here n = clash _ (wishes s here w e) (control s h g k).wish
  going_moves w e (Input bytes) after here n = done_moves (Input bytes) here e refl
  going_moves w e (Nmi i) after here n = done_moves (Nmi i) here e refl
  going_moves w e Rendezvous after here n = rendezvous_moves here e
  going_moves w e (Cancel d id) after here n = done_moves (Cancel d id) here e refl
  going_moves w e Resume after here n = n
  going_moves w e (Checkpoint name) after here n = n
  going_moves w e (Against name base) after here n = n
  going_moves w e (Send name) after here n = done_moves (Send name) here e (rw w refl)
  going_moves w e (Set i reg number) after here n = n
  going_moves w e (Get i reg) after here n = n

  by_script : s.ended ≡ None → (b : Bool) → s.machine.pause ≡ b → (o : Order) (os : List Order) → next_order s ≡ Some o → OrdersFit (cpu_count s.machine) b (o ∷ os) → ⊥
  by_script e false w o os here f = going_moves w e o f.0 here f.1
  by_script e true w o os here (inl f) = paused_moves w e o f.0 here f.1
  by_script e true w o os here (inr f) = wished_moves w e o os here f.0

  open_moves : s.ended ≡ None → ⊥
  open_moves e =
      let t = h.script e in
      let o = order_in s.script s.place t.within in
      by_script e s.machine.pause refl o.0 o.1 (order_is s ∙ o.2) (subst (λ (x : List Order). OrdersFit (cpu_count s.machine) s.machine.pause x) o.3 t.orders)

  by_end : (w : Option Why) → s.ended ≡ w → ⊥
  by_end None e = open_moves e
  by_end (Some w) e = ended_moves (ap (λ (x : Option Why). is_some x) e)

-- no state is stuck
pub never_stuck : (s : State) → IsSoundState s → s.closed ≡ false → IsStuck s → ⊥
never_stuck s h g k = by_end s h g k s.ended refl
