-- After the end: what is needed falls where one vCPU goes on, where a turn is taken, and at Close.
use Rattle.std.proofs.Common.{◌≡◌, ℕ, ◌+◌, ◌-◌, ◌<◌, ◌≤◌, Bool, true, false, not, List, length, get_or, set, refl, sym, ap, ◌∙◌, inl, inr, arith, Option, Some, None}
use Rattle.std.specs.Prelude.{◌&&◌, ◌||◌, ◌==◌, is_some, if◌then◌else◌}
use Rattle.std.specs.FinSet.{insert, members}
use Rattle.std.proofs.Math.ListN.{length-set}
use Rattle.std.proofs.lemmas.List.{get_or-set_other, set_past}
use Rattle.std.proofs.lemmas.Bool.{cases_eq, cases_lt, and_parts, and_right, true≢false}
use Rattle.std.proofs.lemmas.Bool.Decides.{nat_tests}
use Rattle.std.proofs.lemmas.Grind.{common_steps, get_or-set_at}
use Rattle.vm_law.specs.CpuSet.{Cpus, has}
use Rattle.vm_law.specs.declared.stage.Owned.{Owned}
use Rattle.vm_law.specs.declared.stage.Owned.TheVariants.{Idle, Frozen, Running, Sleeping}
use Rattle.vm_law.specs.declared.stage.MeetKind.{MeetKind}
use Rattle.vm_law.specs.declared.stage.MeetKind.TheVariants.{Routing, Sample}
use Rattle.x86_fetch.specs.Slices.{stepped_by}
use Rattle.vm_meet.specs.Meeting.{names, awaits, is_last, done_with, turned}
use Rattle.vm_meet.specs.declared.meeting.Meeting.{Meeting}
use Rattle.vm_state.specs.declared.cpu.Cpu.{Cpu}
use Rattle.vm_state.specs.declared.cpu.Seat.{Seat}
use Rattle.vm_state.specs.Machine.{MachineState, cpu_at, cpu_count, with_cpu, drive_count, unstarted_cpu, is_idle, is_frozen, is_running, is_sleeping, code_of}
use Rattle.vm_state.specs.State.{State, seat_at, empty_seat, with_machine, with_seat}
use Rattle.vm_owners.specs.Owners.{may_claim, after_claim, may_exit, after_exit, may_wake, after_wake, may_yield, after_yield}
use Rattle.vm_owners.specs.Turn.{may_turn, with_routing, turn_taken, turn_in, after_turn}
use Rattle.vm_running.specs.Slice.{has_slice, may_slice, spent, after_slice}
use Rattle.vm_orders.specs.Ending.{after_close}
use Rattle.vm_laws.specs.Ending.{sum_below, need_of, cpu_need, disk_need, need}
use Rattle.vm_laws.proofs.Heard.{cpu_set}
use Rattle.vm_laws.proofs.Sums.{sum_le, sum_less}

abbrev pub going : Bool → ℕ
going b = if b then 0 else 1

-- nothing needs more
pub record NoMore (s t : State) : Type 0 where
  pub count : cpu_count t.machine ≡ cpu_count s.machine
  pub drives : drive_count t.machine ≡ drive_count s.machine
  pub cpu : (k : ℕ) → cpu_need t k ≤ cpu_need s k
  pub disk : (d : ℕ) → disk_need t d ≤ disk_need s d
  pub shut : going t.closed ≤ going s.closed

-- and something needs less
pub data Less (s t : State) : Type 0 where
  at_cpu : (i : ℕ) → i < cpu_count s.machine → cpu_need t i < cpu_need s i → Less s t
  at_disk : (d : ℕ) → d < drive_count s.machine → disk_need t d < disk_need s d → Less s t
  at_close : going t.closed < going s.closed → Less s t

pub falls : (s t : State) → NoMore s t → Less s t → need t < need s
unfolding need
falls s t n (at_cpu i l f) =
    let a = sum_less (cpu_need t) (cpu_need s) (cpu_count s.machine) i l f (λ k b. n.cpu k) in
    let b = sum_le (disk_need t) (disk_need s) (drive_count s.machine) (λ d b. n.disk d) in
    let c : sum_below (cpu_need t) (cpu_count t.machine) ≡ sum_below (cpu_need t) (cpu_count s.machine) = ap (λ k. sum_below (cpu_need t) k) n.count in
    let d : sum_below (disk_need t) (drive_count t.machine) ≡ sum_below (disk_need t) (drive_count s.machine) = ap (λ k. sum_below (disk_need t) k) n.drives in
    let e = n.shut in
    omega (arith, a, b, c, d, e)
falls s t n (at_disk i l f) =
    let a = sum_le (cpu_need t) (cpu_need s) (cpu_count s.machine) (λ k b. n.cpu k) in
    let b = sum_less (disk_need t) (disk_need s) (drive_count s.machine) i l f (λ d b. n.disk d) in
    let c : sum_below (cpu_need t) (cpu_count t.machine) ≡ sum_below (cpu_need t) (cpu_count s.machine) = ap (λ k. sum_below (cpu_need t) k) n.count in
    let d : sum_below (disk_need t) (drive_count t.machine) ≡ sum_below (disk_need t) (drive_count s.machine) = ap (λ k. sum_below (disk_need t) k) n.drives in
    let e = n.shut in
    omega (arith, a, b, c, d, e)
falls s t n (at_close f) =
    let a = sum_le (cpu_need t) (cpu_need s) (cpu_count s.machine) (λ k b. n.cpu k) in
    let b = sum_le (disk_need t) (disk_need s) (drive_count s.machine) (λ d b. n.disk d) in
    let c : sum_below (cpu_need t) (cpu_count t.machine) ≡ sum_below (cpu_need t) (cpu_count s.machine) = ap (λ k. sum_below (cpu_need t) k) n.count in
    let d : sum_below (disk_need t) (drive_count t.machine) ≡ sum_below (disk_need t) (drive_count s.machine) = ap (λ k. sum_below (disk_need t) k) n.drives in
    omega (arith, a, b, c, d, f)

-- ---- one vCPU changes

stage_le : (m : MachineState) (i : ℕ) (c : Cpu) (aw : ℕ → Bool) → need_of c.stage (aw i) ≤ need_of (cpu_at m i).stage (aw i) → (k : ℕ) → need_of (cpu_at (with_cpu m i c) k).stage (aw k) ≤ need_of (cpu_at m k).stage (aw k)
stage_le m i c aw h k =
    elim (cases_eq k i) [
      | inr other ↦ rw (get_or-set_other m.cpus i k c (unstarted_cpu k) other) (omega arith)
      | inl e ↦
          elim (cases_lt i (length m.cpus)) [
            | inl l ↦ rw (get_or-set_at m.cpus i k c (unstarted_cpu k) e l, e) h
            | inr past ↦ rw (set_past m.cpus i c past) (omega arith)
          ]
    ]

seat_le : (seats : List Seat) (i : ℕ) (x : Seat) → x.left ≤ (get_or seats i empty_seat).left → (k : ℕ) → (get_or (set seats i x) k empty_seat).left ≤ (get_or seats k empty_seat).left
seat_le seats i x h k =
    elim (cases_eq k i) [
      | inr other ↦ rw (get_or-set_other seats i k x empty_seat other) (omega arith)
      | inl e ↦
          elim (cases_lt i (length seats)) [
            | inl l ↦ rw (get_or-set_at seats i k x empty_seat e l, e) h
            | inr past ↦ rw (set_past seats i x past) (omega arith)
          ]
    ]

-- its stage, and its seat
stage_no_more : (s : State) (i : ℕ) (c : Cpu) → need_of c.stage (awaits s.machine.meet i) ≤ need_of (cpu_at s.machine i).stage (awaits s.machine.meet i) → NoMore s (with_machine s (with_cpu s.machine i c))
unfolding cpu_need disk_need
stage_no_more s i c h = record {
  count = length-set s.machine.cpus i c;
  drives = refl;
  cpu = λ k. (let a = stage_le s.machine i c (awaits s.machine.meet) h k in omega (arith, a));
  disk = λ d. omega arith;
  shut = omega arith;
}

stage_less : (s : State) (i : ℕ) (c : Cpu) → i < cpu_count s.machine → need_of c.stage (awaits s.machine.meet i) < need_of (cpu_at s.machine i).stage (awaits s.machine.meet i) → Less s (with_machine s (with_cpu s.machine i c))
unfolding cpu_need
stage_less s i c l h = at_cpu i l (rw (get_or-set_at s.machine.cpus i i c (unstarted_cpu i) refl l) (omega (arith, h)))

stage_falls : (s : State) (i : ℕ) (c : Cpu) → i < cpu_count s.machine → need_of c.stage (awaits s.machine.meet i) < need_of (cpu_at s.machine i).stage (awaits s.machine.meet i) → need (with_machine s (with_cpu s.machine i c)) < need s
stage_falls s i c l h = falls s _ (stage_no_more s i c (omega (arith, h))) (stage_less s i c l h)

both_no_more : (s : State) (i : ℕ) (c : Cpu) (x : Seat) (n : ℕ) → need_of c.stage (awaits s.machine.meet i) ≤ need_of (cpu_at s.machine i).stage (awaits s.machine.meet i) → x.left ≤ (seat_at s i).left → NoMore s (record (with_seat (with_machine s (with_cpu s.machine i c)) i x) { executed = n })
unfolding cpu_need disk_need
both_no_more s i c x n h g = record {
  count = length-set s.machine.cpus i c;
  drives = refl;
  cpu = λ k. (let a = stage_le s.machine i c (awaits s.machine.meet) h k in let b = seat_le s.seats i x g k in omega (arith, a, b));
  disk = λ d. omega arith;
  shut = omega arith;
}

both_less : (s : State) (i : ℕ) (c : Cpu) (x : Seat) (n : ℕ) → length s.seats ≡ cpu_count s.machine → i < cpu_count s.machine
    → need_of c.stage (awaits s.machine.meet i) + x.left < need_of (cpu_at s.machine i).stage (awaits s.machine.meet i) + (seat_at s i).left
    → Less s (record (with_seat (with_machine s (with_cpu s.machine i c)) i x) { executed = n })
unfolding cpu_need
both_less s i c x n long l h = at_cpu i l (rw (get_or-set_at s.machine.cpus i i c (unstarted_cpu i) refl l, get_or-set_at s.seats i i x empty_seat refl (omega (arith, long, l))) h)

-- ---- Claim, Wake, Yield, Exit, Slice

claim_tells : (s : State) (p i : ℕ) → may_claim s p i ≡ true → is_some s.ended ≡ true → (i < cpu_count s.machine) × (is_idle (cpu_at s.machine i).stage ≡ true) × (awaits s.machine.meet i ≡ true)
unfolding may_claim
claim_tells s p i m e = (grind (arith, nat_tests, common_steps, and_parts), grind (arith, nat_tests, common_steps, and_parts), grind (arith, nat_tests, common_steps, and_parts))

idle_rank : (st : Owned) (aw : Bool) (p : ℕ) → is_idle st ≡ true → aw ≡ true → need_of (Frozen p) aw < need_of st aw
idle_rank Idle true p h e = omega arith
idle_rank Idle false p h e = absurd (true≢false (sym e))
idle_rank (Frozen q) aw p h e = absurd (true≢false (sym h))
idle_rank (Running q) aw p h e = absurd (true≢false (sym h))
idle_rank (Sleeping q) aw p h e = absurd (true≢false (sym h))

pub claim_falls : (s : State) (p i : ℕ) → is_some s.ended ≡ true → may_claim s p i ≡ true → need (after_claim s p i) < need s
unfolding after_claim
claim_falls s p i e m = let t = claim_tells s p i m e in stage_falls s i (record (cpu_at s.machine i) { stage = Frozen p }) t.0 (idle_rank (cpu_at s.machine i).stage (awaits s.machine.meet i) p t.1 t.2)

wake_tells : (s : State) (p i : ℕ) → may_wake s p i ≡ true → (i < cpu_count s.machine) × (is_sleeping (cpu_at s.machine i).stage p ≡ true)
unfolding may_wake
wake_tells s p i m = (grind (arith, nat_tests, common_steps, and_parts), grind (arith, nat_tests, common_steps, and_parts))

sleeping_rank : (st : Owned) (aw : Bool) (p : ℕ) → is_sleeping st p ≡ true → need_of (Frozen p) aw < need_of st aw
sleeping_rank Idle aw p h = absurd (true≢false (sym h))
sleeping_rank (Frozen q) aw p h = absurd (true≢false (sym h))
sleeping_rank (Running q) aw p h = absurd (true≢false (sym h))
sleeping_rank (Sleeping q) true p h = omega arith
sleeping_rank (Sleeping q) false p h = omega arith

pub wake_falls : (s : State) (p i : ℕ) → may_wake s p i ≡ true → need (after_wake s p i) < need s
unfolding after_wake
wake_falls s p i m = let t = wake_tells s p i m in stage_falls s i (record (cpu_at s.machine i) { stage = Frozen p }) t.0 (sleeping_rank (cpu_at s.machine i).stage (awaits s.machine.meet i) p t.1)

yield_tells : (s : State) (p i : ℕ) → may_yield s p i ≡ true → (i < cpu_count s.machine) × (is_frozen (cpu_at s.machine i).stage p ≡ true) × (names s.machine.meet i ≡ false)
unfolding may_yield
yield_tells s p i m = (grind (arith, nat_tests, common_steps, and_parts), grind (arith, nat_tests, common_steps, and_parts), grind (arith, nat_tests, common_steps, and_parts))

unnamed : (m : Option Meeting) (i : ℕ) → names m i ≡ false → awaits m i ≡ false
unnamed None i h = refl
unnamed (Some m) i h = ap (λ b. b && not (has m.done i)) h

frozen_rank : (st : Owned) (aw : Bool) (p : ℕ) → is_frozen st p ≡ true → aw ≡ false → need_of Idle aw < need_of st aw
frozen_rank Idle aw p h e = absurd (true≢false (sym h))
frozen_rank (Frozen q) true p h e = absurd (true≢false e)
frozen_rank (Frozen q) false p h e = omega arith
frozen_rank (Running q) aw p h e = absurd (true≢false (sym h))
frozen_rank (Sleeping q) aw p h e = absurd (true≢false (sym h))

pub yield_falls : (s : State) (p i : ℕ) → may_yield s p i ≡ true → need (after_yield s i) < need s
unfolding after_yield
yield_falls s p i m = let t = yield_tells s p i m in stage_falls s i (record (cpu_at s.machine i) { stage = Idle }) t.0 (frozen_rank (cpu_at s.machine i).stage (awaits s.machine.meet i) p t.1 (unnamed s.machine.meet i t.2))

exit_tells : (s : State) (p i : ℕ) → may_exit s p i ≡ true → (i < cpu_count s.machine) × (is_running (cpu_at s.machine i).stage p ≡ true)
unfolding may_exit
exit_tells s p i m = (grind (arith, nat_tests, common_steps, and_parts), grind (arith, nat_tests, common_steps, and_parts))

running_rank : (st : Owned) (aw : Bool) (p : ℕ) → is_running st p ≡ true → need_of (Frozen p) aw < need_of st aw
running_rank Idle aw p h = absurd (true≢false (sym h))
running_rank (Frozen q) aw p h = absurd (true≢false (sym h))
running_rank (Running q) true p h = omega arith
running_rank (Running q) false p h = omega arith
running_rank (Sleeping q) aw p h = absurd (true≢false (sym h))

pub exit_falls : (s : State) (p i : ℕ) → length s.seats ≡ cpu_count s.machine → may_exit s p i ≡ true → need (after_exit s p i) < need s
unfolding after_exit
exit_falls s p i long m =
    let t = exit_tells s p i m in
    let r = running_rank (cpu_at s.machine i).stage (awaits s.machine.meet i) p t.1 in
    let c = record (cpu_at s.machine i) { stage = Frozen p } in
    let x = record (seat_at s i) { left = 0; stayed = false } in
    falls s _ (both_no_more s i c x s.executed (omega (arith, r)) (omega arith)) (both_less s i c x s.executed long t.0 (omega (arith, r)))

record SliceTells (s : State) (i n : ℕ) : Type 0 where
  pub cpu : i < cpu_count s.machine
  pub some : 1 ≤ n
  pub left : n ≤ (seat_at s i).left

slice_tells : (s : State) (p i n : ℕ) → may_slice s p i n ≡ true → SliceTells s i n
unfolding may_slice has_slice
slice_tells s p i n m = record {
  cpu = grind (arith, nat_tests, common_steps, and_parts);
  some = grind (arith, nat_tests, common_steps, and_parts);
  left = grind (arith, nat_tests, common_steps, and_parts);
}

pub slice_falls : (s : State) (p i n : ℕ) → length s.seats ≡ cpu_count s.machine → may_slice s p i n ≡ true → need (after_slice s i n) < need s
unfolding after_slice spent
slice_falls s p i n long m =
    let t = slice_tells s p i n m in
    let some = t.some in
    let left = t.left in
    let c = record (cpu_at s.machine i) { ctx = stepped_by (code_of s.machine) (cpu_at s.machine i).ctx n } in
    let x : Seat = record { left = (seat_at s i).left - n; stayed = true; ran = (seat_at s i).ran + n } in
    falls s _ (both_no_more s i c x (s.executed + n) (omega arith) (omega arith)) (both_less s i c x (s.executed + n) long t.cpu (omega (arith, some, left)))

-- ---- Turn

need_mono : (st : Owned) (a b : Bool) → (a ≡ true → b ≡ true) → need_of st a ≤ need_of st b
need_mono st true true h = omega arith
need_mono st true false h = absurd (true≢false (sym (h refl)))
need_mono st false false h = omega arith
need_mono Idle false true h = omega arith
need_mono (Frozen p) false true h = omega arith
need_mono (Running p) false true h = omega arith
need_mono (Sleeping p) false true h = omega arith

pub has_insert : (s : Cpus) (n q : ℕ) → has (insert s n) q ≡ ((q == n) || has s q)
has_insert s n q = grind (arith, members, nat_tests, common_steps)

pub still_awaited : (m : Meeting) (i k : ℕ) → (has m.named k && not (has (done_with m i) k)) ≡ true → awaits (Some m) k ≡ true
still_awaited m i k h =
    let e = has_insert m.done i k in
    let t = and_parts (has m.named k) (not (has (insert m.done i) k)) h in
    grind (arith, nat_tests, common_steps)

turned_over : (m : Meeting) (i : ℕ) → (has m.named i && not (has (done_with m i) i)) ≡ false
turned_over m i =
    let e = has_insert m.done i i in
    let z : (i == i) ≡ true = grind (arith, nat_tests) in
    let t : has (insert m.done i) i ≡ true = e ∙ ap (λ b. b || has m.done i) z in
    ap (λ b. has m.named i && not b) t ∙ and_right _ _ refl

awaits_if : (m : Meeting) (i k : ℕ) (b : Bool) → awaits (if b then None else Some (record m { done = done_with m i })) k ≡ true → awaits (Some m) k ≡ true
awaits_if m i k true h = absurd (true≢false (sym h))
awaits_if m i k false h = still_awaited m i k h

over_if : (m : Meeting) (i : ℕ) (b : Bool) → awaits (if b then None else Some (record m { done = done_with m i })) i ≡ false
over_if m i true = refl
over_if m i false = turned_over m i

-- the vCPU's turn is taken, and no other is awaited anew
pub turned_awaits : (m : Meeting) (i k : ℕ) → awaits (turned (Some m) i) k ≡ true → awaits (Some m) k ≡ true
turned_awaits m i k h = awaits_if m i k (is_last m i) h

pub turned_done : (m : Meeting) (i : ℕ) → awaits (turned (Some m) i) i ≡ false
turned_done m i = over_if m i (is_last m i)

turn_tells : (s : State) (p i : ℕ) → may_turn s p i ≡ true → (i < cpu_count s.machine) × (is_frozen (cpu_at s.machine i).stage p ≡ true) × (awaits s.machine.meet i ≡ true)
unfolding may_turn
turn_tells s p i m = (grind (arith, nat_tests, common_steps, and_parts), grind (arith, nat_tests, common_steps, and_parts), grind (arith, nat_tests, common_steps, and_parts))

turn_rank : (st : Owned) (p : ℕ) (aw : Bool) → is_frozen st p ≡ true → aw ≡ true → need_of st false < need_of st aw
turn_rank Idle p aw h e = absurd (true≢false (sym h))
turn_rank (Frozen q) p true h e = omega arith
turn_rank (Frozen q) p false h e = absurd (true≢false (sym e))
turn_rank (Running q) p aw h e = absurd (true≢false (sym h))
turn_rank (Sleeping q) p aw h e = absurd (true≢false (sym h))

-- what a turn leaves but for the rendezvous
pub record TurnTaken (s t : State) : Type 0 where
  pub count : cpu_count t.machine ≡ cpu_count s.machine
  pub stage : (k : ℕ) → (cpu_at t.machine k).stage ≡ (cpu_at s.machine k).stage
  pub seats : t.seats ≡ s.seats
  pub same : (t.machine.drives ≡ s.machine.drives) × (t.images ≡ s.images) × (t.closed ≡ s.closed)
  pub control : (t.machine.pause ≡ s.machine.pause) × (t.input ≡ s.input) × (t.executed ≡ s.executed) × (t.limit ≡ s.limit)

pub taken_turn : (s : State) (i : ℕ) (kind : MeetKind) → TurnTaken s (turn_taken s i kind)
unfolding turn_taken with_routing
taken_turn s i Routing = record {
  count = length-set s.machine.cpus i _;
  stage = cpu_set (λ c d. d.stage ≡ c.stage) s.machine i _ (λ k. refl) refl;
  seats = refl;
  same = (refl, refl, refl);
  control = (refl, refl, refl, refl);
}
taken_turn s i Sample = record { count = refl; stage = λ k. refl; seats = refl; same = (refl, refl, refl); control = (refl, refl, refl, refl) }

turn_no_more : (s t : State) (meet : Option Meeting) → TurnTaken s t → ((k : ℕ) → awaits meet k ≡ true → awaits s.machine.meet k ≡ true) → NoMore s (with_machine t (record t.machine { meet = meet }))
unfolding cpu_need disk_need
turn_no_more s t meet k h = record {
  count = k.count;
  drives = ap (λ ds. length ds) k.same.0;
  cpu = λ i. (
      let a = need_mono (cpu_at s.machine i).stage (awaits meet i) (awaits s.machine.meet i) (h i) in
      let b = ap (λ (xs : List Seat). (get_or xs i empty_seat).left) k.seats in
      rw (k.stage i) (omega (arith, a, b)));
  disk = λ d. rw (k.same.0, k.same.1) (omega arith);
  shut = rw k.same.2 (omega arith);
}

turn_less : (s t : State) (i : ℕ) (meet : Option Meeting) → TurnTaken s t → i < cpu_count s.machine → awaits meet i ≡ false → need_of (cpu_at s.machine i).stage false < need_of (cpu_at s.machine i).stage (awaits s.machine.meet i) → Less s (with_machine t (record t.machine { meet = meet }))
unfolding cpu_need
turn_less s t i meet k l over f =
    let b = ap (λ (xs : List Seat). (get_or xs i empty_seat).left) k.seats in at_cpu i l (rw (k.stage i, over) (omega (arith, f, b)))

-- the turn's own state, whose rendezvous is that of before
pub taken_meet : (s : State) (i : ℕ) (kind : MeetKind) → (turn_taken s i kind).machine.meet ≡ s.machine.meet
unfolding turn_taken with_routing
taken_meet s i Routing = refl
taken_meet s i Sample = refl

turn_at_falls : (s : State) (p i : ℕ) (m : Meeting) → s.machine.meet ≡ Some m → i < cpu_count s.machine → is_frozen (cpu_at s.machine i).stage p ≡ true → awaits (Some m) i ≡ true → need (turn_in s i (Some m)) < need s
turn_at_falls s p i m e l f aw =
    let t = turn_taken s i m.kind in
    let k = taken_turn s i m.kind in
    let meet : Option Meeting = turned t.machine.meet i in
    let same : meet ≡ turned (Some m) i = ap (λ (x : Option Meeting). turned x i) (taken_meet s i m.kind ∙ e) in
    let less : (j : ℕ) → awaits meet j ≡ true → awaits s.machine.meet j ≡ true = λ j h. ap (λ (x : Option Meeting). awaits x j) e ∙ turned_awaits m i j (sym (ap (λ (x : Option Meeting). awaits x j) same) ∙ h) in
    let over : awaits meet i ≡ false = ap (λ (x : Option Meeting). awaits x i) same ∙ turned_done m i in
    falls s _ (turn_no_more s t meet k less) (turn_less s t i meet k l over (turn_rank (cpu_at s.machine i).stage p (awaits s.machine.meet i) f (ap (λ (x : Option Meeting). awaits x i) e ∙ aw)))

turn_in_falls : (s : State) (p i : ℕ) (m : Option Meeting) → s.machine.meet ≡ m → i < cpu_count s.machine → is_frozen (cpu_at s.machine i).stage p ≡ true → awaits m i ≡ true → need (turn_in s i m) < need s
turn_in_falls s p i None e l f aw = absurd (true≢false (sym aw))
turn_in_falls s p i (Some m) e l f aw = turn_at_falls s p i m e l f aw

pub turn_falls : (s : State) (p i : ℕ) → may_turn s p i ≡ true → need (after_turn s i) < need s
unfolding after_turn
turn_falls s p i m = let t = turn_tells s p i m in turn_in_falls s p i s.machine.meet refl t.0 t.1 t.2

-- ---- Close

close_no_more : (s : State) → NoMore s (after_close s)
unfolding after_close cpu_need disk_need
close_no_more s = record { count = refl; drives = refl; cpu = λ k. omega arith; disk = λ d. omega arith; shut = omega arith }

close_less : (s : State) → s.closed ≡ false → Less s (after_close s)
unfolding after_close
close_less s e = at_close (rw e (omega arith))

pub close_falls : (s : State) → s.closed ≡ false → need (after_close s) < need s
close_falls s e = falls s _ (close_no_more s) (close_less s e)
