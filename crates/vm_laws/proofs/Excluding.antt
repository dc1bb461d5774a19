-- A rendezvous excludes.
use Rattle.std.proofs.Common.{◌≡◌, ◌≢◌, ℕ, ◌+◌, ◌<◌, Bool, true, false, not, List, [], ◌∷◌, ◌++◌, length, map, get_or, refl, sym, ap, subst, ◌∙◌, inl, inr, arith, Option, Some, None}
use Rattle.std.specs.Prelude.{◌&&◌, ◌||◌, ◌==◌, is_none, is_some, if◌then◌else◌}
use Rattle.std.specs.FinSet as finset
use Rattle.std.specs.FinSet.{is_subset-contains, contains-empty}
use Rattle.std.specs.Ordering.{nat_cmp}
use Rattle.std.specs.Cmp.{nat_cmp_total}
use Rattle.std.proofs.Math.ListN.{length-set}
use Rattle.std.proofs.lemmas.List.{get_or-set_other}
use Rattle.std.proofs.lemmas.Bool.{cases_Bool, cases_eq, and_parts, true≢false}
use Rattle.std.proofs.lemmas.Bool.Decides.{nat_tests}
use Rattle.std.proofs.lemmas.Grind.{common_steps, get_or-set_at}
use Rattle.vm_law.specs.CpuSet.{Cpus, has}
use Rattle.vm_law.specs.declared.journal.Entry.{Entry}
use Rattle.vm_law.specs.declared.journal.Entry.TheVariants.{Claim, Start, Enter, Slice, Step, Exit, Sleep, Wake, Yield, Turn, Meet, Pull, Begin, Move, Hold, Put, Finish, Feed, Wish, Done, End, Close, Tick}
use Rattle.vm_law.specs.declared.journal.Signed.{Signed}
use Rattle.vm_law.specs.declared.stage.Owned.{Owned}
use Rattle.vm_law.specs.declared.stage.Owned.TheVariants.{Idle, Frozen, Running, Sleeping}
use Rattle.vm_law.specs.declared.stage.MeetKind.{MeetKind}
use Rattle.vm_law.specs.declared.stage.MeetKind.TheVariants.{Routing, Sample}
use Rattle.vm_ioapic.specs.declared.entry.Redirection.{Redirection}
use Rattle.vm_ioapic.specs.declared.pin.Pin.{Pin}
use Rattle.vm_ioapic.specs.Ioapic.{Chip, tmr}
use Rattle.vm_meet.specs.Meeting.{awaits, is_last, done_with, turned, started_by}
use Rattle.vm_meet.specs.declared.meeting.Meeting.{Meeting}
use Rattle.vm_state.specs.declared.cpu.Cpu.{Cpu}
use Rattle.vm_state.specs.declared.start.Start as start_type
use Rattle.vm_state.specs.Machine.{MachineState, cpu_at, cpu_count, unstarted_cpu, is_frozen, is_running}
use Rattle.vm_state.specs.Start.{boot}
use Rattle.vm_state.specs.State.{State}
use Rattle.vm_owners.specs.Turn.{may_turn, with_routing, turn_taken, turn_in, after_turn}
use Rattle.vm_running.specs.Enter.{may_enter, after_enter}
use Rattle.vm_running.specs.Slice.{has_slice, may_slice}
use Rattle.vm_running.specs.Step.{may_step, would_route, after_step, has_step}
use Rattle.vm_orders.specs.Duties.{may_meet, after_meet, after_tick}
use Rattle.vm_table.specs.History.{after_all, is_lawful_all, IsLegal, last_state}
use Rattle.vm_table.specs.Table.{allowed, lawful, effect, counted, after}
use Rattle.vm_laws.specs.Counting.{count_of, one_if}
use Rattle.vm_laws.specs.Entries.{is_enter, is_run, is_run_of, is_turn_of}
use Rattle.vm_laws.specs.Meetings.{is_open_along, HasBecome, is_through, has_turned, runs_turned, runs_by, route_of, routing_of, HasModes, Excludes, IsOpened}
use Rattle.vm_laws.proofs.Lists.{clash}
use Rattle.vm_laws.proofs.Needs.{has_insert}
use Rattle.vm_laws.proofs.Framing.{enter_meet, is_run_stage, CpuFrame, Frame, claim_frame, start_frame, exit_frame, sleep_frame, wake_frame, yield_frame, slice_frame, step_cpu, step_count, turn_cpu, pull_frame, begin_frame, move_frame, hold_frame, put_frame, finish_frame, feed_frame, wish_frame, end_frame, close_frame, done_frame, tick_frame}
use Rattle.vm_laws.proofs.Routing.{Routed, stays, opens, same_routing, same_modes, step_stays, step_routed}

-- ---- what holds of a rendezvous that was opened, in a state since then

-- m is the rendezvous, and first the machine in which it was opened
pub record Standing (first : MachineState) (m : Meeting) (n : MachineState) (o : Option Meeting) : Type 0 where
  pub same : HasBecome m o
  pub inside : (i : ℕ) → has_turned o i ≡ true → has m.named i ≡ true
  pub quiet : (i : ℕ) → has_turned o i ≡ true → is_run_stage (cpu_at n i).stage ≡ false
  pub count : cpu_count n ≡ cpu_count first
  pub routing : routing_of n ≡ routing_of first
  pub modes : m.kind ≡ Routing → (i : ℕ) → is_through m o i ≡ true → HasModes first n i

-- an entry that isn't a turn leaves all of it
record Leaves (n k : MachineState) : Type 0 where
  pub cpu : (i : ℕ) → CpuFrame (cpu_at n i) (cpu_at k i)
  pub count : cpu_count k ≡ cpu_count n
  pub meet : k.meet ≡ n.meet
  pub routing : routing_of k ≡ routing_of n

leaves_frame : (n k : MachineState) → Frame n k → Leaves n k
leaves_frame n k f = record { cpu = f.cpu; count = f.count; meet = f.meet; routing = same_routing n k f.entries }

no_more_runs : (a b : Bool) → (b ≡ true → a ≡ true) → a ≡ false → b ≡ false
no_more_runs a true h e = absurd (clash a (h refl) e)
no_more_runs a false h e = refl

stands_on : (first : MachineState) (m : Meeting) (n k : MachineState) (o : Option Meeting) → Standing first m n o → Leaves n k → Standing first m k o
stands_on first m n k o s l = record {
  same = s.same;
  inside = s.inside;
  quiet = λ i h. no_more_runs (is_run_stage (cpu_at n i).stage) (is_run_stage (cpu_at k i).stage) (l.cpu i).runs (s.quiet i h);
  count = l.count ∙ s.count;
  routing = l.routing ∙ s.routing;
  modes = λ e i h. (l.cpu i).tmr ∙ s.modes e i h;
}

-- ---- a turn

turned_tmr : (s : State) (j i : ℕ) → i ≢ j → (kind : MeetKind) → cpu_at (turn_taken s j kind).machine i ≡ cpu_at s.machine i
unfolding turn_taken with_routing
turned_tmr s j i ne Routing = get_or-set_other s.machine.cpus j i _ (unstarted_cpu i) ne
turned_tmr s j i ne Sample = refl

own_tmr : (s : State) (j : ℕ) → j < cpu_count s.machine → (cpu_at (turn_taken s j Routing).machine j).lapic.tmr ≡ tmr s.machine.ioapic j (cpu_count s.machine)
unfolding turn_taken with_routing
own_tmr s j l = ap (λ (c : Cpu). c.lapic.tmr) (get_or-set_at s.machine.cpus j j _ (unstarted_cpu j) refl l)

turn_count : (s : State) (j : ℕ) (kind : MeetKind) → cpu_count (turn_taken s j kind).machine ≡ cpu_count s.machine
unfolding turn_taken with_routing
turn_count s j Routing = length-set s.machine.cpus j _
turn_count s j Sample = refl

turn_routing : (s : State) (j : ℕ) (kind : MeetKind) → routing_of (turn_taken s j kind).machine ≡ routing_of s.machine
unfolding turn_taken with_routing
turn_routing s j Routing = refl
turn_routing s j Sample = refl

has_self : (s : Cpus) (j : ℕ) → has (finset.insert s j) j ≡ true
has_self s j = let z : (j == j) ≡ true = grind (arith, nat_tests) in has_insert s j j ∙ ap (λ b. b || has s j) z

has_other : (s : Cpus) (j i : ℕ) → i ≢ j → has (finset.insert s j) i ≡ has s i
has_other s j i ne = let z : (i == j) ≡ false = grind (arith, nat_tests) in has_insert s j i ∙ ap (λ b. b || has s i) z

same_truth : (a b : Bool) → (a ≡ true → b ≡ true) → (b ≡ true → a ≡ true) → a ≡ b
same_truth true b f g = sym (f refl)
same_truth false true f g = g refl
same_truth false false f g = refl

frozen_rests : (st : Owned) (p : ℕ) → is_frozen st p ≡ true → is_run_stage st ≡ false
frozen_rests Idle p h = refl
frozen_rests (Frozen q) p h = refl
frozen_rests (Running q) p h = absurd (true≢false (sym h))
frozen_rests (Sleeping q) p h = refl

running_runs : (st : Owned) (p : ℕ) → is_running st p ≡ true → is_run_stage st ≡ true
running_runs Idle p h = absurd (true≢false (sym h))
running_runs (Frozen q) p h = absurd (true≢false (sym h))
running_runs (Running q) p h = refl
running_runs (Sleeping q) p h = absurd (true≢false (sym h))

record Awaited (s : State) (p j : ℕ) (now : Meeting) : Type 0 where
  pub cpu : j < cpu_count s.machine
  pub frozen : is_frozen (cpu_at s.machine j).stage p ≡ true
  pub named : has now.named j ≡ true
  pub waits : has now.done j ≡ false

not_true : (b : Bool) → not b ≡ true → b ≡ false
not_true true h = absurd (true≢false (sym h))
not_true false h = refl

turn_tells : (s : State) (p j : ℕ) (now : Meeting) → s.machine.meet ≡ Some now → may_turn s p j ≡ true → Awaited s p j now
unfolding may_turn
turn_tells s p j now e m =
    let aw : awaits s.machine.meet j ≡ true = grind (arith, nat_tests, common_steps, and_parts) in
    let t = and_parts (has now.named j) (not (has now.done j)) (sym (ap (λ (x : Option Meeting). awaits x j) e) ∙ aw) in
    record {
      cpu = grind (arith, nat_tests, common_steps, and_parts);
      frozen = grind (arith, nat_tests, common_steps, and_parts);
      named = t.0;
      waits = not_true (has now.done j) t.1;
    }

taken_meet : (s : State) (j : ℕ) (kind : MeetKind) → (turn_taken s j kind).machine.meet ≡ s.machine.meet
unfolding turn_taken with_routing
taken_meet s j Routing = refl
taken_meet s j Sample = refl

abbrev routes_in : Chip → List Redirection
routes_in c = map (λ (p : Pin). route_of p.entry) c.pins

not_none : (o : Option Meeting) (now : Meeting) → o ≡ Some now → is_none o ≡ false
not_none o now e = ap (λ (x : Option Meeting). is_none x) e

enter_none : (s : State) (p j grant : ℕ) → may_enter s p j grant ≡ true → is_none s.machine.meet ≡ true
unfolding may_enter
enter_none s p j grant a = grind (arith, nat_tests, common_steps, and_parts)

no_enter_open : (s : State) (p j grant : ℕ) (now : Meeting) → s.machine.meet ≡ Some now → may_enter s p j grant ≡ true → ⊥
no_enter_open s p j grant now e a = clash _ (enter_none s p j grant a) (not_none s.machine.meet now e)

meet_none : (s : State) (p : ℕ) → may_meet s p ≡ true → is_none s.machine.meet ≡ true
unfolding may_meet
meet_none s p a = grind (arith, nat_tests, common_steps, and_parts)

no_meet_open : (s : State) (p : ℕ) (now : Meeting) → s.machine.meet ≡ Some now → may_meet s p ≡ true → ⊥
no_meet_open s p now e a = clash _ (meet_none s p a) (not_none s.machine.meet now e)

slice_tells : (s : State) (p j n : ℕ) → may_slice s p j n ≡ true → (is_running (cpu_at s.machine j).stage p ≡ true) × (started_by s.machine.meet p ≡ false)
unfolding may_slice has_slice
slice_tells s p j n a = (grind (arith, nat_tests, common_steps, and_parts), grind (arith, nat_tests, common_steps, and_parts))

route_or : (a b : Bool) → (not a || b) ≡ true → b ≡ false → a ≡ false
route_or true true h e = absurd (true≢false e)
route_or true false h e = absurd (true≢false (sym h))
route_or false b h e = refl

step_parts : (s : State) (p j : ℕ) → may_step s p j ≡ true → (is_running (cpu_at s.machine j).stage p ≡ true) × (started_by s.machine.meet p ≡ false) × ((not (would_route s j) || is_none s.machine.meet) ≡ true)
unfolding may_step has_step
step_parts s p j a = (grind (arith, nat_tests, common_steps, and_parts), grind (arith, nat_tests, common_steps, and_parts), grind (arith, nat_tests, common_steps, and_parts))

step_tells : (s : State) (p j : ℕ) (now : Meeting) → s.machine.meet ≡ Some now → may_step s p j ≡ true → (is_running (cpu_at s.machine j).stage p ≡ true) × (started_by s.machine.meet p ≡ false) × (would_route s j ≡ false)
step_tells s p j now e a = let t = step_parts s p j a in (t.0, t.1, route_or (would_route s j) (is_none s.machine.meet) t.2 (not_none s.machine.meet now e))

turn_awaits : (s : State) (p j : ℕ) → may_turn s p j ≡ true → awaits s.machine.meet j ≡ true
unfolding may_turn
turn_awaits s p j a = grind (arith, nat_tests, common_steps, and_parts)

no_turn : (s : State) (p j : ℕ) → s.machine.meet ≡ None → may_turn s p j ≡ true → ⊥
no_turn s p j e a = clash _ (turn_awaits s p j a) (ap (λ (o : Option Meeting). awaits o j) e)

module _ (first : MachineState) (m : Meeting) where
  -- those who are done afterwards, in the machine after the turn
  after_done_modes : (s : State) (j : ℕ) (now : Meeting) → Standing first m s.machine (Some now) → j < cpu_count s.machine → m.kind ≡ Routing → (i : ℕ) → has (done_with now j) i ≡ true → HasModes first (turn_taken s j now.kind).machine i
  after_done_modes s j now st l e i h =
      elim (cases_eq i j) [
        | inl same ↦
            let own = subst (λ kind. (cpu_at (turn_taken s j kind).machine j).lapic.tmr ≡ tmr s.machine.ioapic j (cpu_count s.machine)) (sym (st.same.0 ∙ e)) (own_tmr s j l) in
            let here : HasModes first (turn_taken s j now.kind).machine j = own ∙ ap (λ n. tmr s.machine.ioapic j n) st.count ∙ same_modes first s.machine j (cpu_count first) st.routing in
            subst (λ k. HasModes first (turn_taken s j now.kind).machine k) (sym same) here
        | inr other ↦ ap (λ (c : Cpu). c.lapic.tmr) (turned_tmr s j i other now.kind) ∙ st.modes e i (sym (has_other now.done j i other) ∙ h)
      ]

  after_done_quiet : (s : State) (p j : ℕ) (now : Meeting) → Standing first m s.machine (Some now) → is_frozen (cpu_at s.machine j).stage p ≡ true → (i : ℕ) → has (done_with now j) i ≡ true → is_run_stage (cpu_at (turn_taken s j now.kind).machine i).stage ≡ false
  after_done_quiet s p j now st f i h =
      ap is_run_stage (turn_cpu s j now.kind i).stage
      ∙ (elim (cases_eq i j) [
        | inl same ↦ subst (λ k. is_run_stage (cpu_at s.machine k).stage ≡ false) (sym same) (frozen_rests (cpu_at s.machine j).stage p f)
        | inr other ↦ st.quiet i (sym (has_other now.done j i other) ∙ h)
      ])

  after_done_inside : (s : State) (j : ℕ) (now : Meeting) → Standing first m s.machine (Some now) → has now.named j ≡ true → (i : ℕ) → has (done_with now j) i ≡ true → has m.named i ≡ true
  after_done_inside s j now st n i h =
      elim (cases_eq i j) [
        | inl same ↦ subst (λ k. has m.named k ≡ true) (sym same) (sym (ap (λ (c : Cpus). has c j) st.same.2) ∙ n)
        | inr other ↦ st.inside i (sym (has_other now.done j i other) ∙ h)
      ]

  turn_stands : (s : State) (p j : ℕ) (now : Meeting) (n : MachineState) → Standing first m s.machine (Some now) → Awaited s p j now → n.cpus ≡ (turn_taken s j now.kind).machine.cpus → n.ioapic ≡ (turn_taken s j now.kind).machine.ioapic
      → (b : Bool) → is_last now j ≡ b → Standing first m n (if b then None else Some (record now { done = done_with now j }))
  turn_stands s p j now n st aw c io true e =
      let last : (i : ℕ) → has m.named i ≡ true → has (done_with now j) i ≡ true = λ i h. is_subset-contains nat_cmp_total now.named (done_with now j) e i (ap (λ (x : Cpus). has x i) st.same.2 ∙ h) in
      record {
        same = tt;
        inside = λ i h. absurd (true≢false (sym h));
        quiet = λ i h. absurd (true≢false (sym h));
        count = ap (λ (xs : List Cpu). length xs) c ∙ turn_count s j now.kind ∙ st.count;
        routing = ap (λ (x : Chip). routes_in x) io ∙ turn_routing s j now.kind ∙ st.routing;
        modes = λ k i h. (ap (λ (xs : List Cpu). (get_or xs i (unstarted_cpu i)).lapic.tmr) c ∙ after_done_modes s j now st aw.cpu k i (last i h));
      }
  turn_stands s p j now n st aw c io false e = record {
    same = st.same;
    inside = after_done_inside s j now st aw.named;
    quiet = λ i h. ap (λ (xs : List Cpu). is_run_stage (get_or xs i (unstarted_cpu i)).stage) c ∙ after_done_quiet s p j now st aw.frozen i h;
    count = ap (λ (xs : List Cpu). length xs) c ∙ turn_count s j now.kind ∙ st.count;
    routing = ap (λ (x : Chip). routes_in x) io ∙ turn_routing s j now.kind ∙ st.routing;
    modes = λ k i h. (ap (λ (xs : List Cpu). (get_or xs i (unstarted_cpu i)).lapic.tmr) c ∙ after_done_modes s j now st aw.cpu k i h);
  }

  -- one more is through
  more_done : (now : Meeting) (j i : ℕ) → has now.done j ≡ false → one_if (has now.done i) + one_if (j == i) ≡ one_if (has (done_with now j) i)
  more_done now j i w =
      elim (cases_eq i j) [
        | inl same ↦
            let a : one_if (has now.done i) ≡ 0 = ap (λ k. one_if (has now.done k)) same ∙ ap one_if w in
            let b : one_if (j == i) ≡ 1 = (let z : (j == i) ≡ true = grind (arith, nat_tests, same) in ap one_if z) in
            let c : one_if (has (done_with now j) i) ≡ 1 = ap (λ k. one_if (has (done_with now j) k)) same ∙ ap one_if (has_self now.done j) in
            omega (arith, a, b, c)
        | inr other ↦
            let b : one_if (j == i) ≡ 0 = (let z : (j == i) ≡ false = grind (arith, nat_tests, other) in ap one_if z) in
            let c : one_if (has (done_with now j) i) ≡ one_if (has now.done i) = ap one_if (has_other now.done j i other) in
            omega (arith, b, c)
      ]

  turn_through : (s : State) (p j : ℕ) (now : Meeting) → Standing first m s.machine (Some now) → Awaited s p j now → (b : Bool) → is_last now j ≡ b → (i : ℕ)
      → one_if (has now.done i) + one_if (j == i) ≡ one_if (is_through m (if b then None else Some (record now { done = done_with now j })) i)
  turn_through s p j now st aw true e i =
      let all : has (done_with now j) i ≡ has m.named i =
      same_truth (has (done_with now j) i) (has m.named i) (after_done_inside s j now st aw.named i)
      (λ h. is_subset-contains nat_cmp_total now.named (done_with now j) e i (ap (λ (x : Cpus). has x i) st.same.2 ∙ h)) in
      more_done now j i aw.waits ∙ ap one_if all
  turn_through s p j now st aw false e i = more_done now j i aw.waits

  -- ---- one entry while the rendezvous is open

  record Does (s : State) (p : ℕ) (e : Entry) (now : Meeting) (k : MachineState) : Type 0 where
    pub stand : Standing first m k k.meet
    pub turns : (i : ℕ) → one_if (has now.done i) + one_if (is_turn_of i e) ≡ one_if (is_through m k.meet i)
    pub enter : is_enter e ≡ false
    pub rests : (i : ℕ) → (is_run_of i e && has now.done i) ≡ false
    pub starter : ((p == m.by) && is_run e) ≡ false

  and_false : (b : Bool) → (b && false) ≡ false
  and_false true = refl
  and_false false = refl

  -- neither a turn nor an instruction nor an Enter
  record Idles (e : Entry) : Type 0 where
    pub turn : (i : ℕ) → is_turn_of i e ≡ false
    pub enter : is_enter e ≡ false
    pub run_of : (i : ℕ) → is_run_of i e ≡ false
    pub run : is_run e ≡ false

  stand_at : (s : State) (now : Meeting) (k : MachineState) → s.machine.meet ≡ Some now → Standing first m s.machine (Some now) → Leaves s.machine k → Standing first m k k.meet
  stand_at s now k e st l = subst (λ (o : Option Meeting). Standing first m k o) (sym (l.meet ∙ e)) (stands_on first m s.machine k (Some now) st l)

  same_through : (s : State) (now : Meeting) (k : MachineState) (e : Entry) → s.machine.meet ≡ Some now → Leaves s.machine k → (i : ℕ) → is_turn_of i e ≡ false → one_if (has now.done i) + one_if (is_turn_of i e) ≡ one_if (is_through m k.meet i)
  same_through s now k e is l i t =
      let a : one_if (is_turn_of i e) ≡ 0 = ap one_if t in
      let b : one_if (is_through m k.meet i) ≡ one_if (has now.done i) = ap (λ (o : Option Meeting). one_if (is_through m o i)) (l.meet ∙ is) in
      omega (arith, a, b)

  does_idle : (s : State) (p : ℕ) (e : Entry) (now : Meeting) (k : MachineState) → s.machine.meet ≡ Some now → Standing first m s.machine (Some now) → Idles e → Leaves s.machine k → Does s p e now k
  does_idle s p e now k is st id l = record {
    stand = stand_at s now k is st l;
    turns = λ i. same_through s now k e is l i (id.turn i);
    enter = id.enter;
    rests = λ i. ap (λ b. b && has now.done i) (id.run_of i);
    starter = ap (λ b. (p == m.by) && b) id.run ∙ and_false (p == m.by);
  }

  rests_if : (s : State) (p j i : ℕ) (now : Meeting) → Standing first m s.machine (Some now) → is_running (cpu_at s.machine j).stage p ≡ true → ((j == i) && has now.done i) ≡ false
  rests_if s p j i now st r =
      elim (cases_Bool ((j == i) && has now.done i)) [
        | inr f ↦ f
        | inl t ↦
            let a = and_parts (j == i) (has now.done i) t in
            let same : j ≡ i = grind (arith, nat_tests, a.0) in
            absurd (clash (is_run_stage (cpu_at s.machine i).stage) (subst (λ k. is_run_stage (cpu_at s.machine k).stage ≡ true) same (running_runs (cpu_at s.machine j).stage p r)) (st.quiet i a.1))
      ]

  not_starter : (p : ℕ) (now : Meeting) → now.by ≡ m.by → (now.by == p) ≡ false → ((p == m.by) && true) ≡ false
  not_starter p now e h = grind (arith, nat_tests, common_steps)

  does_run : (s : State) (p j : ℕ) (e : Entry) (now : Meeting) (k : MachineState) → s.machine.meet ≡ Some now → Standing first m s.machine (Some now) → ((i : ℕ) → is_turn_of i e ≡ false) → is_enter e ≡ false
      → ((i : ℕ) → is_run_of i e ≡ (j == i)) → is_run e ≡ true → is_running (cpu_at s.machine j).stage p ≡ true → started_by s.machine.meet p ≡ false → Leaves s.machine k → Does s p e now k
  does_run s p j e now k is st t n r run at by l = record {
    stand = stand_at s now k is st l;
    turns = λ i. same_through s now k e is l i (t i);
    enter = n;
    rests = λ i. ap (λ b. b && has now.done i) (r i) ∙ rests_if s p j i now st at;
    starter = ap (λ b. (p == m.by) && b) run ∙ not_starter p now st.same.1 (sym (ap (λ (o : Option Meeting). started_by o p) is) ∙ by);
  }

  meet_of_turn : (s : State) (j : ℕ) (now : Meeting) → s.machine.meet ≡ Some now → (turn_taken s j now.kind).machine.meet ≡ Some now
  meet_of_turn s j now e = taken_meet s j now.kind ∙ e

  does_turn_in : (s : State) (p j : ℕ) (now : Meeting) → s.machine.meet ≡ Some now → Standing first m s.machine (Some now) → Awaited s p j now → Does s p (Turn j) now (turn_in s j (Some now)).machine
  does_turn_in s p j now e st aw =
      let meet : (turn_in s j (Some now)).machine.meet ≡ (if is_last now j then None else Some (record now { done = done_with now j })) = ap (λ (o : Option Meeting). turned o j) (meet_of_turn s j now e) in
      record {
        stand = subst (λ (o : Option Meeting). Standing first m (turn_in s j (Some now)).machine o) (sym meet) (turn_stands s p j now (turn_in s j (Some now)).machine st aw refl refl (is_last now j) refl);
        turns = λ i. turn_through s p j now st aw (is_last now j) refl i ∙ ap (λ (o : Option Meeting). one_if (is_through m o i)) (sym meet);
        enter = refl;
        rests = λ i. refl;
        starter = and_false (p == m.by);
      }

  does_turn : (s : State) (p j : ℕ) (now : Meeting) → s.machine.meet ≡ Some now → Standing first m s.machine (Some now) → may_turn s p j ≡ true → Does s p (Turn j) now (after_turn s j).machine
  unfolding after_turn
  does_turn s p j now e st t = subst (λ (o : Option Meeting). Does s p (Turn j) now (turn_in s j o).machine) (sym e) (does_turn_in s p j now e st (turn_tells s p j now e t))

  step_leaves : (s : State) (p j : ℕ) → would_route s j ≡ false → Leaves s.machine (after_step s p j).machine
  step_leaves s p j w = let k = step_stays s p j w in record { cpu = λ i. step_cpu s p j i; count = step_count s p j; meet = k.0; routing = k.1 }

  tick_leaves : (s : State) (n : ℕ) → Leaves s.machine (after_tick s n).machine
  tick_leaves s n = let f = tick_frame s n in record { cpu = f.cpu; count = f.count; meet = f.meet; routing = same_routing s.machine (after_tick s n).machine f.entries }

  idle_entry : (e : Entry) → ((i : ℕ) → is_turn_of i e ≡ false) → is_enter e ≡ false → ((i : ℕ) → is_run_of i e ≡ false) → is_run e ≡ false → Idles e
  idle_entry e a b c d = record { turn = a; enter = b; run_of = c; run = d }

  does_frame : (s : State) (p : ℕ) (e : Entry) (now : Meeting) (k : MachineState) → s.machine.meet ≡ Some now → Standing first m s.machine (Some now) → Idles e → Frame s.machine k → Does s p e now k
  does_frame s p e now k is st id f = does_idle s p e now k is st id (leaves_frame s.machine k f)

  effect_does : (s : State) (p : ℕ) (e : Entry) (now : Meeting) → s.machine.meet ≡ Some now → Standing first m s.machine (Some now) → allowed s p e ≡ true → Does s p e now (effect s p e).machine
  unfolding allowed effect
  effect_does s p (Claim j) now is st a = does_frame s p (Claim j) now _ is st (idle_entry (Claim j) (λ i. refl) refl (λ i. refl) refl) (claim_frame s p j)
  effect_does s p (Start j) now is st a = does_frame s p (Start j) now _ is st (idle_entry (Start j) (λ i. refl) refl (λ i. refl) refl) (start_frame s j)
  effect_does s p (Enter j grant) now is st a = absurd (no_enter_open s p j grant now is a)
  effect_does s p (Slice j n) now is st a = let t = slice_tells s p j n a in does_run s p j (Slice j n) now _ is st (λ i. refl) refl (λ i. refl) refl t.0 t.1 (leaves_frame s.machine _ (slice_frame s j n))
  effect_does s p (Step j) now is st a = let t = step_tells s p j now is a in does_run s p j (Step j) now (after_step s p j).machine is st (λ i. refl) refl (λ i. refl) refl t.0 t.1 (step_leaves s p j t.2)
  effect_does s p (Exit j) now is st a = does_frame s p (Exit j) now _ is st (idle_entry (Exit j) (λ i. refl) refl (λ i. refl) refl) (exit_frame s p j)
  effect_does s p (Sleep j) now is st a = does_frame s p (Sleep j) now _ is st (idle_entry (Sleep j) (λ i. refl) refl (λ i. refl) refl) (sleep_frame s p j)
  effect_does s p (Wake j) now is st a = does_frame s p (Wake j) now _ is st (idle_entry (Wake j) (λ i. refl) refl (λ i. refl) refl) (wake_frame s p j)
  effect_does s p (Yield j) now is st a = does_frame s p (Yield j) now _ is st (idle_entry (Yield j) (λ i. refl) refl (λ i. refl) refl) (yield_frame s j)
  effect_does s p (Turn j) now is st a = does_turn s p j now is st a
  effect_does s p Meet now is st a = absurd (no_meet_open s p now is a)
  effect_does s p (Pull d) now is st a = does_frame s p (Pull d) now _ is st (idle_entry (Pull d) (λ i. refl) refl (λ i. refl) refl) (pull_frame s d)
  effect_does s p (Begin d id) now is st a = does_frame s p (Begin d id) now _ is st (idle_entry (Begin d id) (λ i. refl) refl (λ i. refl) refl) (begin_frame s p d)
  effect_does s p (Move d id) now is st a = does_frame s p (Move d id) now _ is st (idle_entry (Move d id) (λ i. refl) refl (λ i. refl) refl) (move_frame s d id)
  effect_does s p (Hold d id) now is st a = does_frame s p (Hold d id) now _ is st (idle_entry (Hold d id) (λ i. refl) refl (λ i. refl) refl) (hold_frame s p d id)
  effect_does s p (Put d id ok) now is st a = does_frame s p (Put d id ok) now _ is st (idle_entry (Put d id ok) (λ i. refl) refl (λ i. refl) refl) (put_frame s d id ok)
  effect_does s p (Finish d id) now is st a = does_frame s p (Finish d id) now _ is st (idle_entry (Finish d id) (λ i. refl) refl (λ i. refl) refl) (finish_frame s d id)
  effect_does s p Feed now is st a = does_frame s p Feed now _ is st (idle_entry Feed (λ i. refl) refl (λ i. refl) refl) (feed_frame s)
  effect_does s p Wish now is st a = does_frame s p Wish now _ is st (idle_entry Wish (λ i. refl) refl (λ i. refl) refl) (wish_frame s)
  effect_does s p (Done k) now is st a = does_frame s p (Done k) now _ is st (idle_entry (Done k) (λ i. refl) refl (λ i. refl) refl) (done_frame s)
  effect_does s p (End c) now is st a = does_frame s p (End c) now _ is st (idle_entry (End c) (λ i. refl) refl (λ i. refl) refl) (end_frame s c)
  effect_does s p Close now is st a = does_frame s p Close now _ is st (idle_entry Close (λ i. refl) refl (λ i. refl) refl) (close_frame s)
  effect_does s p (Tick n) now is st a = does_idle s p (Tick n) now (after_tick s n).machine is st (idle_entry (Tick n) (λ i. refl) refl (λ i. refl) refl) (tick_leaves s n)

  after_does : (s : State) (x : Signed) (now : Meeting) → s.machine.meet ≡ Some now → Standing first m s.machine (Some now) → lawful s x.by x.entry ≡ true → Does s x.by x.entry now (after s x).machine
  unfolding after counted lawful
  after_does s x now is st h = effect_does s x.by x.entry now is st (and_parts (not s.closed) (allowed s x.by x.entry) h).1

  -- ---- a piece of history

  record From (s : State) (o : Option Meeting) (xs : List Signed) : Type 0 where
    pub stand : Standing first m (after_all s xs).machine (after_all s xs).machine.meet
    pub turns : (i : ℕ) → one_if (is_through m o i) + count_of (λ t x. is_turn_of i x.entry) s xs ≡ one_if (is_through m (after_all s xs).machine.meet i)
    pub enters : count_of (λ t x. is_enter x.entry) s xs ≡ 0
    pub rests : (i : ℕ) → count_of (runs_turned i) s xs ≡ 0
    pub starter : count_of (runs_by m.by) s xs ≡ 0

  rests_open : (s : State) (x : Signed) (now : Meeting) (i : ℕ) → s.machine.meet ≡ Some now → (is_run_of i x.entry && has now.done i) ≡ false → runs_turned i s x ≡ false
  unfolding runs_turned
  rests_open s x now i e h = ap (λ (o : Option Meeting). is_run_of i x.entry && has_turned o i) e ∙ h

  starter_is : (s : State) (x : Signed) → ((x.by == m.by) && is_run x.entry) ≡ false → runs_by m.by s x ≡ false
  unfolding runs_by
  starter_is s x h = h

  zero_and : (b : Bool) (n : ℕ) → b ≡ false → n ≡ 0 → one_if b + n ≡ 0
  zero_and b n e z = let a : one_if b ≡ 0 = ap one_if e in omega (arith, a, z)

  from_end : (s : State) (o : Option Meeting) → s.machine.meet ≡ o → Standing first m s.machine o → From s o []
  from_end s o e st = record {
    stand = subst (λ (x : Option Meeting). Standing first m s.machine x) (sym e) st;
    turns = λ i. (let b : one_if (is_through m s.machine.meet i) ≡ one_if (is_through m o i) = ap (λ (x : Option Meeting). one_if (is_through m x i)) e in omega (arith, b));
    enters = refl;
    rests = λ i. refl;
    starter = refl;
  }

  from_one : (s : State) (x : Signed) (now : Meeting) (xs : List Signed) → s.machine.meet ≡ Some now → Does s x.by x.entry now (after s x).machine → From (after s x) (after s x).machine.meet xs → From s (Some now) (x ∷ xs)
  from_one s x now xs e d f = record {
    stand = f.stand;
    turns = λ i. (let a = d.turns i in let b = f.turns i in omega (arith, a, b));
    enters = zero_and (is_enter x.entry) _ d.enter f.enters;
    rests = λ i. zero_and (runs_turned i s x) _ (rests_open s x now i e (d.rests i)) (f.rests i);
    starter = zero_and (runs_by m.by s x) _ (starter_is s x d.starter) f.starter;
  }

  from : (s : State) (o : Option Meeting) (xs : List Signed) → s.machine.meet ≡ o → Standing first m s.machine o → is_lawful_all s xs ≡ true → is_open_along s xs ≡ true → From s o xs
  from s o [] e st h k = from_end s o e st
  from s None (x ∷ xs) e st h k = absurd (true≢false (sym (and_parts (is_some s.machine.meet) _ k).0 ∙ ap (λ (o : Option Meeting). is_some o) e))
  from s (Some now) (x ∷ xs) e st h k =
      let t = and_parts (lawful s x.by x.entry) _ h in
      let u = and_parts (is_some s.machine.meet) _ k in
      let d = after_does s x now e st t.0 in
      from_one s x now xs e d (from (after s x) (after s x).machine.meet xs refl d.stand t.1 u.1)

-- ---- how a rendezvous opens

none_done : (i : ℕ) → has finset.empty i ≡ false
none_done i = contains-empty nat_cmp i

opening_stands : (n : MachineState) (m : Meeting) → m.done ≡ finset.empty → Standing n m n (Some m)
opening_stands n m e = record {
  same = (refl, refl, refl);
  inside = λ i h. absurd (clash (has m.done i) h (ap (λ (c : Cpus). has c i) e ∙ none_done i));
  quiet = λ i h. absurd (clash (has m.done i) h (ap (λ (c : Cpus). has c i) e ∙ none_done i));
  count = refl;
  routing = refl;
  modes = λ k i h. absurd (clash (has m.done i) h (ap (λ (c : Cpus). has c i) e ∙ none_done i));
}

-- an entry in a state with no rendezvous leaves it so, or opens one in which nobody is done
abbrev Fresh : Option Meeting → Type 0
Fresh None = Unit {0}
Fresh (Some m) = m.done ≡ finset.empty

fresh_by : (n k : MachineState) → n.meet ≡ None → k.meet ≡ n.meet → Fresh k.meet
fresh_by n k e f = subst (λ (o : Option Meeting). Fresh o) (sym (f ∙ e)) tt

fresh_frame : (n k : MachineState) → n.meet ≡ None → Frame n k → Fresh k.meet
fresh_frame n k e f = fresh_by n k e f.meet

fresh_routed : (p : ℕ) (n k : MachineState) → n.meet ≡ None → Routed p n k → Fresh k.meet
fresh_routed p n k e (stays a b) = fresh_by n k e a
fresh_routed p n k e (opens named a) = subst (λ (o : Option Meeting). Fresh o) (sym a) refl

meet_fresh : (s : State) → Fresh (after_meet s).machine.meet
unfolding after_meet
meet_fresh s = refl

effect_fresh : (s : State) (p : ℕ) (e : Entry) → s.machine.meet ≡ None → allowed s p e ≡ true → Fresh (effect s p e).machine.meet
unfolding allowed effect
effect_fresh s p (Claim j) n a = fresh_frame s.machine _ n (claim_frame s p j)
effect_fresh s p (Start j) n a = fresh_frame s.machine _ n (start_frame s j)
effect_fresh s p (Enter j grant) n a = fresh_by s.machine (after_enter s p j grant).machine n (enter_meet s p j grant)
effect_fresh s p (Slice j k) n a = fresh_frame s.machine _ n (slice_frame s j k)
effect_fresh s p (Step j) n a = fresh_routed p s.machine (after_step s p j).machine n (step_routed s p j)
effect_fresh s p (Exit j) n a = fresh_frame s.machine _ n (exit_frame s p j)
effect_fresh s p (Sleep j) n a = fresh_frame s.machine _ n (sleep_frame s p j)
effect_fresh s p (Wake j) n a = fresh_frame s.machine _ n (wake_frame s p j)
effect_fresh s p (Yield j) n a = fresh_frame s.machine _ n (yield_frame s j)
effect_fresh s p (Turn j) n a = absurd (no_turn s p j n a)
effect_fresh s p Meet n a = meet_fresh s
effect_fresh s p (Pull d) n a = fresh_frame s.machine _ n (pull_frame s d)
effect_fresh s p (Begin d id) n a = fresh_frame s.machine _ n (begin_frame s p d)
effect_fresh s p (Move d id) n a = fresh_frame s.machine _ n (move_frame s d id)
effect_fresh s p (Hold d id) n a = fresh_frame s.machine _ n (hold_frame s p d id)
effect_fresh s p (Put d id ok) n a = fresh_frame s.machine _ n (put_frame s d id ok)
effect_fresh s p (Finish d id) n a = fresh_frame s.machine _ n (finish_frame s d id)
effect_fresh s p Feed n a = fresh_frame s.machine _ n (feed_frame s)
effect_fresh s p Wish n a = fresh_frame s.machine _ n (wish_frame s)
effect_fresh s p (Done k) n a = fresh_frame s.machine _ n (done_frame s)
effect_fresh s p (End c) n a = fresh_frame s.machine _ n (end_frame s c)
effect_fresh s p Close n a = fresh_frame s.machine _ n (close_frame s)
effect_fresh s p (Tick k) n a = fresh_by s.machine (after_tick s k).machine n (tick_frame s k).meet

after_fresh : (s : State) (x : Signed) (m : Meeting) → lawful s x.by x.entry ≡ true → IsOpened s x m → m.done ≡ finset.empty
unfolding after counted lawful
after_fresh s x m h o =
    subst (λ (o : Option Meeting). Fresh o) o.open_now (effect_fresh s x.by x.entry o.none (and_parts (not s.closed) (allowed s x.by x.entry) h).1)

-- ---- all of it

lawful_split : (s : State) (xs ys : List Signed) → is_lawful_all s (xs ++ ys) ≡ true → is_lawful_all (after_all s xs) ys ≡ true
lawful_split s [] ys h = h
lawful_split s (x ∷ xs) ys h = lawful_split (after s x) xs ys (and_parts (lawful s x.by x.entry) _ h).1

excludes_from : (s : State) (m : Meeting) (xs : List Signed) → m.done ≡ finset.empty → From s.machine m s (Some m) xs → Excludes s m xs
excludes_from s m xs e f = record {
  same = f.stand.same;
  turns = λ i. (let a = f.turns i in let z : one_if (has m.done i) ≡ 0 = ap (λ (c : Cpus). one_if (has c i)) e ∙ ap one_if (none_done i) in omega (arith, a, z));
  enters = f.enters;
  rests = f.rests;
  starter = f.starter;
  routing = f.stand.routing;
  modes = f.stand.modes;
}

pub excludes : (start : start_type.Start) (before : List Signed) (x : Signed) (m : Meeting) (xs : List Signed) → IsLegal start (before ++ x ∷ xs)
    → IsOpened (last_state start before) x m → is_open_along (after (last_state start before) x) xs ≡ true
    → (m.done ≡ finset.empty) × Excludes (after (last_state start before) x) m xs
excludes start before x m xs legal o k =
    let s = last_state start before in
    let h = lawful_split (boot start) before (x ∷ xs) legal in
    let t = and_parts (lawful s x.by x.entry) _ h in
    let e = after_fresh s x m t.0 o in
    (e, excludes_from (after s x) m xs e (from (after s x).machine m (after s x) (Some m) xs o.open_now (opening_stands (after s x).machine m e) t.1 k))
