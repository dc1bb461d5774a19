-- Before the end: control's entries that stand before the end by a used up budget bring it nearer, and no entry of
-- another pass takes it further away.
use Rattle.std.proofs.Common.{◌≡◌, ℕ, zero, suc, ◌+◌, ◌-◌, ◌<◌, ◌≤◌, Bool, true, false, not, List, length, get_or, set, drop, refl, sym, ap, ◌∙◌, inl, inr, ◌⊎◌, arith, Option, Some, None}
use Rattle.std.specs.Prelude.{slice_index, Result, Ok, Err, if◌then◌else◌}
use Rattle.std.proofs.Math.ListN.{length-set}
use Rattle.std.proofs.lemmas.List.{get_or-set_other, set_past, length-drop}
use Rattle.std.proofs.lemmas.List.Sums.{get_or-le-sum_by}
use Rattle.std.proofs.lemmas.Bool.{cases_eq, cases_lt, and_parts, true≢false}
use Rattle.std.proofs.lemmas.Bool.Decides.{nat_tests}
use Rattle.std.proofs.lemmas.Grind.{common_steps, get_or-set_at}
use Rattle.vm_law.specs.declared.context.Ctx.{Ctx}
use Rattle.vm_law.specs.declared.context.Stop.{Stop}
use Rattle.vm_law.specs.declared.insn.Insn.{Insn}
use Rattle.vm_law.specs.declared.journal.EndCause.{EndCause}
use Rattle.vm_law.specs.declared.journal.Entry.{Entry}
use Rattle.vm_law.specs.declared.journal.Entry.TheVariants.{Claim, Start, Enter, Slice, Step, Exit, Sleep, Wake, Yield, Turn, Meet, Pull, Begin, Move, Hold, Put, Finish, Feed, Wish, Done, End, Close, Tick}
use Rattle.vm_law.specs.declared.journal.Signed.{Signed}
use Rattle.vm_law.specs.declared.stage.Owned.{Owned}
use Rattle.vm_law.specs.declared.stage.Owned.TheVariants.{Idle, Frozen, Running, Sleeping}
use Rattle.vm_lapic.specs.Apic.{ready}
use Rattle.vm_uart.specs.Uart as uart
use Rattle.vm_vblk.specs.Queue as vblk
use Rattle.x86_exec.specs.declared.effect.Effect.{Effect}
use Rattle.x86_exec.specs.declared.effect.Effect.TheVariants as effect
use Rattle.x86_exec.specs.Shared as exec
use Rattle.x86_fetch.specs.declared.fetching.Next.{Next}
use Rattle.x86_fetch.specs.declared.fetching.Next.TheVariants.{Local, Shared, Undefined, OutOfCode}
use Rattle.x86_trap.specs.Delivery.{delivered, Delivered}
use Rattle.blk_queue.specs.declared.progress.Finished.{Finished}
use Rattle.blk_queue.specs.declared.progress.Unfinished.{Unfinished}
use Rattle.blk_queue.specs.Progress.{told}
use Rattle.blk_queue.specs.Queue.{request_of}
use Rattle.vm_meet.specs.Meeting.{awaits, turned}
use Rattle.vm_meet.specs.declared.meeting.Meeting.{Meeting}
use Rattle.vm_state.specs.declared.cpu.Cpu.{Cpu}
use Rattle.vm_state.specs.declared.cpu.Seat.{Seat}
use Rattle.vm_state.specs.declared.drive.Drive.{Drive}
use Rattle.vm_state.specs.Machine.{MachineState, cpu_at, cpu_count, with_cpu, drive_at, with_drive, unstarted_cpu, is_idle, is_frozen, is_running, is_sleeping, takes_nmi, takes_vector, uart_pin}
use Rattle.vm_state.specs.Sound.{IsSoundState}
use Rattle.vm_state.specs.State.{State, seat_at, empty_seat, open_grants, with_machine, with_seat}
use Rattle.vm_owners.specs.Owners.{may_claim, after_claim, after_start, may_exit, after_exit, may_sleep, after_sleep, may_wake, after_wake, may_yield, after_yield}
use Rattle.vm_owners.specs.Turn.{may_turn, turn_taken, turn_in, after_turn}
use Rattle.vm_devices.specs.Ports.{port_read, port_written, with_serial}
use Rattle.vm_devices.specs.Windows.{with_window, window_written}
use Rattle.vm_running.specs.Enter.{stopped_at, may_enter, entered, settled, delivered_in, taken, nmi_taken, vector_taken, interrupt_taken, after_enter}
use Rattle.vm_running.specs.Slice.{spent, after_slice}
use Rattle.vm_running.specs.Step.{next_at, may_step, stepped_to, stored_in, after_trap, trapped, performed_as, performed, after_step, printed, port_in, port_out, window_load, window_store, has_step}
use Rattle.vm_disks.specs.Queueing.{pulled_in, after_pull, after_begin}
use Rattle.vm_disks.specs.Moving.{read_in, after_move, told_driver, finished_as, after_finish}
use Rattle.vm_disks.specs.Images.{written_out, after_hold, after_put}
use Rattle.vm_orders.specs.Duties.{may_meet, may_feed, after_feed, may_wish, may_tick}
use Rattle.vm_orders.specs.Done.{may_done}
use Rattle.vm_orders.specs.Ending.{may_end, may_close}
use Rattle.vm_table.specs.Table.{allowed, lawful, effect, counted, after}
use Rattle.vm_laws.specs.Ending.{sum_below}
use Rattle.vm_laws.specs.Waiting.{to_take, take_at, turn_at, before_end, IsEarly}
use Rattle.vm_laws.proofs.Heard.{Hears, cpu_set, hears_followed}
use Rattle.vm_laws.proofs.Accesses.{Accessed, accessed_window, accessed_read, accessed_written}
use Rattle.vm_laws.proofs.Needs.{TurnTaken, taken_turn, taken_meet, turned_awaits, turned_done}
use Rattle.vm_laws.proofs.Sums.{sum_le, sum_less}

-- ---- nothing is further away

pub record Eases (s t : State) : Type 0 where
  pub count : cpu_count t.machine ≡ cpu_count s.machine
  pub take : (k : ℕ) → take_at t k ≤ take_at s k
  pub turn : (k : ℕ) → turn_at t k ≤ turn_at s k
  pub input : length t.input ≤ length s.input
  pub left : t.limit - t.executed ≤ s.limit - s.executed

pub eases_le : (s t : State) → Eases s t → before_end t ≤ before_end s
unfolding before_end
eases_le s t e =
    let a = sum_le (take_at t) (take_at s) (cpu_count s.machine) (λ k l. e.take k) in
    let b = sum_le (turn_at t) (turn_at s) (cpu_count s.machine) (λ k l. e.turn k) in
    let c : sum_below (take_at t) (cpu_count t.machine) ≡ sum_below (take_at t) (cpu_count s.machine) = ap (λ n. sum_below (take_at t) n) e.count in
    let d : sum_below (turn_at t) (cpu_count t.machine) ≡ sum_below (turn_at t) (cpu_count s.machine) = ap (λ n. sum_below (turn_at t) n) e.count in
    let i = e.input in
    let l = e.left in
    omega (arith, a, b, c, d, i, l)

-- what is looked at stays
record Quiet (s t : State) : Type 0 where
  pub count : cpu_count t.machine ≡ cpu_count s.machine
  pub stage : (k : ℕ) → (cpu_at t.machine k).stage ≡ (cpu_at s.machine k).stage
  pub pause : t.machine.pause ≡ s.machine.pause
  pub meet : t.machine.meet ≡ s.machine.meet
  pub input : t.input ≡ s.input
  pub executed : t.executed ≡ s.executed
  pub limit : t.limit ≡ s.limit

take_same : (s t : State) → t.machine.pause ≡ s.machine.pause → ((k : ℕ) → (cpu_at t.machine k).stage ≡ (cpu_at s.machine k).stage) → (k : ℕ) → take_at t k ≡ take_at s k
unfolding take_at
take_same s t p st k = ap (λ b. to_take b (cpu_at t.machine k).stage) p ∙ ap (λ x. to_take s.machine.pause x) (st k)

turn_same : (s t : State) → t.machine.meet ≡ s.machine.meet → (k : ℕ) → turn_at t k ≡ turn_at s k
unfolding turn_at
turn_same s t m k = ap {B = ℕ} (λ (x : Option Meeting). if awaits x k then 1 else 0) m

eases_quiet : (s t : State) → Quiet s t → Eases s t
eases_quiet s t e = record {
  count = e.count;
  take = λ k. (let x = take_same s t e.pause e.stage k in omega (arith, x));
  turn = λ k. (let x = turn_same s t e.meet k in omega (arith, x));
  input = (let x = ap (λ (l : List ℕ). length l) e.input in omega (arith, x));
  left = (let x = e.executed in let y = e.limit in omega (arith, x, y));
}

-- ---- one vCPU goes to another stage

take_set : (s : State) (i : ℕ) (c : Cpu) → to_take s.machine.pause c.stage ≤ to_take s.machine.pause (cpu_at s.machine i).stage → (k : ℕ) → take_at (with_machine s (with_cpu s.machine i c)) k ≤ take_at s k
unfolding take_at
take_set s i c h k =
    elim (cases_eq k i) [
      | inr other ↦ rw (get_or-set_other s.machine.cpus i k c (unstarted_cpu k) other) (omega arith)
      | inl same ↦
          elim (cases_lt i (length s.machine.cpus)) [
            | inl l ↦ rw (get_or-set_at s.machine.cpus i k c (unstarted_cpu k) same l, same) h
            | inr past ↦ rw (set_past s.machine.cpus i c past) (omega arith)
          ]
    ]

take_set_at : (s : State) (i : ℕ) (c : Cpu) → to_take s.machine.pause c.stage ≤ to_take s.machine.pause (cpu_at s.machine i).stage → (k : ℕ) → to_take s.machine.pause (cpu_at (with_cpu s.machine i c) k).stage ≤ to_take s.machine.pause (cpu_at s.machine k).stage
unfolding take_at
take_set_at s i c h k = take_set s i c h k

-- and its seat may be another, and more may have been executed
stage_eases : (s : State) (i : ℕ) (c : Cpu) (x : Seat) (n : ℕ) → to_take s.machine.pause c.stage ≤ to_take s.machine.pause (cpu_at s.machine i).stage → s.executed ≤ n → Eases s (record (with_seat (with_machine s (with_cpu s.machine i c)) i x) { executed = n })
unfolding take_at turn_at
stage_eases s i c x n h e = record {
  count = length-set s.machine.cpus i c;
  take = λ k. take_set_at s i c h k;
  turn = λ k. omega arith;
  input = omega arith;
  left = omega (arith, e);
}

alone_eases : (s : State) (i : ℕ) (c : Cpu) → to_take s.machine.pause c.stage ≤ to_take s.machine.pause (cpu_at s.machine i).stage → Eases s (with_machine s (with_cpu s.machine i c))
unfolding take_at turn_at
alone_eases s i c h = record {
  count = length-set s.machine.cpus i c;
  take = λ k. take_set_at s i c h k;
  turn = λ k. omega arith;
  input = omega arith;
  left = omega arith;
}

-- neither stage is frozen by control
take_kept : (b : Bool) (st next : Owned) → is_frozen st 0 ≡ false → is_frozen next 0 ≡ false → to_take b next ≤ to_take b st
take_kept true st next f g = rw (f, g) (omega arith)
take_kept false st next f g = rw (f, g) (omega arith)

apart : (st : Owned) (p : ℕ) → is_frozen st p ≡ true → 0 < p → is_frozen st 0 ≡ false
apart Idle p h l = refl
apart (Frozen q) p h l = grind (arith, nat_tests)
apart (Running q) p h l = refl
apart (Sleeping q) p h l = refl

of_idle : (st : Owned) → is_idle st ≡ true → is_frozen st 0 ≡ false
of_idle Idle h = refl
of_idle (Frozen q) h = absurd (true≢false (sym h))
of_idle (Running q) h = refl
of_idle (Sleeping q) h = refl

of_running : (st : Owned) (p : ℕ) → is_running st p ≡ true → is_frozen st 0 ≡ false
of_running Idle p h = refl
of_running (Frozen q) p h = absurd (true≢false (sym h))
of_running (Running q) p h = refl
of_running (Sleeping q) p h = refl

of_sleeping : (st : Owned) (p : ℕ) → is_sleeping st p ≡ true → is_frozen st 0 ≡ false
of_sleeping Idle p h = refl
of_sleeping (Frozen q) p h = absurd (true≢false (sym h))
of_sleeping (Running q) p h = refl
of_sleeping (Sleeping q) p h = refl

not_control : (p : ℕ) → 0 < p → is_frozen (Frozen p) 0 ≡ false
not_control p l = grind (arith, nat_tests)

claim_tells : (s : State) (p i : ℕ) → may_claim s p i ≡ true → is_idle (cpu_at s.machine i).stage ≡ true
unfolding may_claim
claim_tells s p i m = grind (arith, nat_tests, common_steps, and_parts)

claim_eases : (s : State) (p i : ℕ) → 0 < p → may_claim s p i ≡ true → Eases s (after_claim s p i)
unfolding after_claim
claim_eases s p i l m = alone_eases s i (record (cpu_at s.machine i) { stage = Frozen p }) (take_kept s.machine.pause (cpu_at s.machine i).stage (Frozen p) (of_idle (cpu_at s.machine i).stage (claim_tells s p i m)) (not_control p l))

start_eases : (s : State) (i : ℕ) → Eases s (after_start s i)
unfolding after_start
start_eases s i = alone_eases s i _ (omega arith)

exit_tells : (s : State) (p i : ℕ) → may_exit s p i ≡ true → is_running (cpu_at s.machine i).stage p ≡ true
unfolding may_exit
exit_tells s p i m = grind (arith, nat_tests, common_steps, and_parts)

exit_eases : (s : State) (p i : ℕ) → 0 < p → may_exit s p i ≡ true → Eases s (after_exit s p i)
unfolding after_exit
exit_eases s p i l m =
    stage_eases s i (record (cpu_at s.machine i) { stage = Frozen p }) (record (seat_at s i) { left = 0; stayed = false }) s.executed
    (take_kept s.machine.pause (cpu_at s.machine i).stage (Frozen p) (of_running (cpu_at s.machine i).stage p (exit_tells s p i m)) (not_control p l)) (omega arith)

sleep_tells : (s : State) (p i : ℕ) → may_sleep s p i ≡ true → is_frozen (cpu_at s.machine i).stage p ≡ true
unfolding may_sleep
sleep_tells s p i m = grind (arith, nat_tests, common_steps, and_parts)

sleep_eases : (s : State) (p i : ℕ) → 0 < p → may_sleep s p i ≡ true → Eases s (after_sleep s p i)
unfolding after_sleep
sleep_eases s p i l m = alone_eases s i (record (cpu_at s.machine i) { stage = Sleeping p }) (take_kept s.machine.pause (cpu_at s.machine i).stage (Sleeping p) (apart (cpu_at s.machine i).stage p (sleep_tells s p i m) l) refl)

wake_tells : (s : State) (p i : ℕ) → may_wake s p i ≡ true → is_sleeping (cpu_at s.machine i).stage p ≡ true
unfolding may_wake
wake_tells s p i m = grind (arith, nat_tests, common_steps, and_parts)

wake_eases : (s : State) (p i : ℕ) → 0 < p → may_wake s p i ≡ true → Eases s (after_wake s p i)
unfolding after_wake
wake_eases s p i l m = alone_eases s i (record (cpu_at s.machine i) { stage = Frozen p }) (take_kept s.machine.pause (cpu_at s.machine i).stage (Frozen p) (of_sleeping (cpu_at s.machine i).stage p (wake_tells s p i m)) (not_control p l))

yield_tells : (s : State) (p i : ℕ) → may_yield s p i ≡ true → is_frozen (cpu_at s.machine i).stage p ≡ true
unfolding may_yield
yield_tells s p i m = grind (arith, nat_tests, common_steps, and_parts)

yield_eases : (s : State) (p i : ℕ) → 0 < p → may_yield s p i ≡ true → Eases s (after_yield s i)
unfolding after_yield
yield_eases s p i l m = alone_eases s i (record (cpu_at s.machine i) { stage = Idle }) (take_kept s.machine.pause (cpu_at s.machine i).stage Idle (apart (cpu_at s.machine i).stage p (yield_tells s p i m) l) refl)

slice_eases : (s : State) (i n : ℕ) → Eases s (after_slice s i n)
unfolding after_slice spent
slice_eases s i n = stage_eases s i _ _ (s.executed + n) (omega arith) (omega arith)

-- ---- Enter

then_eases : (s t u : State) → Eases s t → Eases t u → Eases s u
then_eases s t u a b = record {
  count = b.count ∙ a.count;
  take = λ k. (let x = a.take k in let y = b.take k in omega (arith, x, y));
  turn = λ k. (let x = a.turn k in let y = b.turn k in omega (arith, x, y));
  input = (let x = a.input in let y = b.input in omega (arith, x, y));
  left = (let x = a.left in let y = b.left in omega (arith, x, y));
}

eases_itself : (s : State) → Eases s s
eases_itself s = record { count = refl; take = λ k. omega arith; turn = λ k. omega arith; input = omega arith; left = omega arith }

stop_eases : (s : State) (i : ℕ) (why : Stop) → Eases s (stopped_at s i why)
unfolding stopped_at take_at turn_at
stop_eases s i why = record { count = refl; take = λ k. omega arith; turn = λ k. omega arith; input = omega arith; left = omega arith }

settled_eases : (s : State) (i : ℕ) (d : Delivered) (r : Result (Unit {0}) Stop) → Eases s (settled s i d r)
unfolding settled take_at turn_at
settled_eases s i d (Ok u) = (let k = alone_eases s i (record (cpu_at s.machine i) { ctx = d.ctx }) (omega arith) in record { count = k.count; take = λ j. take_set_at s i (record (cpu_at s.machine i) { ctx = d.ctx }) (omega arith) j; turn = λ j. omega arith; input = omega arith; left = omega arith })
settled_eases s i d (Err why) = stop_eases s i why

taken_eases : (s : State) (i : ℕ) (c : Cpu) (v : ℕ) (nmi : Bool) → c.stage ≡ (cpu_at s.machine i).stage → Eases s (delivered_in (taken s i c) i v nmi)
taken_eases s i c v nmi e =
    let t = taken s i c in
    let d = delivered (cpu_at t.machine i).ctx t.machine.ram v None nmi in
    then_eases s t _ (stage_eases s i c (record (seat_at s i) { stayed = true }) s.executed (let x = ap (λ (st : Owned). to_take s.machine.pause st) e in omega (arith, x)) (omega arith)) (settled_eases t i d d.answer)

nmi_eases : (s : State) (i : ℕ) → Eases s (nmi_taken s i)
unfolding nmi_taken
nmi_eases s i = taken_eases s i (record (cpu_at s.machine i) { nmi = false }) 2 true refl

vector_eases : (s : State) (i : ℕ) (o : Option ℕ) → Eases s (vector_taken s i o)
unfolding vector_taken
vector_eases s i None = eases_itself s
vector_eases s i (Some v) = taken_eases s i _ v false refl

interrupt_if : (s : State) (i : ℕ) (a b : Bool) → Eases s (if a then nmi_taken s i else if b then vector_taken s i (ready (cpu_at s.machine i).lapic) else s)
interrupt_if s i true b = nmi_eases s i
interrupt_if s i false true = vector_eases s i _
interrupt_if s i false false = eases_itself s

interrupt_eases : (s : State) (i : ℕ) → Eases s (interrupt_taken s i)
unfolding interrupt_taken
interrupt_eases s i = interrupt_if s i (takes_nmi (cpu_at s.machine i)) (takes_vector (cpu_at s.machine i))

enter_tells : (s : State) (p i grant : ℕ) → may_enter s p i grant ≡ true → is_frozen (cpu_at s.machine i).stage p ≡ true
unfolding may_enter
enter_tells s p i grant m = grind (arith, nat_tests, common_steps, and_parts)

entered_eases : (s : State) (p i grant : ℕ) → 0 < p → is_frozen (cpu_at s.machine i).stage p ≡ true → Eases s (entered s p i grant)
unfolding entered
entered_eases s p i grant l f =
    stage_eases s i (record (cpu_at s.machine i) { stage = Running p; halted = false }) (record (seat_at s i) { left = grant; stayed = false }) s.executed
    (take_kept s.machine.pause (cpu_at s.machine i).stage (Running p) (apart (cpu_at s.machine i).stage p f l) refl) (omega arith)

enter_eases : (s : State) (p i grant : ℕ) → 0 < p → may_enter s p i grant ≡ true → Eases s (after_enter s p i grant)
unfolding after_enter
enter_eases s p i grant l m = then_eases s (entered s p i grant) _ (entered_eases s p i grant l (enter_tells s p i grant m)) (interrupt_eases (entered s p i grant) i)

-- ---- Step: an instruction pays for the turns of a rendezvous that it may open

record StepsOn (s t : State) : Type 0 where
  pub count : cpu_count t.machine ≡ cpu_count s.machine
  pub take : (k : ℕ) → take_at t k ≡ take_at s k
  pub input : t.input ≡ s.input
  pub limit : t.limit ≡ s.limit
  pub executed : t.executed ≡ s.executed + 1

one_turn : (s : State) (k : ℕ) → turn_at s k ≤ 1
unfolding turn_at
one_turn s k = elim (awaits s.machine.meet k) as (λ b. (if b then 1 else 0) ≤ 1) [ true ↦ omega arith | false ↦ omega arith ]

turns_le : (s : State) (n : ℕ) → sum_below (turn_at s) n ≤ n
turns_le s zero = omega arith
turns_le s (suc n) = let a = turns_le s n in let b = one_turn s n in omega (arith, a, b)

steps_on_le : (s t : State) → cpu_count s.machine ≤ 16 → s.executed < s.limit → StepsOn s t → before_end t ≤ before_end s
unfolding before_end
steps_on_le s t most room e =
    let a = sum_le (take_at t) (take_at s) (cpu_count s.machine) (λ k l. let x = e.take k in omega (arith, x)) in
    let b = turns_le t (cpu_count s.machine) in
    let c : sum_below (take_at t) (cpu_count t.machine) ≡ sum_below (take_at t) (cpu_count s.machine) = ap (λ n. sum_below (take_at t) n) e.count in
    let d : sum_below (turn_at t) (cpu_count t.machine) ≡ sum_below (turn_at t) (cpu_count s.machine) = ap (λ n. sum_below (turn_at t) n) e.count in
    let i : length t.input ≡ length s.input = ap (λ (l : List ℕ). length l) e.input in
    let x = e.executed in
    let y = e.limit in
    omega (arith, most, room, a, b, c, d, i, x, y)

stage_after : (m : MachineState) (i : ℕ) (c : Cpu) → c.stage ≡ (cpu_at m i).stage → (k : ℕ) → (cpu_at (with_cpu m i c) k).stage ≡ (cpu_at m k).stage
stage_after m i c e k = cpu_set (λ x y. y.stage ≡ x.stage) m i c (λ k. refl) e k

stepped_on : (s t : State) (i : ℕ) (c : Ctx) (halted : Bool) → Accessed s t → StepsOn s (stepped_to t i c halted)
unfolding stepped_to spent take_at
stepped_on s t i c halted a = record {
  count = length-set t.machine.cpus i _ ∙ a.machine.count;
  take = λ k.
      (ap (λ b. to_take b (cpu_at (with_cpu t.machine i (record (cpu_at t.machine i) { ctx = c; halted = halted })) k).stage) a.machine.pause
      ∙ ap (λ (st : Owned). to_take s.machine.pause st) (stage_after t.machine i (record (cpu_at t.machine i) { ctx = c; halted = halted }) refl k ∙ (a.machine.each k).stage));
  input = a.input;
  limit = a.limit;
  executed = ap (λ n. n + 1) a.executed;
}

abbrev Goes : State → State → Type 0
Goes s t = Eases s t ⊎ StepsOn s t

-- an instruction that reaches no device: the context, memory and the versions of pages change
touched_on : (s t : State) (i : ℕ) (c : Ctx) (halted : Bool) → t.machine.cpus ≡ s.machine.cpus → t.machine.pause ≡ s.machine.pause → t.input ≡ s.input → t.limit ≡ s.limit → t.executed ≡ s.executed → StepsOn s (stepped_to t i c halted)
unfolding stepped_to spent take_at
touched_on s t i c halted cs p inp lim ex = record {
  count = length-set t.machine.cpus i _ ∙ ap (λ (xs : List Cpu). length xs) cs;
  take = λ k.
      (ap (λ b. to_take b (cpu_at (with_cpu t.machine i (record (cpu_at t.machine i) { ctx = c; halted = halted })) k).stage) p
      ∙ ap (λ (st : Owned). to_take s.machine.pause st) (stage_after t.machine i (record (cpu_at t.machine i) { ctx = c; halted = halted }) refl k ∙ ap (λ (xs : List Cpu). (get_or xs k (unstarted_cpu k)).stage) cs));
  input = inp;
  limit = lim;
  executed = ap (λ n. n + 1) ex;
}

stored_goes : (s : State) (i : ℕ) (x : exec.Shared) → StepsOn s (stepped_to (stored_in s x) i x.ctx false)
stored_goes s i x = touched_on s (stored_in s x) i x.ctx false refl refl refl refl refl

trap_goes : (s : State) (i : ℕ) (d : Delivered) (r : Result (Unit {0}) Stop) → Goes s (after_trap s i d r)
trap_goes s i d (Ok u) = inr (touched_on s _ i d.ctx false refl refl refl refl refl)
trap_goes s i d (Err why) = inl (stop_eases s i why)

trapped_goes : (s : State) (i rip v : ℕ) (error : Option ℕ) → Goes s (trapped s i rip v error)
unfolding trapped
trapped_goes s i rip v error = let d = delivered (record (cpu_at s.machine i).ctx { rip = rip }) s.machine.ram v error false in trap_goes s i d d.answer

printed_accessed : (s : State) (m : MachineState) (byte : Option ℕ) → Accessed s (with_machine s m) → Accessed s (printed (with_machine s m) byte)
printed_accessed s m byte a = record { machine = a.machine; seats = a.seats; images = a.images; image = a.image; versions = a.versions; executed = a.executed; seen = a.seen; limit = a.limit; input = a.input; ended = a.ended; closed = a.closed }

plain_goes : (s : State) (i : ℕ) (c : Ctx) (halted : Bool) → Goes s (stepped_to s i c halted)
plain_goes s i c halted = inr (touched_on s s i c halted refl refl refl refl refl)

performed_as_goes : (s : State) (p i : ℕ) (insn : Insn) (len : ℕ) (x : exec.Shared) (e : Effect) → Goes s (performed_as s p i insn len x e)
unfolding performed_as port_in port_out window_load window_store
performed_as_goes s p i insn len x effect.Done = inr (stored_goes s i x)
performed_as_goes s p i insn len x effect.Halt = plain_goes s i x.ctx true
performed_as_goes s p i insn len x (effect.Trap v error) = trapped_goes s i _ v error
performed_as_goes s p i insn len x (effect.Stop why) = inl (stop_eases s i why)
performed_as_goes s p i insn len x (effect.PortIn port w) = inr (stepped_on s (with_machine s (port_read s.machine port w)) i _ false (accessed_read s port w))
performed_as_goes s p i insn len x (effect.PortOut port w value) = inr (stepped_on s _ i x.ctx false (printed_accessed s (port_written s.machine port w value) _ (accessed_written s port w value)))
performed_as_goes s p i insn len x (effect.Load a) = plain_goes s i _ false
performed_as_goes s p i insn len x (effect.Store a value) = inr (stepped_on s (window_written s p i a value) i x.ctx false (accessed_window s p i a value))

performed_goes : (s : State) (p i : ℕ) (n : Next) → Goes s (performed s p i n)
unfolding performed
performed_goes s p i (Local insn len) = inl (eases_itself s)
performed_goes s p i (Shared insn len) = let x = exec.shared (cpu_at s.machine i).ctx insn len s.machine.ram in performed_as_goes s p i insn len x x.effect
performed_goes s p i Undefined = trapped_goes s i _ 6 None
performed_goes s p i OutOfCode = inl (stop_eases s i _)

goes_le : (s t : State) → cpu_count s.machine ≤ 16 → s.executed < s.limit → Goes s t → before_end t ≤ before_end s
goes_le s t most room (inl e) = eases_le s t e
goes_le s t most room (inr e) = steps_on_le s t most room e

left_le_open : (seats : List Seat) (i : ℕ) → i < length seats → (get_or seats i empty_seat).left ≤ open_grants seats
unfolding open_grants
left_le_open seats i l = get_or-le-sum_by (λ (x : Seat). x.left) seats i empty_seat l

left_within : (s : State) (i : ℕ) → IsSoundState s → i < cpu_count s.machine → 1 ≤ (seat_at s i).left → s.executed < s.limit
left_within s i h l some =
    let long = h.seats.count in
    let g = h.counts.granted in
    let a = left_le_open s.seats i (omega (arith, long, l)) in
    omega (arith, a, g, some)

step_tells : (s : State) (p i : ℕ) → may_step s p i ≡ true → (i < cpu_count s.machine) × (1 ≤ (seat_at s i).left)
unfolding may_step has_step
step_tells s p i m = (grind (arith, nat_tests, common_steps, and_parts), grind (arith, nat_tests, common_steps, and_parts))

step_le : (s : State) (p i : ℕ) → IsSoundState s → may_step s p i ≡ true → before_end (after_step s p i) ≤ before_end s
unfolding after_step
step_le s p i h m =
    let t = step_tells s p i m in
    goes_le s (performed s p i (next_at s i)) h.machine.cpus (left_within s i h t.0 t.1) (performed_goes s p i (next_at s i))

-- ---- a turn

bit_le : (a b : Bool) → (a ≡ true → b ≡ true) → (if a then 1 else 0) ≤ (if b then 1 else 0)
bit_le true true h = omega arith
bit_le true false h = absurd (true≢false (sym (h refl)))
bit_le false true h = omega arith
bit_le false false h = omega arith

abbrev bit_of : Option Meeting → ℕ → ℕ
bit_of o k = if awaits o k then 1 else 0

meet_less : (s t : State) (i : ℕ) (meet : Option Meeting) → TurnTaken s t → i < cpu_count s.machine → ((k : ℕ) → awaits meet k ≡ true → awaits s.machine.meet k ≡ true) → awaits meet i ≡ false → awaits s.machine.meet i ≡ true
    → before_end (with_machine t (record t.machine { meet = meet })) < before_end s
unfolding before_end take_at turn_at
meet_less s t i meet e l less over was =
    let one : bit_of meet i < bit_of s.machine.meet i = rw (over, was) (omega arith) in
    let a = sum_less (bit_of meet) (bit_of s.machine.meet) (cpu_count s.machine) i l one (λ k b. bit_le (awaits meet k) (awaits s.machine.meet k) (less k)) in
    let b : sum_below (bit_of meet) (cpu_count t.machine) ≡ sum_below (bit_of meet) (cpu_count s.machine) = ap (λ n. sum_below (bit_of meet) n) e.count in
    let took : ℕ → ℕ = λ k. to_take t.machine.pause (cpu_at t.machine k).stage in
    let takes : ℕ → ℕ = λ k. to_take s.machine.pause (cpu_at s.machine k).stage in
    let c = sum_le took takes (cpu_count s.machine) (λ k b. let x = ap (λ p. to_take p (cpu_at t.machine k).stage) e.control.0 ∙ ap (λ y. to_take s.machine.pause y) (e.stage k) in omega (arith, x)) in
    let d : sum_below took (cpu_count t.machine) ≡ sum_below took (cpu_count s.machine) = ap (λ n. sum_below took n) e.count in
    let f : length t.input ≡ length s.input = ap (λ (l : List ℕ). length l) e.control.1 in
    let x = e.control.2 in
    let y = e.control.3 in
    omega (arith, a, b, c, d, f, x, y)

turn_at_less : (s : State) (i : ℕ) (m : Meeting) → s.machine.meet ≡ Some m → i < cpu_count s.machine → awaits (Some m) i ≡ true → before_end (turn_in s i (Some m)) < before_end s
turn_at_less s i m e l aw =
    let t = turn_taken s i m.kind in
    let meet : Option Meeting = turned t.machine.meet i in
    let same : meet ≡ turned (Some m) i = ap (λ (x : Option Meeting). turned x i) (taken_meet s i m.kind ∙ e) in
    let less : (j : ℕ) → awaits meet j ≡ true → awaits s.machine.meet j ≡ true = λ j h. ap (λ (x : Option Meeting). awaits x j) e ∙ turned_awaits m i j (sym (ap (λ (x : Option Meeting). awaits x j) same) ∙ h) in
    let over : awaits meet i ≡ false = ap (λ (x : Option Meeting). awaits x i) same ∙ turned_done m i in
    meet_less s t i meet (taken_turn s i m.kind) l less over (ap (λ (x : Option Meeting). awaits x i) e ∙ aw)

turn_in_less : (s : State) (i : ℕ) (m : Option Meeting) → s.machine.meet ≡ m → i < cpu_count s.machine → awaits m i ≡ true → before_end (turn_in s i m) < before_end s
turn_in_less s i None e l aw = absurd (true≢false (sym aw))
turn_in_less s i (Some m) e l aw = turn_at_less s i m e l aw

turn_tells : (s : State) (p i : ℕ) → may_turn s p i ≡ true → (i < cpu_count s.machine) × (awaits s.machine.meet i ≡ true)
unfolding may_turn
turn_tells s p i m = (grind (arith, nat_tests, common_steps, and_parts), grind (arith, nat_tests, common_steps, and_parts))

turn_less : (s : State) (p i : ℕ) → may_turn s p i ≡ true → before_end (after_turn s i) < before_end s
unfolding after_turn
turn_less s p i m = let t = turn_tells s p i m in turn_in_less s i s.machine.meet refl t.0 t.1

-- ---- control's Yield, Claim and Feed

take_less : (s : State) (i : ℕ) (c : Cpu) → i < cpu_count s.machine → to_take s.machine.pause c.stage < to_take s.machine.pause (cpu_at s.machine i).stage → before_end (with_machine s (with_cpu s.machine i c)) < before_end s
unfolding before_end take_at turn_at
take_less s i c l h =
    let new : ℕ → ℕ = λ k. to_take s.machine.pause (cpu_at (with_cpu s.machine i c) k).stage in
    let old : ℕ → ℕ = λ k. to_take s.machine.pause (cpu_at s.machine k).stage in
    let one : new i < old i = rw (get_or-set_at s.machine.cpus i i c (unstarted_cpu i) refl l) h in
    let a = sum_less new old (cpu_count s.machine) i l one (λ k b. take_set_at s i c (omega (arith, h)) k) in
    let n = length-set s.machine.cpus i c in
    let x : sum_below new (length (set s.machine.cpus i c)) ≡ sum_below new (cpu_count s.machine) = ap (λ n. sum_below new n) n in
    let y : sum_below (bit_of s.machine.meet) (length (set s.machine.cpus i c)) ≡ sum_below (bit_of s.machine.meet) (cpu_count s.machine) = ap (λ n. sum_below (bit_of s.machine.meet) n) n in
    omega (arith, a, x, y)

gives_up : (b : Bool) (st : Owned) → b ≡ false → is_frozen st 0 ≡ true → to_take b Idle < to_take b st
gives_up true st e f = absurd (true≢false e)
gives_up false st e f = rw f (omega arith)

takes : (b : Bool) (st : Owned) → b ≡ true → is_idle st ≡ true → to_take b (Frozen 0) < to_take b st
takes false st e f = absurd (true≢false (sym e))
takes true Idle e f = omega arith
takes true (Frozen p) e f = absurd (true≢false (sym f))
takes true (Running p) e f = absurd (true≢false (sym f))
takes true (Sleeping p) e f = absurd (true≢false (sym f))

yield_parts : (s : State) (i : ℕ) → s.ended ≡ None → may_yield s 0 i ≡ true → (i < cpu_count s.machine) × (is_frozen (cpu_at s.machine i).stage 0 ≡ true) × (s.machine.pause ≡ false)
unfolding may_yield
yield_parts s i e m = (grind (arith, nat_tests, common_steps, and_parts), grind (arith, nat_tests, common_steps, and_parts), grind (arith, nat_tests, common_steps, and_parts))

yield_less : (s : State) (i : ℕ) → s.ended ≡ None → may_yield s 0 i ≡ true → before_end (after_yield s i) < before_end s
unfolding after_yield
yield_less s i e m = let t = yield_parts s i e m in take_less s i (record (cpu_at s.machine i) { stage = Idle }) t.0 (gives_up s.machine.pause (cpu_at s.machine i).stage t.2 t.1)

claim_parts : (s : State) (i : ℕ) → may_claim s 0 i ≡ true → (i < cpu_count s.machine) × (is_idle (cpu_at s.machine i).stage ≡ true) × (s.machine.pause ≡ true)
unfolding may_claim
claim_parts s i m = (grind (arith, nat_tests, common_steps, and_parts), grind (arith, nat_tests, common_steps, and_parts), grind (arith, nat_tests, common_steps, and_parts))

claim_less : (s : State) (i : ℕ) → may_claim s 0 i ≡ true → before_end (after_claim s 0 i) < before_end s
unfolding after_claim
claim_less s i m = let t = claim_parts s i m in take_less s i (record (cpu_at s.machine i) { stage = Frozen 0 }) t.0 (takes s.machine.pause (cpu_at s.machine i).stage t.2 t.1)

serial_quiet : (s : State) (u : uart.Serial) → Quiet s (with_machine s (with_serial s.machine u))
unfolding with_serial
serial_quiet s u =
    let h = hears_followed (record s.machine { uart = u }) uart_pin (uart.line s.machine.uart) (uart.line u) in
    record { count = h.count; stage = λ k. (h.each k).stage; pause = h.pause; meet = h.meet; input = refl; executed = refl; limit = refl }

-- as before, with less to feed
feed_if : (s t : State) (bytes : List ℕ) → Quiet s t → length bytes < length s.input → before_end (record t { input = bytes }) < before_end s
unfolding before_end take_at turn_at
feed_if s t bytes e less =
    let a = sum_le (λ k. to_take t.machine.pause (cpu_at t.machine k).stage) (λ k. to_take s.machine.pause (cpu_at s.machine k).stage) (cpu_count s.machine)
    (λ k l. let x = ap (λ p. to_take p (cpu_at t.machine k).stage) e.pause ∙ ap (λ y. to_take s.machine.pause y) (e.stage k) in omega (arith, x)) in
    let b : sum_below (bit_of t.machine.meet) (cpu_count s.machine) ≡ sum_below (bit_of s.machine.meet) (cpu_count s.machine) = ap (λ (o : Option Meeting). sum_below (bit_of o) (cpu_count s.machine)) e.meet in
    let c = ap (λ n. sum_below (λ k. to_take t.machine.pause (cpu_at t.machine k).stage) n) e.count in
    let d : sum_below (bit_of t.machine.meet) (cpu_count t.machine) ≡ sum_below (bit_of t.machine.meet) (cpu_count s.machine) = ap (λ n. sum_below (bit_of t.machine.meet) n) e.count in
    let x = e.executed in
    let y = e.limit in
    omega (arith, a, b, c, d, x, y, less)

feed_tells : (s : State) (p : ℕ) → may_feed s p ≡ true → 0 < length s.input
unfolding may_feed
feed_tells s p m = grind (arith, nat_tests, common_steps, and_parts)

feed_less : (s : State) (p : ℕ) → may_feed s p ≡ true → before_end (after_feed s) < before_end s
unfolding after_feed
feed_less s p m =
    let some = feed_tells s p m in
    let n = length-drop 1 s.input in
    feed_if s (with_machine s (with_serial s.machine (uart.after_receive s.machine.uart (slice_index s.input 0)))) (drop 1 s.input) (serial_quiet s (uart.after_receive s.machine.uart (slice_index s.input 0))) (omega (arith, some, n))

-- ---- the workers' entries

quiet_hears : (s : State) (u n : MachineState) → u.cpus ≡ s.machine.cpus → u.pause ≡ s.machine.pause → u.meet ≡ s.machine.meet → Hears u n → Quiet s (with_machine s n)
quiet_hears s u n c p m h = record {
  count = h.count ∙ ap (λ (xs : List Cpu). length xs) c;
  stage = λ k. (h.each k).stage ∙ ap (λ (xs : List Cpu). (get_or xs k (unstarted_cpu k)).stage) c;
  pause = h.pause ∙ p;
  meet = h.meet ∙ m;
  input = refl;
  executed = refl;
  limit = refl;
}

pull_quiet : (s : State) (d : ℕ) → Quiet s (after_pull s d)
unfolding after_pull pulled_in with_window
pull_quiet s d =
    let x = vblk.pull_of s.machine.ram (drive_at s.machine d).window in
    quiet_hears s (with_drive (record s.machine { ram = x.memory }) d _) _ refl refl refl (hears_followed _ _ _ _)

begin_quiet : (s : State) (p d : ℕ) → Quiet s (after_begin s p d)
unfolding after_begin
begin_quiet s p d = record { count = refl; stage = λ k. refl; pause = refl; meet = refl; input = refl; executed = refl; limit = refl }

record Parts (m n : MachineState) : Type 0 where
  pub cpus : n.cpus ≡ m.cpus
  pub pause : n.pause ≡ m.pause
  pub meet : n.meet ≡ m.meet

read_in_parts : (m : MachineState) (d : ℕ) (o : ℕ) → Parts m (read_in m d o)
read_in_parts m d o = record { cpus = refl; pause = refl; meet = refl }

quiet_parts : (s t : State) → Parts s.machine t.machine → t.input ≡ s.input → t.executed ≡ s.executed → t.limit ≡ s.limit → Quiet s t
quiet_parts s t k i e l = record {
  count = ap (λ (xs : List Cpu). length xs) k.cpus;
  stage = λ j. ap (λ (xs : List Cpu). (get_or xs j (unstarted_cpu j)).stage) k.cpus;
  pause = k.pause;
  meet = k.meet;
  input = i;
  executed = e;
  limit = l;
}

move_quiet : (s : State) (d id : ℕ) → Quiet s (after_move s d id)
unfolding after_move
move_quiet s d id = (let k = read_in_parts s.machine d id in quiet_parts s _ (record { cpus = k.cpus; pause = k.pause; meet = k.meet }) refl refl refl)

written_if : (m : MachineState) (d : ℕ) (x : Drive) (b : Bool) → Parts m (if b then m else with_drive m d x)
written_if m d x true = record { cpus = refl; pause = refl; meet = refl }
written_if m d x false = record { cpus = refl; pause = refl; meet = refl }

written_out_parts : (m : MachineState) (d : ℕ) (o : ℕ) → Parts m (written_out m d o)
written_out_parts m d o = written_if m d _ false

hold_quiet : (s : State) (p d id : ℕ) → Quiet s (after_hold s p d id)
unfolding after_hold
hold_quiet s p d id = quiet_parts s _ (written_out_parts s.machine d id) refl refl refl

put_quiet : (s : State) (d id : ℕ) (ok : Bool) → Quiet s (after_put s d id ok)
unfolding after_put
put_quiet s d id ok = record { count = refl; stage = λ k. refl; pause = refl; meet = refl; input = refl; executed = refl; limit = refl }

told_parts : (s : State) (n : MachineState) (d : ℕ) (x : Finished) → Parts s.machine n → Quiet s (with_machine s (told_driver n d x))
unfolding told_driver with_window
told_parts s n d x k = quiet_hears s (with_drive (record n { ram = _ }) d _) _ k.cpus k.pause k.meet (hears_followed _ _ _ _)

told_if : (s : State) (n : MachineState) (d : ℕ) (x : Finished) (b : Bool) → Parts s.machine n → Quiet s (with_machine s (if b then n else told_driver n d x))
told_if s n d x true k = quiet_parts s (with_machine s n) k refl refl refl
told_if s n d x false k = told_parts s n d x k

finished_quiet : (s : State) (n : MachineState) (d : ℕ) (o : Option Unfinished) → Parts s.machine n → Quiet s (with_machine s (finished_as n d o))
finished_quiet s n d None k = quiet_parts s (with_machine s n) k refl refl refl
finished_quiet s n d (Some x) k = told_if s n d (told x) (told x).silent k

finish_quiet : (s : State) (d id : ℕ) → Quiet s (after_finish s d id)
unfolding after_finish
finish_quiet s d id =
    (let k = finished_quiet s _ d (request_of (drive_at s.machine d).queue id) (record { cpus = refl; pause = refl; meet = refl }) in record { count = k.count; stage = k.stage; pause = k.pause; meet = k.meet; input = refl; executed = refl; limit = refl })

-- ---- what control alone adds

module _ (s : State) (p : ℕ) (l : 0 < p) where
  no_meet : may_meet s p ≡ true → ⊥
  unfolding may_meet
  no_meet m = grind (arith, nat_tests, common_steps, and_parts)

  no_wish : may_wish s p ≡ true → ⊥
  unfolding may_wish
  no_wish m = grind (arith, nat_tests, common_steps, and_parts)

  no_done : (k : ℕ) → may_done s p k ≡ true → ⊥
  unfolding may_done
  no_done k m = grind (arith, nat_tests, common_steps, and_parts)

  no_end : (why : EndCause) → may_end s p why ≡ true → ⊥
  unfolding may_end
  no_end why m = grind (arith, nat_tests, common_steps, and_parts)

  no_close : may_close s p ≡ true → ⊥
  unfolding may_close
  no_close m = grind (arith, nat_tests, common_steps, and_parts)

  no_tick : (n : ℕ) → may_tick s p n ≡ true → ⊥
  unfolding may_tick
  no_tick n m = grind (arith, nat_tests, common_steps, and_parts)

-- ---- all of it

effect_eases : (s : State) (p : ℕ) (e : Entry) → IsSoundState s → 0 < p → allowed s p e ≡ true → before_end (effect s p e) ≤ before_end s
unfolding allowed effect
effect_eases s p (Claim i) h l m = eases_le s (after_claim s p i) (claim_eases s p i l m)
effect_eases s p (Start i) h l m = eases_le s (after_start s i) (start_eases s i)
effect_eases s p (Enter i grant) h l m = eases_le s (after_enter s p i grant) (enter_eases s p i grant l m)
effect_eases s p (Slice i k) h l m = eases_le s (after_slice s i k) (slice_eases s i k)
effect_eases s p (Step i) h l m = step_le s p i h m
effect_eases s p (Exit i) h l m = eases_le s (after_exit s p i) (exit_eases s p i l m)
effect_eases s p (Sleep i) h l m = eases_le s (after_sleep s p i) (sleep_eases s p i l m)
effect_eases s p (Wake i) h l m = eases_le s (after_wake s p i) (wake_eases s p i l m)
effect_eases s p (Yield i) h l m = eases_le s (after_yield s i) (yield_eases s p i l m)
effect_eases s p (Turn i) h l m = let x = turn_less s p i m in omega (arith, x)
effect_eases s p (Pull d) h l m = eases_le s (after_pull s d) (eases_quiet s (after_pull s d) (pull_quiet s d))
effect_eases s p (Begin d id) h l m = eases_le s (after_begin s p d) (eases_quiet s (after_begin s p d) (begin_quiet s p d))
effect_eases s p (Move d id) h l m = eases_le s (after_move s d id) (eases_quiet s (after_move s d id) (move_quiet s d id))
effect_eases s p (Hold d id) h l m = eases_le s (after_hold s p d id) (eases_quiet s (after_hold s p d id) (hold_quiet s p d id))
effect_eases s p (Put d id ok) h l m = eases_le s (after_put s d id ok) (eases_quiet s (after_put s d id ok) (put_quiet s d id ok))
effect_eases s p (Finish d id) h l m = eases_le s (after_finish s d id) (eases_quiet s (after_finish s d id) (finish_quiet s d id))
effect_eases s p Meet h l m = absurd (no_meet s p l m)
effect_eases s p Feed h l m = let x = feed_less s p m in omega (arith, x)
effect_eases s p Wish h l m = absurd (no_wish s p l m)
effect_eases s p (Done k) h l m = absurd (no_done s p l k m)
effect_eases s p (End why) h l m = absurd (no_end s p l why m)
effect_eases s p Close h l m = absurd (no_close s p l m)
effect_eases s p (Tick n) h l m = absurd (no_tick s p l n m)

counted_same : (s : State) → before_end (counted s) ≡ before_end s
unfolding counted before_end take_at turn_at
counted_same s = refl

lawful_tells : (s : State) (p : ℕ) (e : Entry) → lawful s p e ≡ true → allowed s p e ≡ true
unfolding lawful
lawful_tells s p e m = (and_parts (not s.closed) (allowed s p e) m).1

pub others_ease : (s : State) (x : Signed) → IsSoundState s → 0 < x.by → lawful s x.by x.entry ≡ true → before_end (after s x) ≤ before_end s
unfolding after
others_ease s x h l m = let a = effect_eases s x.by x.entry h l (lawful_tells s x.by x.entry m) in let b = counted_same (effect s x.by x.entry) in omega (arith, a, b)

early_falls : (s : State) (e : Entry) → s.ended ≡ None → IsEarly e → allowed s 0 e ≡ true → before_end (effect s 0 e) < before_end s
unfolding allowed effect
early_falls s (Turn i) x y m = turn_less s 0 i m
early_falls s (Yield i) x y m = yield_less s i x m
early_falls s (Claim i) x y m = claim_less s i m
early_falls s Feed x y m = feed_less s 0 m
early_falls s e x y m = absurd y

pub control_falls : (s : State) (e : Entry) → s.ended ≡ None → IsEarly e → lawful s 0 e ≡ true → before_end (after s (record { by = 0; entry = e })) < before_end s
unfolding after
control_falls s e x y m = let a = early_falls s e x y (lawful_tells s 0 e m) in let b = counted_same (effect s 0 e) in omega (arith, a, b)
