-- Timers run down with the Ticks, and fire at the first that reaches what is left.
use Rattle.std.proofs.Common.{◌≡◌, ◌≢◌, ℕ, zero, suc, ◌+◌, ◌-◌, ◌<◌, ◌≤◌, Bool, true, false, List, [], ◌∷◌, refl, sym, ap, subst, ◌∙◌, inl, inr, ◌⊎◌, arith, Option, Some, None}
use Rattle.std.specs.Prelude.{◌&&◌, ◌||◌, ◌==◌, Result, Ok, Err, if◌then◌else◌, slice_index}
use Rattle.std.specs.Option.{option_to_list}
use Rattle.std.proofs.lemmas.List.{get_or-set_other}
use Rattle.std.proofs.lemmas.List.FromFn.{get_or-map-range_with_len}
use Rattle.std.proofs.lemmas.Bool.{cases_eq, and_parts, true≢false}
use Rattle.std.proofs.lemmas.Bool.Decides.{nat_tests}
use Rattle.std.proofs.lemmas.Grind.{common_steps, get_or-set_at}
use Rattle.vm_law.specs.declared.context.Stop.{Stop}
use Rattle.vm_law.specs.declared.insn.Insn.{Insn}
use Rattle.vm_law.specs.declared.journal.Entry.{Entry}
use Rattle.vm_law.specs.declared.journal.Entry.TheVariants.{Claim, Start, Enter, Slice, Step, Exit, Sleep, Wake, Yield, Turn, Meet, Pull, Begin, Move, Hold, Put, Finish, Feed, Wish, Done, End, Close, Tick}
use Rattle.vm_law.specs.declared.journal.Signed.{Signed}
use Rattle.vm_law.specs.declared.stage.MeetKind.{MeetKind}
use Rattle.vm_law.specs.declared.stage.MeetKind.TheVariants.{Routing, Sample}
use Rattle.vm_bus.specs.declared.area.Area.{Area}
use Rattle.vm_bus.specs.declared.area.Area.TheVariants as area
use Rattle.vm_vectors.specs.Vectors.{has}
use Rattle.vm_lapic.specs.declared.effect.Posted.TheVariants.{Set}
use Rattle.vm_lapic.specs.declared.register.Register.TheVariants as register
use Rattle.vm_lapic.specs.Apic.{Apic, posted, post_answer, ready}
use Rattle.vm_lapic.specs.Window as lapic_window
use Rattle.vm_ioapic.specs.Ioapic.{selected, after_write, change}
use Rattle.vm_uart.specs.Uart as uart
use Rattle.vm_timer.specs.Timers as timers
use Rattle.vm_timer.specs.Timers.{left_of, fires, left_after}
use Rattle.vm_vblk.specs.declared.pulled.WindowEffect.{WindowEffect}
use Rattle.vm_vblk.specs.declared.pulled.WindowEffect.TheVariants as window_effect
use Rattle.x86_exec.specs.declared.effect.Effect.{Effect}
use Rattle.x86_exec.specs.declared.effect.Effect.TheVariants as effect
use Rattle.x86_exec.specs.Shared as exec
use Rattle.x86_fetch.specs.declared.fetching.Next.{Next}
use Rattle.x86_fetch.specs.declared.fetching.Next.TheVariants.{Local, Shared, Undefined, OutOfCode}
use Rattle.x86_trap.specs.Delivery.{delivered, Delivered}
use Rattle.vm_meet.specs.declared.meeting.Meeting.{Meeting}
use Rattle.vm_state.specs.declared.cpu.Cpu.{Cpu}
use Rattle.vm_state.specs.declared.drive.Drive.{Drive}
use Rattle.vm_state.specs.Machine.{MachineState, cpu_at, cpu_count, with_cpu, is_drive, unstarted_cpu, uart_pin, takes_nmi, takes_vector}
use Rattle.vm_state.specs.State.{State, with_machine, lag_of}
use Rattle.vm_owners.specs.Turn.{with_routing, turn_taken, turn_in, after_turn}
use Rattle.vm_devices.specs.Timers.{left_at, armed, fired, fired_below, ticked, period_of, periods_of, is_periodic, is_heard, is_masked, span_of, vector_of}
use Rattle.vm_devices.specs.Ports.{with_serial, read_at, written_at, port_read, port_written, offset_of as port_offset}
use Rattle.vm_devices.specs.Windows.{lapic_kept, lapic_written, reroutes, routing_opened, ioapic_written, with_window, register_followed, drive_written, window_written}
use Rattle.vm_running.specs.Enter.{stopped_at, entered, settled, delivered_in, taken, nmi_taken, vector_taken, interrupt_taken, after_enter}
use Rattle.vm_running.specs.Slice.{spent}
use Rattle.vm_running.specs.Step.{next_at, stepped_to, stored_in, after_trap, trapped, performed_as, performed, after_step, printed, port_in, port_out, window_load, window_store}
use Rattle.vm_orders.specs.Duties.{after_meet, after_tick}
use Rattle.vm_table.specs.History.{is_lawful_all}
use Rattle.vm_table.specs.Table.{lawful, effect, counted, after}
use Rattle.vm_laws.specs.Counting.{count_of, one_if}
use Rattle.vm_laws.specs.Vectors.{is_requested}
use Rattle.vm_laws.specs.Timers.{is_initial_count, writes_count, next_arms, arms_entry, arms, ticks_of, fires_entry, fires_in, RunsDown}
use Rattle.vm_laws.proofs.Lists.{clash}
use Rattle.vm_laws.proofs.Heard.{hears_followed, hears_all_sent, has_insert}
use Rattle.vm_laws.proofs.Accesses.{followed_hears}
use Rattle.vm_laws.proofs.Framing.{Frame, claim_frame, start_frame, exit_frame, sleep_frame, wake_frame, yield_frame, slice_frame, pull_frame, begin_frame, move_frame, hold_frame, put_frame, finish_frame, feed_frame, wish_frame, end_frame, close_frame, done_frame, hears_fired_below}

-- ---- accesses

serial_timers : (m : MachineState) (u : uart.Serial) → (with_serial m u).timers ≡ m.timers
unfolding with_serial
serial_timers m u = (hears_followed (record m { uart = u }) uart_pin (uart.line m.uart) (uart.line u)).timers

read_timers : (m : MachineState) (at : Option ℕ) → (read_at m at).timers ≡ m.timers
read_timers m None = refl
read_timers m (Some offset) = serial_timers m _

written_timers : (m : MachineState) (at : Option ℕ) (value : ℕ) → (written_at m at value).timers ≡ m.timers
written_timers m None value = refl
written_timers m (Some offset) value = serial_timers m _

port_read_timers : (m : MachineState) (port : ℕ) (w : _) → (port_read m port w).timers ≡ m.timers
unfolding port_read
port_read_timers m port w = read_timers m (port_offset port w)

port_written_timers : (m : MachineState) (port : ℕ) (w : _) (value : ℕ) → (port_written m port w value).timers ≡ m.timers
unfolding port_written
port_written_timers m port w value = written_timers m (port_offset port w) value

-- a write of vCPU j's APIC: another timer stays, and its own but for the initial count
armed_if : (m : MachineState) (i j lag : ℕ) (b : Bool) → (i ≡ j → b ≡ false) → left_at (if b then armed m j lag else m) i ≡ left_at m i
unfolding armed
armed_if m i j lag true h = get_or-set_other m.timers j i _ 0 (λ e. true≢false (h e))
armed_if m i j lag false h = refl

lapic_timers : (m : MachineState) (i j lag offset value : ℕ) → (i ≡ j → (offset == lapic_window.offset_of register.InitialCount) ≡ false) → left_at (lapic_written m j lag offset value) i ≡ left_at m i
unfolding lapic_written
lapic_timers m i j lag offset value h =
    let e = lapic_window.effect_of (cpu_at m j).lapic offset value in
    let k = lapic_kept m j lag offset value in
    ap (λ (ts : List ℕ). left_of ts i) (followed_hears k e).timers
    ∙ armed_if (with_cpu m j (record (cpu_at m j) { lapic = lapic_window.written (cpu_at m j).lapic offset value })) i j lag (offset == lapic_window.offset_of register.InitialCount) h

opened_if : (m n : MachineState) (p : ℕ) (b : Bool) → n.timers ≡ m.timers → (if b then routing_opened n p else n).timers ≡ m.timers
opened_if m n p true e = e
opened_if m n p false e = e

ioapic_timers : (m : MachineState) (p offset value : ℕ) → (ioapic_written m p offset value).timers ≡ m.timers
unfolding ioapic_written
ioapic_timers m p offset value =
    let r = selected m.ioapic offset in
    let chip = record m { ioapic = after_write m.ioapic r value } in
    opened_if m _ p (reroutes m offset value) (hears_all_sent chip (option_to_list (change m.ioapic r value).message)).timers

window_of_timers : (m : MachineState) (d : ℕ) (x : Drive) → (with_window m d x).timers ≡ m.timers
unfolding with_window
window_of_timers m d x = (hears_followed _ _ _ _).timers

followed_timers : (s : State) (d : ℕ) (x : Drive) (e : WindowEffect) → (register_followed s d x e).machine.timers ≡ s.machine.timers
followed_timers s d x window_effect.Nothing = window_of_timers s.machine d x
followed_timers s d x window_effect.Reset = window_of_timers s.machine d _

drive_if : (s : State) (d : ℕ) (x : Drive) (e : WindowEffect) (b : Bool) → (if b then register_followed s d x e else s).machine.timers ≡ s.machine.timers
drive_if s d x e true = followed_timers s d x e
drive_if s d x e false = refl

drive_timers : (s : State) (d offset value : ℕ) → (drive_written s d offset value).machine.timers ≡ s.machine.timers
unfolding drive_written
drive_timers s d offset value = drive_if s d _ _ (is_drive s.machine d)

abbrev at : ℕ → List ℕ → ℕ
at i ts = left_of ts i

window_timers : (s : State) (p j : ℕ) (a : Area) (value i : ℕ) → (i ≡ j → is_initial_count a ≡ false) → left_at (window_written s p j a value).machine i ≡ left_at s.machine i
unfolding window_written
window_timers s p j (area.Lapic offset) value i h = lapic_timers s.machine i j (lag_of s) offset value h
window_timers s p j (area.Ioapic offset) value i h = ap (at i) (ioapic_timers s.machine p offset value)
window_timers s p j (area.Disk d offset) value i h = ap (at i) (drive_timers s d offset value)
window_timers s p j a value i h = refl

-- ---- Step

stepped_timers : (s : State) (j : ℕ) (c : _) (halted : Bool) → (stepped_to s j c halted).machine.timers ≡ s.machine.timers
unfolding stepped_to spent
stepped_timers s j c halted = refl

stopped_timers : (s : State) (j : ℕ) (why : Stop) → (stopped_at s j why).machine.timers ≡ s.machine.timers
unfolding stopped_at
stopped_timers s j why = refl

trap_timers : (s : State) (j : ℕ) (d : Delivered) (r : Result (Unit {0}) Stop) → (after_trap s j d r).machine.timers ≡ s.machine.timers
unfolding stepped_to spent
trap_timers s j d (Ok u) = refl
trap_timers s j d (Err why) = stopped_timers s j why

trapped_timers : (s : State) (j rip v : ℕ) (error : Option ℕ) → (trapped s j rip v error).machine.timers ≡ s.machine.timers
unfolding trapped
trapped_timers s j rip v error = let d = delivered (record (cpu_at s.machine j).ctx { rip = rip }) s.machine.ram v error false in trap_timers s j d d.answer

stored_timers : (s : State) (j : ℕ) (x : exec.Shared) → (stepped_to (stored_in s x) j x.ctx false).machine.timers ≡ s.machine.timers
unfolding stepped_to spent
stored_timers s j x = refl

performed_as_timers : (s : State) (p j : ℕ) (insn : Insn) (len : ℕ) (x : exec.Shared) (e : Effect) (i : ℕ) → (i ≡ j → writes_count e ≡ false) → left_at (performed_as s p j insn len x e).machine i ≡ left_at s.machine i
unfolding performed_as port_in port_out window_load window_store
performed_as_timers s p j insn len x effect.Done i h = ap (at i) (stored_timers s j x)
performed_as_timers s p j insn len x effect.Halt i h = ap (at i) (stepped_timers s j x.ctx true)
performed_as_timers s p j insn len x (effect.Trap v error) i h = ap (at i) (trapped_timers s j _ v error)
performed_as_timers s p j insn len x (effect.Stop why) i h = ap (at i) (stopped_timers s j why)
performed_as_timers s p j insn len x (effect.PortIn port w) i h = ap (at i) (stepped_timers (with_machine s (port_read s.machine port w)) j _ false ∙ port_read_timers s.machine port w)
performed_as_timers s p j insn len x (effect.PortOut port w value) i h = ap (at i) (stepped_timers (printed (with_machine s (port_written s.machine port w value)) _) j x.ctx false ∙ port_written_timers s.machine port w value)
performed_as_timers s p j insn len x (effect.Load a) i h = ap (at i) (stepped_timers s j _ false)
performed_as_timers s p j insn len x (effect.Store a value) i h = ap (at i) (stepped_timers (window_written s p j a value) j x.ctx false) ∙ window_timers s p j a value i h

performed_timers : (s : State) (p j : ℕ) (n : Next) (i : ℕ) → (i ≡ j → next_arms s i n ≡ false) → left_at (performed s p j n).machine i ≡ left_at s.machine i
unfolding performed
performed_timers s p j (Local insn len) i h = refl
performed_timers s p j (Shared insn len) i h =
    let x = exec.shared (cpu_at s.machine j).ctx insn len s.machine.ram in
    performed_as_timers s p j insn len x x.effect i (λ e. subst (λ k. writes_count (exec.shared (cpu_at s.machine k).ctx insn len s.machine.ram).effect ≡ false) e (h e))
performed_timers s p j Undefined i h = ap (at i) (trapped_timers s j _ 6 None)
performed_timers s p j OutOfCode i h = ap (at i) (stopped_timers s j _)

step_timers : (s : State) (p j i : ℕ) → (i ≡ j → next_arms s i (next_at s i) ≡ false) → left_at (after_step s p j).machine i ≡ left_at s.machine i
unfolding after_step
step_timers s p j i h = performed_timers s p j (next_at s j) i (λ e. subst (λ k. next_arms s i (next_at s k) ≡ false) e (h e))

-- ---- Enter, Turn, Meet

settled_timers : (s : State) (i : ℕ) (d : Delivered) (r : Result (Unit {0}) Stop) → (settled s i d r).machine.timers ≡ s.machine.timers
unfolding settled stopped_at
settled_timers s i d (Ok u) = refl
settled_timers s i d (Err why) = refl

taken_timers : (s : State) (i : ℕ) (c : Cpu) (v : ℕ) (nmi : Bool) → (delivered_in (taken s i c) i v nmi).machine.timers ≡ s.machine.timers
taken_timers s i c v nmi =
    let t = taken s i c in
    let d = delivered (cpu_at t.machine i).ctx t.machine.ram v None nmi in
    settled_timers t i d d.answer

nmi_timers : (s : State) (i : ℕ) → (nmi_taken s i).machine.timers ≡ s.machine.timers
unfolding nmi_taken
nmi_timers s i = taken_timers s i _ 2 true

vector_timers : (s : State) (i : ℕ) (o : Option ℕ) → (vector_taken s i o).machine.timers ≡ s.machine.timers
unfolding vector_taken
vector_timers s i None = refl
vector_timers s i (Some v) = taken_timers s i _ v false

interrupt_if : (s : State) (i : ℕ) (a b : Bool) → (if a then nmi_taken s i else if b then vector_taken s i (ready (cpu_at s.machine i).lapic) else s).machine.timers ≡ s.machine.timers
interrupt_if s i true b = nmi_timers s i
interrupt_if s i false true = vector_timers s i _
interrupt_if s i false false = refl

interrupt_timers : (s : State) (i : ℕ) → (interrupt_taken s i).machine.timers ≡ s.machine.timers
unfolding interrupt_taken
interrupt_timers s i = interrupt_if s i (takes_nmi (cpu_at s.machine i)) (takes_vector (cpu_at s.machine i))

entered_timers : (s : State) (p i grant : ℕ) → (entered s p i grant).machine.timers ≡ s.machine.timers
unfolding entered
entered_timers s p i grant = refl

enter_timers : (s : State) (p i grant : ℕ) → (after_enter s p i grant).machine.timers ≡ s.machine.timers
unfolding after_enter
enter_timers s p i grant = interrupt_timers (entered s p i grant) i ∙ entered_timers s p i grant

taken_turn_timers : (s : State) (i : ℕ) (k : MeetKind) → (turn_taken s i k).machine.timers ≡ s.machine.timers
unfolding turn_taken with_routing
taken_turn_timers s i Routing = refl
taken_turn_timers s i Sample = refl

turn_in_timers : (s : State) (i : ℕ) (o : Option Meeting) → (turn_in s i o).machine.timers ≡ s.machine.timers
turn_in_timers s i None = refl
turn_in_timers s i (Some x) = taken_turn_timers s i x.kind

turn_timers : (s : State) (i : ℕ) → (after_turn s i).machine.timers ≡ s.machine.timers
unfolding after_turn
turn_timers s i = turn_in_timers s i s.machine.meet

meet_timers : (s : State) → (after_meet s).machine.timers ≡ s.machine.timers
unfolding after_meet
meet_timers s = refl

-- ---- Tick

abbrev ticked_left : State → ℕ → ℕ → ℕ
ticked_left s n i = left_after n (period_of (cpu_at s.machine i).lapic) (left_at s.machine i)

tick_left : (s : State) (n i : ℕ) → i < 16 → left_at (after_tick s n).machine i ≡ ticked_left s n i
unfolding after_tick ticked timers.ticked periods_of
tick_left s n i l =
    get_or-map-range_with_len (λ cpu. left_after n (slice_index (periods_of s.machine) cpu) (left_of s.machine.timers cpu)) 0 16 i i 0 l (omega arith)
    ∙ ap (λ p. left_after n p (left_at s.machine i)) (get_or-map-range_with_len (λ j. period_of (cpu_at s.machine j).lapic) 0 16 i i 0 l (omega arith))

-- ---- every entry but a Tick

-- an entry that isn't a Tick neither fires nor moves time on
record Stands (s : State) (e : Entry) (n : MachineState) (i : ℕ) : Type 0 where
  pub left : left_at n i ≡ left_at s.machine i
  pub ticks : ticks_of e ≡ 0
  pub fires : fires_entry s i e ≡ false

by_frame : (s : State) (n : MachineState) (e : Entry) (i : ℕ) → ticks_of e ≡ 0 → fires_entry s i e ≡ false → Frame s.machine n → Stands s e n i
by_frame s n e i a b f = record { left = ap (at i) f.timers; ticks = a; fires = b }

by_timers : (s : State) (n : MachineState) (e : Entry) (i : ℕ) → ticks_of e ≡ 0 → fires_entry s i e ≡ false → n.timers ≡ s.machine.timers → Stands s e n i
by_timers s n e i a b f = record { left = ap (at i) f; ticks = a; fires = b }

-- a Tick
record Ticks (s : State) (n : ℕ) (t : MachineState) (i : ℕ) : Type 0 where
  pub left : left_at t i ≡ ticked_left s n i

abbrev Passes : State → Entry → MachineState → ℕ → Type 0
Passes s (Tick n) t i = Ticks s n t i
Passes s e t i = Stands s e t i

not_both : (i j : ℕ) (b : Bool) → ((j == i) && b) ≡ false → i ≡ j → b ≡ false
not_both i j b h e = grind (arith, nat_tests, common_steps)

effect_passes : (s : State) (p : ℕ) (e : Entry) (i : ℕ) → i < 16 → arms_entry s i e ≡ false → Passes s e (effect s p e).machine i
unfolding effect
effect_passes s p (Claim j) i l a = by_frame s _ (Claim j) i refl refl (claim_frame s p j)
effect_passes s p (Start j) i l a = by_frame s _ (Start j) i refl refl (start_frame s j)
effect_passes s p (Enter j grant) i l a = by_timers s _ (Enter j grant) i refl refl (enter_timers s p j grant)
effect_passes s p (Slice j n) i l a = by_frame s _ (Slice j n) i refl refl (slice_frame s j n)
effect_passes s p (Step j) i l a = record { left = step_timers s p j i (not_both i j _ a); ticks = refl; fires = refl }
effect_passes s p (Exit j) i l a = by_frame s _ (Exit j) i refl refl (exit_frame s p j)
effect_passes s p (Sleep j) i l a = by_frame s _ (Sleep j) i refl refl (sleep_frame s p j)
effect_passes s p (Wake j) i l a = by_frame s _ (Wake j) i refl refl (wake_frame s p j)
effect_passes s p (Yield j) i l a = by_frame s _ (Yield j) i refl refl (yield_frame s j)
effect_passes s p (Turn j) i l a = by_timers s _ (Turn j) i refl refl (turn_timers s j)
effect_passes s p Meet i l a = by_timers s _ Meet i refl refl (meet_timers s)
effect_passes s p (Pull d) i l a = by_frame s _ (Pull d) i refl refl (pull_frame s d)
effect_passes s p (Begin d id) i l a = by_frame s _ (Begin d id) i refl refl (begin_frame s p d)
effect_passes s p (Move d id) i l a = by_frame s _ (Move d id) i refl refl (move_frame s d id)
effect_passes s p (Hold d id) i l a = by_frame s _ (Hold d id) i refl refl (hold_frame s p d id)
effect_passes s p (Put d id ok) i l a = by_frame s _ (Put d id ok) i refl refl (put_frame s d id ok)
effect_passes s p (Finish d id) i l a = by_frame s _ (Finish d id) i refl refl (finish_frame s d id)
effect_passes s p Feed i l a = by_frame s _ Feed i refl refl (feed_frame s)
effect_passes s p Wish i l a = by_frame s _ Wish i refl refl (wish_frame s)
effect_passes s p (Done k) i l a = by_frame s _ (Done k) i refl refl (done_frame s)
effect_passes s p (End c) i l a = by_frame s _ (End c) i refl refl (end_frame s c)
effect_passes s p Close i l a = by_frame s _ Close i refl refl (close_frame s)
effect_passes s p (Tick n) i l a = record { left = tick_left s n i l }

-- ---- histories

fires_tells : (n r : ℕ) → fires n r ≡ true → r ≤ n
fires_tells n r h = grind (arith, nat_tests, common_steps, and_parts)

fires_not : (n r : ℕ) → 0 < r → fires n r ≡ false → n < r
fires_not n r l h = grind (arith, nat_tests, common_steps)

left_not : (n span r : ℕ) → fires n r ≡ false → left_after n span r ≡ r - n
left_not n span r h = rw h refl

tick_moves : (s : State) (n i : ℕ) (t : MachineState) → Ticks s n t i → 0 < left_at s.machine i → (b : Bool) → fires n (left_at s.machine i) ≡ b
    → ((b ≡ true) × (left_at s.machine i ≤ n)) ⊎ ((b ≡ false) × (left_at t i + n ≡ left_at s.machine i) × (0 < left_at t i))
tick_moves s n i t k l true e = inl (refl, fires_tells n (left_at s.machine i) e)
tick_moves s n i t k l false e =
    let a = fires_not n (left_at s.machine i) l e in
    let b = k.left ∙ left_not n (period_of (cpu_at s.machine i).lapic) (left_at s.machine i) e in
    inr (refl, omega (arith, a, b), omega (arith, a, b))

stands_moves : (s : State) (e : Entry) (t : MachineState) (i : ℕ) → Stands s e t i → 0 < left_at s.machine i
    → ((fires_entry s i e ≡ true) × (left_at s.machine i ≤ ticks_of e)) ⊎ ((fires_entry s i e ≡ false) × (left_at t i + ticks_of e ≡ left_at s.machine i) × (0 < left_at t i))
stands_moves s e t i k l = let a = k.left in let b = k.ticks in inr (k.fires, omega (arith, a, b), omega (arith, a, l))

passes_moves : (s : State) (e : Entry) (t : MachineState) (i : ℕ) → Passes s e t i → 0 < left_at s.machine i
    → ((fires_entry s i e ≡ true) × (left_at s.machine i ≤ ticks_of e)) ⊎ ((fires_entry s i e ≡ false) × (left_at t i + ticks_of e ≡ left_at s.machine i) × (0 < left_at t i))
passes_moves s (Tick n) t i k l = tick_moves s n i t k l (fires n (left_at s.machine i)) refl
passes_moves s e t i k l = stands_moves s e t i k l

one_moves : (s : State) (x : Signed) (i : ℕ) → i < 16 → arms i s x ≡ false → 0 < left_at s.machine i
    → ((fires_in i s x ≡ true) × (left_at s.machine i ≤ ticks_of x.entry)) ⊎ ((fires_in i s x ≡ false) × (left_at (after s x).machine i + ticks_of x.entry ≡ left_at s.machine i) × (0 < left_at (after s x).machine i))
unfolding arms fires_in after counted
one_moves s x i l a some = passes_moves s x.entry (effect s x.by x.entry).machine i (effect_passes s x.by x.entry i l a) some

none_if : (b : Bool) (n : ℕ) → one_if b + n ≡ 0 → (b ≡ false) × (n ≡ 0)
none_if true n h = absurd (omega (arith, h))
none_if false n h = (refl, omega (arith, h))

fired_down : (s : State) (x : Signed) (xs : List Signed) (i : ℕ) → fires_in i s x ≡ true → left_at s.machine i ≤ ticks_of x.entry → RunsDown s i (x ∷ xs)
fired_down s x xs i f l = record {
  before = λ z. (let t = none_if (fires_in i s x) _ z in absurd (clash (fires_in i s x) f t.0));
  at_once = ((λ z. (let t = none_if (fires_in i s x) _ z in absurd (clash (fires_in i s x) f t.0))), (λ z. absurd (omega (arith, l, z))));
}

moved_down : (s : State) (x : Signed) (xs : List Signed) (i : ℕ) → fires_in i s x ≡ false → left_at (after s x).machine i + ticks_of x.entry ≡ left_at s.machine i → RunsDown (after s x) i xs → RunsDown s i (x ∷ xs)
moved_down s x xs i f l r =
    let none : count_of (fires_in i) s (x ∷ xs) ≡ count_of (fires_in i) (after s x) xs = ap (λ b. one_if b + count_of (fires_in i) (after s x) xs) f ∙ omega arith in
    record {
      before = λ z. (let b = r.before (sym none ∙ z) in omega (arith, l, b));
      at_once = (
        (λ z. (let b = r.at_once.0 (sym none ∙ z) in omega (arith, l, b))),
        (λ z. none ∙ r.at_once.1 (omega (arith, l, z))),
      );
    }

pub runs_down : (s : State) (i : ℕ) (xs : List Signed) → i < 16 → is_lawful_all s xs ≡ true → count_of (arms i) s xs ≡ 0 → 0 < left_at s.machine i → RunsDown s i xs
runs_down s i [] l h a some = record { before = λ z. omega arith; at_once = ((λ z. some), (λ z. refl)) }
runs_down s i (x ∷ xs) l h a some =
    let t = and_parts (lawful s x.by x.entry) _ h in
    let b = none_if (arms i s x) _ a in
    elim (one_moves s x i l b.0 some) [
      | inl f ↦ fired_down s x xs i f.0 f.1
      | inr k ↦ moved_down s x xs i k.0 k.1 (runs_down (after s x) i xs l t.1 b.1 k.2)
    ]

-- ---- one that is disarmed stays so

fires_zero : (n : ℕ) → fires n 0 ≡ false
fires_zero n = refl

passes_zero : (s : State) (e : Entry) (t : MachineState) (i : ℕ) → Passes s e t i → left_at s.machine i ≡ 0 → (fires_entry s i e ≡ false) × (left_at t i ≡ 0)
passes_zero s (Tick n) t i k z =
    let f : fires n (left_at s.machine i) ≡ false = ap (λ r. fires n r) z ∙ fires_zero n in
    let b = k.left ∙ left_not n (period_of (cpu_at s.machine i).lapic) (left_at s.machine i) f in
    (f, omega (arith, b, z))
passes_zero s e t i k z = (k.fires, k.left ∙ z)

one_zero : (s : State) (x : Signed) (i : ℕ) → i < 16 → arms i s x ≡ false → left_at s.machine i ≡ 0 → (fires_in i s x ≡ false) × (left_at (after s x).machine i ≡ 0)
unfolding arms fires_in after counted
one_zero s x i l a z = passes_zero s x.entry (effect s x.by x.entry).machine i (effect_passes s x.by x.entry i l a) z

stays_disarmed : (s : State) (i : ℕ) (xs : List Signed) → i < 16 → count_of (arms i) s xs ≡ 0 → left_at s.machine i ≡ 0 → count_of (fires_in i) s xs ≡ 0
stays_disarmed s i [] l a z = refl
stays_disarmed s i (x ∷ xs) l a z =
    let b = none_if (arms i s x) _ a in
    let k = one_zero s x i l b.0 z in
    let c : one_if (fires_in i s x) ≡ 0 = ap one_if k.0 in
    let r = stays_disarmed (after s x) i xs l b.1 k.1 in
    omega (arith, c, r)

fired_once : (n r : ℕ) → fires n r ≡ true → left_after n 0 r ≡ 0
fired_once n r h = rw h refl

once_entry : (s : State) (p : ℕ) (e : Entry) (i : ℕ) → i < 16 → is_periodic (cpu_at s.machine i).lapic ≡ false → fires_entry s i e ≡ true → left_at (effect s p e).machine i ≡ 0
unfolding effect
once_entry s p (Tick n) i l one f =
    let z : period_of (cpu_at s.machine i).lapic ≡ 0 = ap (λ b. if b then span_of (cpu_at s.machine i).lapic else 0) one in
    tick_left s n i l ∙ ap (λ q. left_after n q (left_at s.machine i)) z ∙ fired_once n (left_at s.machine i) f
once_entry s p e i l one f = absurd (true≢false (sym f))

once_disarms : (s : State) (x : Signed) (i : ℕ) → i < 16 → is_periodic (cpu_at s.machine i).lapic ≡ false → fires_in i s x ≡ true → left_at (after s x).machine i ≡ 0
unfolding fires_in after counted
once_disarms s x i l one f = once_entry s x.by x.entry i l one f

pub fires_once : (s : State) (x : Signed) (i : ℕ) (xs : List Signed) → i < 16 → is_lawful_all s (x ∷ xs) ≡ true → is_periodic (cpu_at s.machine i).lapic ≡ false
    → fires_in i s x ≡ true → count_of (arms i) (after s x) xs ≡ 0 → count_of (fires_in i) (after s x) xs ≡ 0
fires_once s x i xs l h one f a = stays_disarmed (after s x) i xs l a (once_disarms s x i l one f)

-- ---- a firing posts

fired_other_if : (m : MachineState) (k i : ℕ) → i ≢ k → (b : Bool) → cpu_at (if b then with_cpu m k (record (cpu_at m k) { lapic = posted (cpu_at m k).lapic (vector_of (cpu_at m k).lapic) }) else m) i ≡ cpu_at m i
fired_other_if m k i ne true = get_or-set_other m.cpus k i _ (unstarted_cpu i) ne
fired_other_if m k i ne false = refl

fired_other : (m : MachineState) (n k i : ℕ) → i ≢ k → cpu_at (fired m n k) i ≡ cpu_at m i
unfolding fired
fired_other m n k i ne = fired_other_if m k i ne _

not_yet : (m : MachineState) (n k i : ℕ) → k ≤ i → cpu_at (fired_below m n k) i ≡ cpu_at m i
not_yet m n zero i l = refl
not_yet m n (suc k) i l = fired_other (fired_below m n k) n k i (λ e. omega (arith, l, e)) ∙ not_yet m n k i (omega (arith, l))

is_answer : (l : Apic) → is_heard l ≡ true → (post_answer l (vector_of l) ≡ Set) × (is_masked l ≡ false)
unfolding post_answer
is_answer l h = (grind (arith, nat_tests, common_steps, and_parts), grind (arith, nat_tests, common_steps, and_parts))

heard_posts : (l : Apic) → is_heard l ≡ true → has (posted l (vector_of l)).irr (vector_of l) ≡ true
unfolding posted
heard_posts l h =
    let z : (vector_of l == vector_of l) ≡ true = grind (arith, nat_tests) in
    rw (is_answer l h).0 (has_insert l.irr (vector_of l) (vector_of l) ∙ ap (λ b. b || has l.irr (vector_of l)) z)

-- the firing itself, of vCPU i in a machine in which it hasn't fired yet
fired_self : (m : MachineState) (n i : ℕ) → i < cpu_count m → fires n (left_at m i) ≡ true → is_heard (cpu_at m i).lapic ≡ true → has (cpu_at (fired m n i) i).lapic.irr (vector_of (cpu_at m i).lapic) ≡ true
unfolding fired
fired_self m n i l f h =
    let c = cpu_at m i in
    rw (f, (is_answer c.lapic h).1, get_or-set_at m.cpus i i (record c { lapic = posted c.lapic (vector_of c.lapic) }) (unstarted_cpu i) refl l) (heard_posts c.lapic h)

fired_within : (m : MachineState) (n k i : ℕ) → i < k → i < cpu_count m → fires n (left_at m i) ≡ true → is_heard (cpu_at m i).lapic ≡ true → has (cpu_at (fired_below m n k) i).lapic.irr (vector_of (cpu_at m i).lapic) ≡ true
fired_within m n zero i b l f h = absurd (omega (arith, b))
fired_within m n (suc k) i b l f h =
    elim (cases_eq i k) [
      | inl same ↦
          let u = fired_below m n k in
          let hears = hears_fired_below m n k in
          let at_i : cpu_at u i ≡ cpu_at m i = not_yet m n k i (omega (arith, same)) in
          let left : left_at u i ≡ left_at m i = ap (λ (ts : List ℕ). left_of ts i) hears.timers in
          let count = hears.count in
          subst (λ j. has (cpu_at (fired u n j) i).lapic.irr (vector_of (cpu_at m i).lapic) ≡ true) same
          (subst (λ (c : Cpu). has (cpu_at (fired u n i) i).lapic.irr (vector_of c.lapic) ≡ true) at_i
          (fired_self u n i (omega (arith, l, count)) (ap (λ r. fires n r) left ∙ f) (ap (λ (c : Cpu). is_heard c.lapic) at_i ∙ h)))
      | inr other ↦
          let u = fired_below m n k in
          ap (λ (c : Cpu). has c.lapic.irr (vector_of (cpu_at m i).lapic)) (fired_other u n k i other) ∙ fired_within m n k i (omega (arith, b, other)) l f h
    ]

tick_posts : (s : State) (n i : ℕ) → i < cpu_count s.machine → fires n (left_at s.machine i) ≡ true → is_heard (cpu_at s.machine i).lapic ≡ true → is_requested (after_tick s n).machine i (vector_of (cpu_at s.machine i).lapic) ≡ true
unfolding after_tick ticked
tick_posts s n i l f h = fired_within s.machine n (cpu_count s.machine) i l l f h

posts_entry : (s : State) (p : ℕ) (e : Entry) (i : ℕ) → i < cpu_count s.machine → fires_entry s i e ≡ true → is_heard (cpu_at s.machine i).lapic ≡ true → is_requested (effect s p e).machine i (vector_of (cpu_at s.machine i).lapic) ≡ true
unfolding effect
posts_entry s p (Tick n) i l f h = tick_posts s n i l f h
posts_entry s p e i l f h = absurd (true≢false (sym f))

pub firing_posts : (s : State) (x : Signed) (i : ℕ) → i < cpu_count s.machine → lawful s x.by x.entry ≡ true → fires_in i s x ≡ true → is_heard (cpu_at s.machine i).lapic ≡ true
    → is_requested (after s x).machine i (vector_of (cpu_at s.machine i).lapic) ≡ true
unfolding fires_in after counted
firing_posts s x i l m f h = posts_entry s x.by x.entry i l f h
