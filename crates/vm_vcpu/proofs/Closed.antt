-- A run that is closed is at rest, so whoever has a running vCPU finds the run open.
use Rattle.std.proofs.Common.{◌≡◌, ℕ, ◌<◌, zero, suc, arith, Bool, true, false, not, List, [], ◌∷◌, length, get_or, refl, sym, ◌∙◌, Option, Some, None}
use Rattle.std.specs.Prelude.{Result, Ok, Err, if◌then◌else◌}
use Rattle.std.proofs.lemmas.Bool.{true≢false}
use Rattle.vm_law.specs.declared.context.Ctx.{Ctx}
use Rattle.vm_law.specs.declared.context.Stop.{Stop}
use Rattle.vm_law.specs.declared.insn.Insn.{Insn}
use Rattle.vm_law.specs.declared.journal.Entry.{Entry}
use Rattle.vm_law.specs.declared.journal.Entry.TheVariants.{Claim, Start, Enter, Slice, Step, Exit, Sleep, Wake, Yield, Turn, Meet, Pull, Begin, Move, Hold, Put, Finish, Feed, Wish, Done, End, Close, Tick}
use Rattle.vm_law.specs.declared.journal.Signed.{Signed}
use Rattle.vm_law.specs.declared.script.Order.{Order}
use Rattle.vm_law.specs.declared.script.Order.TheVariants as order
use Rattle.vm_law.specs.declared.stage.MeetKind.{MeetKind}
use Rattle.vm_law.specs.declared.stage.MeetKind.TheVariants.{Routing, Sample}
use Rattle.vm_bus.specs.declared.area.Area.{Area}
use Rattle.vm_bus.specs.declared.area.Area.TheVariants as area
use Rattle.vm_lapic.specs.Apic.{ready}
use Rattle.vm_vblk.specs.declared.pulled.WindowEffect.{WindowEffect}
use Rattle.vm_vblk.specs.declared.pulled.WindowEffect.TheVariants as window_effect
use Rattle.x86_exec.specs.declared.effect.Effect.{Effect}
use Rattle.x86_exec.specs.declared.effect.Effect.TheVariants as effect
use Rattle.x86_exec.specs.Shared as exec
use Rattle.x86_fetch.specs.declared.fetching.Next.{Next}
use Rattle.x86_fetch.specs.declared.fetching.Next.TheVariants.{Local, Shared, Undefined, OutOfCode}
use Rattle.x86_trap.specs.Delivery.{delivered, Delivered}
use Rattle.vm_meet.specs.declared.meeting.Meeting.{Meeting}
use Rattle.vm_state.specs.declared.cpu.Cpu.{Cpu}
use Rattle.vm_state.specs.declared.drive.Drive.{Drive}
use Rattle.vm_state.specs.Machine.{cpu_at, is_drive, takes_nmi, takes_vector}
use Rattle.vm_state.specs.State.{State, next_order, with_machine}
use Rattle.vm_owners.specs.Owners.{after_claim, after_start, after_exit, after_sleep, after_wake, after_yield}
use Rattle.vm_owners.specs.Turn.{turn_taken, turn_in, after_turn}
use Rattle.vm_devices.specs.Ports.{port_read, port_written}
use Rattle.vm_devices.specs.Windows.{window_written, drive_written, register_followed}
use Rattle.vm_running.specs.Enter.{stopped_at, entered, settled, delivered_in, taken, nmi_taken, vector_taken, interrupt_taken, after_enter}
use Rattle.vm_running.specs.Slice.{spent, after_slice}
use Rattle.vm_running.specs.Step.{next_at, stepped_to, stored_in, after_trap, trapped, performed_as, performed, after_step, printed, port_in, port_out, window_load, window_store}
use Rattle.vm_disks.specs.Queueing.{after_pull, after_begin}
use Rattle.vm_disks.specs.Moving.{after_move, after_finish}
use Rattle.vm_disks.specs.Images.{after_hold, after_put}
use Rattle.vm_orders.specs.Duties.{after_feed, after_meet, after_tick, after_wish}
use Rattle.vm_orders.specs.Done.{ordered, ordered_as, noted_as, said_as, after_done, request_cancelled, noted}
use Rattle.vm_orders.specs.Ending.{after_end, after_close}
use Rattle.std.specs.List.{list_all}
use Rattle.std.proofs.lemmas.Bool.{and_parts}
use Rattle.std.proofs.lemmas.Bool.Decides.{nat_tests}
use Rattle.std.proofs.lemmas.Grind.{common_steps}
use Rattle.vm_law.specs.declared.stage.Owned.{Owned}
use Rattle.vm_law.specs.declared.stage.Owned.TheVariants.{Idle, Frozen, Running, Sleeping}
use Rattle.vm_state.specs.declared.start.Start.{Start as Start_}
use Rattle.vm_state.specs.Machine.{all_idle, cpu_count, is_idle, is_running}
use Rattle.vm_state.specs.Start.{boot, first_state}
use Rattle.vm_orders.specs.Ending.{may_close}
use Rattle.vm_table.specs.History.{IsLegal, after_all, is_lawful_all, last_state}
use Rattle.vm_table.specs.Table.{allowed, lawful, effect as effect_of, counted, after}

-- ---- a vCPU

settled_closed : (s : State) (i : ℕ) (d : Delivered) (r : Result (Unit {0}) Stop) → (settled s i d r).closed ≡ s.closed
unfolding settled stopped_at
settled_closed s i d (Ok u) = refl
settled_closed s i d (Err why) = refl

taken_closed : (s : State) (i : ℕ) (c : Cpu) (v : ℕ) (nmi : Bool) → (delivered_in (taken s i c) i v nmi).closed ≡ s.closed
taken_closed s i c v nmi = let d = delivered (cpu_at (taken s i c).machine i).ctx (taken s i c).machine.ram v None nmi in settled_closed (taken s i c) i d d.answer

nmi_closed : (s : State) (i : ℕ) → (nmi_taken s i).closed ≡ s.closed
unfolding nmi_taken
nmi_closed s i = taken_closed s i _ 2 true

vector_closed : (s : State) (i : ℕ) (o : Option ℕ) → (vector_taken s i o).closed ≡ s.closed
unfolding vector_taken
vector_closed s i None = refl
vector_closed s i (Some v) = taken_closed s i _ v false

interrupt_if : (s : State) (i : ℕ) (a b : Bool) → (if a then nmi_taken s i else if b then vector_taken s i (ready (cpu_at s.machine i).lapic) else s).closed ≡ s.closed
interrupt_if s i true b = nmi_closed s i
interrupt_if s i false true = vector_closed s i _
interrupt_if s i false false = refl

interrupt_closed : (s : State) (i : ℕ) → (interrupt_taken s i).closed ≡ s.closed
unfolding interrupt_taken
interrupt_closed s i = interrupt_if s i (takes_nmi (cpu_at s.machine i)) (takes_vector (cpu_at s.machine i))

entered_closed : (s : State) (p i grant : ℕ) → (entered s p i grant).closed ≡ s.closed
unfolding entered
entered_closed s p i grant = refl

enter_closed : (s : State) (p i grant : ℕ) → (after_enter s p i grant).closed ≡ s.closed
unfolding after_enter
enter_closed s p i grant = interrupt_closed (entered s p i grant) i ∙ entered_closed s p i grant

turn_taken_closed : (s : State) (i : ℕ) (kind : MeetKind) → (turn_taken s i kind).closed ≡ s.closed
unfolding turn_taken
turn_taken_closed s i Routing = refl
turn_taken_closed s i Sample = refl

turn_in_closed : (s : State) (i : ℕ) (o : Option Meeting) → (turn_in s i o).closed ≡ s.closed
turn_in_closed s i None = refl
turn_in_closed s i (Some x) = turn_taken_closed s i x.kind

turn_closed : (s : State) (i : ℕ) → (after_turn s i).closed ≡ s.closed
unfolding after_turn
turn_closed s i = turn_in_closed s i s.machine.meet

slice_closed : (s : State) (i n : ℕ) → (after_slice s i n).closed ≡ s.closed
unfolding after_slice spent
slice_closed s i n = refl

-- ---- an instruction

stepped_closed : (s : State) (j : ℕ) (c : Ctx) (halted : Bool) → (stepped_to s j c halted).closed ≡ s.closed
unfolding stepped_to spent
stepped_closed s j c halted = refl

stopped_closed : (s : State) (j : ℕ) (why : Stop) → (stopped_at s j why).closed ≡ s.closed
unfolding stopped_at
stopped_closed s j why = refl

trap_closed : (s : State) (j : ℕ) (d : Delivered) (r : Result (Unit {0}) Stop) → (after_trap s j d r).closed ≡ s.closed
unfolding stepped_to spent
trap_closed s j d (Ok u) = refl
trap_closed s j d (Err why) = stopped_closed s j why

trapped_closed : (s : State) (j rip v : ℕ) (error : Option ℕ) → (trapped s j rip v error).closed ≡ s.closed
unfolding trapped
trapped_closed s j rip v error = let d = delivered (record (cpu_at s.machine j).ctx { rip = rip }) s.machine.ram v error false in trap_closed s j d d.answer

stored_closed : (s : State) (j : ℕ) (x : exec.Shared) → (stepped_to (stored_in s x) j x.ctx false).closed ≡ s.closed
unfolding stepped_to spent
stored_closed s j x = refl

followed_closed : (s : State) (d : ℕ) (x : Drive) (e : WindowEffect) → (register_followed s d x e).closed ≡ s.closed
followed_closed s d x window_effect.Nothing = refl
followed_closed s d x window_effect.Reset = refl

drive_if : (s : State) (d : ℕ) (x : Drive) (e : WindowEffect) (b : Bool) → (if b then register_followed s d x e else s).closed ≡ s.closed
drive_if s d x e true = followed_closed s d x e
drive_if s d x e false = refl

drive_closed : (s : State) (d offset value : ℕ) → (drive_written s d offset value).closed ≡ s.closed
unfolding drive_written
drive_closed s d offset value = drive_if s d _ _ (is_drive s.machine d)

window_closed : (s : State) (p i : ℕ) (a : Area) (value : ℕ) → (window_written s p i a value).closed ≡ s.closed
unfolding window_written
window_closed s p i (area.Lapic offset) value = refl
window_closed s p i (area.Ioapic offset) value = refl
window_closed s p i (area.Disk d offset) value = drive_closed s d offset value
window_closed s p i a value = refl

performed_as_closed : (s : State) (p j : ℕ) (insn : Insn) (len : ℕ) (x : exec.Shared) (e : Effect) → (performed_as s p j insn len x e).closed ≡ s.closed
unfolding performed_as port_in port_out window_load window_store
performed_as_closed s p j insn len x effect.Done = stored_closed s j x
performed_as_closed s p j insn len x effect.Halt = stepped_closed s j x.ctx true
performed_as_closed s p j insn len x (effect.Trap v error) = trapped_closed s j _ v error
performed_as_closed s p j insn len x (effect.Stop why) = stopped_closed s j why
performed_as_closed s p j insn len x (effect.PortIn port w) = stepped_closed (with_machine s (port_read s.machine port w)) j _ false
performed_as_closed s p j insn len x (effect.PortOut port w value) = stepped_closed (printed (with_machine s (port_written s.machine port w value)) _) j x.ctx false
performed_as_closed s p j insn len x (effect.Load a) = stepped_closed s j _ false
performed_as_closed s p j insn len x (effect.Store a value) = stepped_closed (window_written s p j a value) j x.ctx false ∙ window_closed s p j a value

performed_closed : (s : State) (p j : ℕ) (n : Next) → (performed s p j n).closed ≡ s.closed
unfolding performed
performed_closed s p j (Local insn len) = refl
performed_closed s p j (Shared insn len) = let x = exec.shared (cpu_at s.machine j).ctx insn len s.machine.ram in performed_as_closed s p j insn len x x.effect
performed_closed s p j Undefined = trapped_closed s j _ 6 None
performed_closed s p j OutOfCode = stopped_closed s j _

step_closed : (s : State) (p j : ℕ) → (after_step s p j).closed ≡ s.closed
unfolding after_step
step_closed s p j = performed_closed s p j (next_at s j)

-- ---- control

ordered_closed : (s : State) (o : Order) → (ordered s o).closed ≡ s.closed
unfolding ordered request_cancelled
ordered_closed s (order.Nmi i) = refl
ordered_closed s (order.Cancel c id) = refl
ordered_closed s (order.Set i reg value) = refl
ordered_closed s order.Resume = refl
ordered_closed s o = refl

done_as_closed : (s : State) (o : Option Order) → (noted_as (ordered_as s o) o (said_as s o)).closed ≡ s.closed
unfolding noted
done_as_closed s None = refl
done_as_closed s (Some o) = ordered_closed s o

done_closed : (s : State) → (after_done s).closed ≡ s.closed
unfolding after_done
done_closed s = done_as_closed s (next_order s)

finish_closed : (s : State) (c id : ℕ) → (after_finish s c id).closed ≡ s.closed
unfolding after_finish
finish_closed s c id = refl

-- ---- all of them

-- the entry is Close
abbrev is_close : Entry → Bool
is_close Close = true
is_close e = false

effect_closed : (s : State) (p : ℕ) (e : Entry) → is_close e ≡ false → (effect_of s p e).closed ≡ s.closed
unfolding effect_of after_claim after_start after_exit after_sleep after_wake after_yield after_meet after_pull after_begin after_move after_hold after_put after_feed after_wish after_end after_tick
effect_closed s p (Claim i) m = refl
effect_closed s p (Start i) m = refl
effect_closed s p (Enter i grant) m = enter_closed s p i grant
effect_closed s p (Slice i n) m = slice_closed s i n
effect_closed s p (Step i) m = step_closed s p i
effect_closed s p (Exit i) m = refl
effect_closed s p (Sleep i) m = refl
effect_closed s p (Wake i) m = refl
effect_closed s p (Yield i) m = refl
effect_closed s p (Turn i) m = turn_closed s i
effect_closed s p Meet m = refl
effect_closed s p (Pull d) m = refl
effect_closed s p (Begin d id) m = refl
effect_closed s p (Move d id) m = refl
effect_closed s p (Hold d id) m = refl
effect_closed s p (Put d id ok) m = refl
effect_closed s p (Finish d id) m = finish_closed s d id
effect_closed s p Feed m = refl
effect_closed s p Wish m = refl
effect_closed s p (Done k) m = done_closed s
effect_closed s p (End cause) m = refl
effect_closed s p Close m = absurd (true≢false m)
effect_closed s p (Tick n) m = refl

-- ---- at rest once it is closed

close_rests : (s : State) (p : ℕ) → may_close s p ≡ true → all_idle s.machine ≡ true
unfolding may_close
close_rests s p m = grind (arith, nat_tests, common_steps, and_parts)

closes : (s : State) (p : ℕ) (e : Entry) (b : Bool) → is_close e ≡ b → s.closed ≡ false → allowed s p e ≡ true → (effect_of s p e).closed ≡ true → all_idle (effect_of s p e).machine ≡ true
unfolding allowed effect_of after_close
closes s p Close b is g m h = close_rests s p m
closes s p (Claim i) b is g m h = absurd (true≢false (sym h ∙ effect_closed s p (Claim i) refl ∙ g))
closes s p (Start i) b is g m h = absurd (true≢false (sym h ∙ effect_closed s p (Start i) refl ∙ g))
closes s p (Enter i grant) b is g m h = absurd (true≢false (sym h ∙ effect_closed s p (Enter i grant) refl ∙ g))
closes s p (Slice i n) b is g m h = absurd (true≢false (sym h ∙ effect_closed s p (Slice i n) refl ∙ g))
closes s p (Step i) b is g m h = absurd (true≢false (sym h ∙ effect_closed s p (Step i) refl ∙ g))
closes s p (Exit i) b is g m h = absurd (true≢false (sym h ∙ effect_closed s p (Exit i) refl ∙ g))
closes s p (Sleep i) b is g m h = absurd (true≢false (sym h ∙ effect_closed s p (Sleep i) refl ∙ g))
closes s p (Wake i) b is g m h = absurd (true≢false (sym h ∙ effect_closed s p (Wake i) refl ∙ g))
closes s p (Yield i) b is g m h = absurd (true≢false (sym h ∙ effect_closed s p (Yield i) refl ∙ g))
closes s p (Turn i) b is g m h = absurd (true≢false (sym h ∙ effect_closed s p (Turn i) refl ∙ g))
closes s p Meet b is g m h = absurd (true≢false (sym h ∙ effect_closed s p Meet refl ∙ g))
closes s p (Pull d) b is g m h = absurd (true≢false (sym h ∙ effect_closed s p (Pull d) refl ∙ g))
closes s p (Begin d id) b is g m h = absurd (true≢false (sym h ∙ effect_closed s p (Begin d id) refl ∙ g))
closes s p (Move d id) b is g m h = absurd (true≢false (sym h ∙ effect_closed s p (Move d id) refl ∙ g))
closes s p (Hold d id) b is g m h = absurd (true≢false (sym h ∙ effect_closed s p (Hold d id) refl ∙ g))
closes s p (Put d id ok) b is g m h = absurd (true≢false (sym h ∙ effect_closed s p (Put d id ok) refl ∙ g))
closes s p (Finish d id) b is g m h = absurd (true≢false (sym h ∙ effect_closed s p (Finish d id) refl ∙ g))
closes s p Feed b is g m h = absurd (true≢false (sym h ∙ effect_closed s p Feed refl ∙ g))
closes s p Wish b is g m h = absurd (true≢false (sym h ∙ effect_closed s p Wish refl ∙ g))
closes s p (Done k) b is g m h = absurd (true≢false (sym h ∙ effect_closed s p (Done k) refl ∙ g))
closes s p (End cause) b is g m h = absurd (true≢false (sym h ∙ effect_closed s p (End cause) refl ∙ g))
closes s p (Tick n) b is g m h = absurd (true≢false (sym h ∙ effect_closed s p (Tick n) refl ∙ g))

not_true : (b : Bool) → not b ≡ true → b ≡ false
not_true true h = absurd (true≢false (sym h))
not_true false h = refl

after_rests : (s : State) (x : Signed) → lawful s x.by x.entry ≡ true → (after s x).closed ≡ true → all_idle (after s x).machine ≡ true
unfolding after counted lawful
after_rests s x m h = let t = and_parts (not s.closed) (allowed s x.by x.entry) m in closes s x.by x.entry (is_close x.entry) refl (not_true s.closed t.0) t.1 h

stays_rest : (s : State) (xs : List Signed) (b : Bool) → s.closed ≡ b → (s.closed ≡ true → all_idle s.machine ≡ true) → is_lawful_all s xs ≡ true → (after_all s xs).closed ≡ true → all_idle (after_all s xs).machine ≡ true
stays_rest s [] b e f m h = f h
stays_rest s (x ∷ xs) b e f m h = let t = and_parts (lawful s x.by x.entry) (is_lawful_all (after s x) xs) m in stays_rest (after s x) xs (after s x).closed refl (λ c. after_rests s x t.0 c) t.1 h

boot_open : (start : Start_) → (boot start).closed ≡ false
unfolding first_state
boot_open start = refl

pub closed_rests : (start : Start_) (history : List Signed) → IsLegal start history → (last_state start history).closed ≡ true → all_idle (last_state start history).machine ≡ true
closed_rests start history legal h = stays_rest (boot start) history (boot start).closed refl (λ c. absurd (true≢false (sym c ∙ boot_open start))) legal h

idle_at : (cpus : List Cpu) (i : ℕ) (d : Cpu) → i < length cpus → list_all (λ (c : Cpu). is_idle c.stage) cpus ≡ true → is_idle (get_or cpus i d).stage ≡ true
idle_at [] i d l h = absurd (omega (arith, l))
idle_at (c ∷ cs) zero d l h = (and_parts (is_idle c.stage) _ h).0
idle_at (c ∷ cs) (suc i) d l h = idle_at cs i d (omega (arith, l)) (and_parts (is_idle c.stage) _ h).1

not_both : (st : Owned) (p : ℕ) → is_idle st ≡ true → is_running st p ≡ true → ⊥
not_both Idle p a b = true≢false (sym b)
not_both (Frozen q) p a b = true≢false (sym a)
not_both (Running q) p a b = true≢false (sym a)
not_both (Sleeping q) p a b = true≢false (sym a)

by_cases : (b : Bool) → (b ≡ true → ⊥) → b ≡ false
by_cases true f = absurd (f refl)
by_cases false f = refl

-- where a vCPU runs the run is open
pub open_while_running : (start : Start_) (history : List Signed) (i p : ℕ) → IsLegal start history → i < cpu_count (last_state start history).machine → is_running (cpu_at (last_state start history).machine i).stage p ≡ true → (last_state start history).closed ≡ false
open_while_running start history i p legal l h =
    by_cases (last_state start history).closed (λ c. not_both (cpu_at (last_state start history).machine i).stage p (idle_at (last_state start history).machine.cpus i _ l (closed_rests start history legal c)) h)
