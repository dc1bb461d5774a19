-- What the console received stays after each entry, and control still fits.
use Rattle.std.proofs.Common.{◌≡◌, ℕ, Bool, true, false, List, [], ◌++◌, append_assoc, refl, sym, ap, ◌∙◌, Option, Some, None}
use Rattle.std.specs.Prelude.{Result, Ok, Err, if◌then◌else◌}
use Rattle.std.specs.Option.{option_to_list}
use Rattle.std.proofs.lemmas.List.{append-nil}
use Rattle.vm_law.specs.declared.context.Ctx.{Ctx}
use Rattle.vm_law.specs.declared.context.Stop.{Stop}
use Rattle.vm_law.specs.declared.insn.Insn.{Insn}
use Rattle.vm_law.specs.declared.journal.Entry.{Entry}
use Rattle.vm_law.specs.declared.journal.Entry.TheVariants.{Claim, Start, Enter, Slice, Step, Exit, Sleep, Wake, Yield, Turn, Meet, Pull, Begin, Move, Hold, Put, Finish, Feed, Wish, Done, End, Close, Tick}
use Rattle.vm_law.specs.declared.journal.Signed.{Signed}
use Rattle.vm_law.specs.declared.script.Order.{Order}
use Rattle.vm_law.specs.declared.script.Order.TheVariants as order
use Rattle.vm_lapic.specs.Apic.{ready}
use Rattle.x86_exec.specs.declared.effect.Effect.{Effect}
use Rattle.x86_exec.specs.declared.effect.Effect.TheVariants as effect
use Rattle.x86_exec.specs.Shared as exec
use Rattle.x86_fetch.specs.declared.fetching.Next.{Next}
use Rattle.x86_fetch.specs.declared.fetching.Next.TheVariants.{Local, Shared, Undefined, OutOfCode}
use Rattle.x86_trap.specs.Delivery.{delivered, Delivered}
use Rattle.vm_meet.specs.declared.meeting.Meeting.{Meeting}
use Rattle.vm_state.specs.declared.cpu.Cpu.{Cpu}
use Rattle.vm_state.specs.Machine.{cpu_at, is_drive, takes_nmi, takes_vector}
use Rattle.vm_state.specs.State.{State, next_order, with_machine}
use Rattle.vm_owners.specs.Owners.{after_claim, after_start, after_exit, after_sleep, after_wake, after_yield}
use Rattle.vm_owners.specs.Turn.{turn_in, after_turn}
use Rattle.vm_bus.specs.declared.area.Area.{Area}
use Rattle.vm_bus.specs.declared.area.Area.TheVariants as area
use Rattle.vm_vblk.specs.declared.pulled.WindowEffect.{WindowEffect}
use Rattle.vm_vblk.specs.declared.pulled.WindowEffect.TheVariants as window_effect
use Rattle.vm_state.specs.declared.drive.Drive.{Drive}
use Rattle.vm_devices.specs.Ports.{port_output, port_read, port_written}
use Rattle.vm_devices.specs.Windows.{drive_written, register_followed, window_written}
use Rattle.vm_running.specs.Enter.{stopped_at, entered, settled, delivered_in, taken, nmi_taken, vector_taken, interrupt_taken, after_enter}
use Rattle.vm_running.specs.Slice.{spent, after_slice}
use Rattle.vm_running.specs.Step.{next_at, stepped_to, stored_in, after_trap, trapped, performed_as, performed, after_step, printed, port_in, port_out, window_load, window_store}
use Rattle.vm_disks.specs.Queueing.{after_pull, after_begin}
use Rattle.vm_disks.specs.Moving.{after_move, after_finish}
use Rattle.vm_disks.specs.Images.{after_hold, after_put}
use Rattle.vm_orders.specs.Duties.{after_feed, after_meet, after_tick, after_wish}
use Rattle.vm_orders.specs.Done.{ordered, ordered_as, noted_as, said_as, after_done, request_cancelled, noted}
use Rattle.vm_orders.specs.Ending.{after_end, after_close}
use Rattle.vm_table.specs.Table.{effect as effect_of, counted, after}
use Rattle.vm_control.specs.Fits.{ControlFits}
use Rattle.vm_control.specs.View.{ControlView, new_control}
use Rattle.vm_control.proofs.Duties.{turn_taken_console}

-- bytes may have come
pub record Grows (s t : State) : Type 0 where
  pub more : List ℕ
  pub is : t.console ≡ s.console ++ more

-- ---- an interrupt

settled_same : (s : State) (i : ℕ) (d : Delivered) (r : Result (Unit {0}) Stop) → (settled s i d r).console ≡ s.console
unfolding settled stopped_at
settled_same s i d (Ok u) = refl
settled_same s i d (Err why) = refl

taken_same : (s : State) (i : ℕ) (c : Cpu) (v : ℕ) (nmi : Bool) → (delivered_in (taken s i c) i v nmi).console ≡ s.console
taken_same s i c v nmi =
    let t = taken s i c in
    let d = delivered (cpu_at t.machine i).ctx t.machine.ram v None nmi in
    settled_same t i d d.answer

nmi_same : (s : State) (i : ℕ) → (nmi_taken s i).console ≡ s.console
unfolding nmi_taken
nmi_same s i = taken_same s i _ 2 true

vector_same : (s : State) (i : ℕ) (o : Option ℕ) → (vector_taken s i o).console ≡ s.console
unfolding vector_taken
vector_same s i None = refl
vector_same s i (Some v) = taken_same s i _ v false

interrupt_if : (s : State) (i : ℕ) (a b : Bool) → (if a then nmi_taken s i else if b then vector_taken s i (ready (cpu_at s.machine i).lapic) else s).console ≡ s.console
interrupt_if s i true b = nmi_same s i
interrupt_if s i false true = vector_same s i _
interrupt_if s i false false = refl

interrupt_same : (s : State) (i : ℕ) → (interrupt_taken s i).console ≡ s.console
unfolding interrupt_taken
interrupt_same s i = interrupt_if s i (takes_nmi (cpu_at s.machine i)) (takes_vector (cpu_at s.machine i))

entered_same : (s : State) (p i grant : ℕ) → (entered s p i grant).console ≡ s.console
unfolding entered
entered_same s p i grant = refl

enter_same : (s : State) (p i grant : ℕ) → (after_enter s p i grant).console ≡ s.console
unfolding after_enter
enter_same s p i grant = interrupt_same (entered s p i grant) i ∙ entered_same s p i grant

turn_in_same : (s : State) (i : ℕ) (o : Option Meeting) → (turn_in s i o).console ≡ s.console
turn_in_same s i None = refl
turn_in_same s i (Some x) = turn_taken_console s i x.kind

turn_same : (s : State) (i : ℕ) → (after_turn s i).console ≡ s.console
unfolding after_turn
turn_same s i = turn_in_same s i s.machine.meet

slice_same : (s : State) (i n : ℕ) → (after_slice s i n).console ≡ s.console
unfolding after_slice spent
slice_same s i n = refl

-- ---- an instruction

stepped_same : (s : State) (j : ℕ) (c : Ctx) (halted : Bool) → (stepped_to s j c halted).console ≡ s.console
unfolding stepped_to spent
stepped_same s j c halted = refl

stopped_same : (s : State) (j : ℕ) (why : Stop) → (stopped_at s j why).console ≡ s.console
unfolding stopped_at
stopped_same s j why = refl

trap_same : (s : State) (j : ℕ) (d : Delivered) (r : Result (Unit {0}) Stop) → (after_trap s j d r).console ≡ s.console
unfolding stepped_to spent
trap_same s j d (Ok u) = refl
trap_same s j d (Err why) = stopped_same s j why

trapped_same : (s : State) (j rip v : ℕ) (error : Option ℕ) → (trapped s j rip v error).console ≡ s.console
unfolding trapped
trapped_same s j rip v error = let d = delivered (record (cpu_at s.machine j).ctx { rip = rip }) s.machine.ram v error false in trap_same s j d d.answer

stored_same : (s : State) (j : ℕ) (x : exec.Shared) → (stepped_to (stored_in s x) j x.ctx false).console ≡ s.console
unfolding stepped_to spent
stored_same s j x = refl

-- ---- a window

followed_same : (s : State) (d : ℕ) (x : Drive) (e : WindowEffect) → (register_followed s d x e).console ≡ s.console
followed_same s d x window_effect.Nothing = refl
followed_same s d x window_effect.Reset = refl

drive_if : (s : State) (d : ℕ) (x : Drive) (e : WindowEffect) (b : Bool) → (if b then register_followed s d x e else s).console ≡ s.console
drive_if s d x e true = followed_same s d x e
drive_if s d x e false = refl

drive_same : (s : State) (d offset value : ℕ) → (drive_written s d offset value).console ≡ s.console
unfolding drive_written
drive_same s d offset value = drive_if s d _ _ (is_drive s.machine d)

window_same : (s : State) (p i : ℕ) (a : Area) (value : ℕ) → (window_written s p i a value).console ≡ s.console
unfolding window_written
window_same s p i (area.Lapic offset) value = refl
window_same s p i (area.Ioapic offset) value = refl
window_same s p i (area.Disk d offset) value = drive_same s d offset value
window_same s p i a value = refl

-- ---- an instruction, of which a byte may come

same : (s t : State) → t.console ≡ s.console → Grows s t
same s t e = record { more = []; is = e ∙ sym (append-nil s.console) }

performed_as_grows : (s : State) (p j : ℕ) (insn : Insn) (len : ℕ) (x : exec.Shared) (e : Effect) → Grows s (performed_as s p j insn len x e)
unfolding performed_as port_in port_out window_load window_store
performed_as_grows s p j insn len x effect.Done = same s _ (stored_same s j x)
performed_as_grows s p j insn len x effect.Halt = same s _ (stepped_same s j x.ctx true)
performed_as_grows s p j insn len x (effect.Trap v error) = same s _ (trapped_same s j _ v error)
performed_as_grows s p j insn len x (effect.Stop why) = same s _ (stopped_same s j why)
performed_as_grows s p j insn len x (effect.PortIn port w) = same s _ (stepped_same (with_machine s (port_read s.machine port w)) j _ false)
performed_as_grows s p j insn len x (effect.PortOut port w value) =
    let byte = port_output s.machine port w value in
    record { more = option_to_list byte; is = stepped_same (printed (with_machine s (port_written s.machine port w value)) byte) j x.ctx false }
performed_as_grows s p j insn len x (effect.Load a) = same s _ (stepped_same s j _ false)
performed_as_grows s p j insn len x (effect.Store a value) = same s _ (stepped_same (window_written s p j a value) j x.ctx false ∙ window_same s p j a value)

performed_grows : (s : State) (p j : ℕ) (n : Next) → Grows s (performed s p j n)
unfolding performed
performed_grows s p j (Local insn len) = same s _ refl
performed_grows s p j (Shared insn len) = let x = exec.shared (cpu_at s.machine j).ctx insn len s.machine.ram in performed_as_grows s p j insn len x x.effect
performed_grows s p j Undefined = same s _ (trapped_same s j _ 6 None)
performed_grows s p j OutOfCode = same s _ (stopped_same s j _)

step_grows : (s : State) (p j : ℕ) → Grows s (after_step s p j)
unfolding after_step
step_grows s p j = performed_grows s p j (next_at s j)

-- ---- control

ordered_same : (s : State) (o : Order) → (ordered s o).console ≡ s.console
unfolding ordered request_cancelled
ordered_same s (order.Nmi i) = refl
ordered_same s (order.Cancel c id) = refl
ordered_same s (order.Set i reg value) = refl
ordered_same s order.Resume = refl
ordered_same s o = refl

done_as_same : (s : State) (o : Option Order) → (noted_as (ordered_as s o) o (said_as s o)).console ≡ s.console
unfolding noted
done_as_same s None = refl
done_as_same s (Some o) = ordered_same s o

done_same : (s : State) → (after_done s).console ≡ s.console
unfolding after_done
done_same s = done_as_same s (next_order s)

-- ---- each entry

effect_grows : (s : State) (p : ℕ) (e : Entry) → Grows s (effect_of s p e)
unfolding effect_of after_claim after_start after_exit after_sleep after_wake after_yield after_meet after_pull after_begin after_move after_hold after_put after_finish after_feed after_wish after_end after_close after_tick
effect_grows s p (Claim i) = same s _ refl
effect_grows s p (Start i) = same s _ refl
effect_grows s p (Enter i grant) = same s _ (enter_same s p i grant)
effect_grows s p (Slice i n) = same s _ (slice_same s i n)
effect_grows s p (Step i) = step_grows s p i
effect_grows s p (Exit i) = same s _ refl
effect_grows s p (Sleep i) = same s _ refl
effect_grows s p (Wake i) = same s _ refl
effect_grows s p (Yield i) = same s _ refl
effect_grows s p (Turn i) = same s _ (turn_same s i)
effect_grows s p Meet = same s _ refl
effect_grows s p (Pull d) = same s _ refl
effect_grows s p (Begin d id) = same s _ refl
effect_grows s p (Move d id) = same s _ refl
effect_grows s p (Hold d id) = same s _ refl
effect_grows s p (Put d id ok) = same s _ refl
effect_grows s p (Finish d id) = same s _ refl
effect_grows s p Feed = same s _ refl
effect_grows s p Wish = same s _ refl
effect_grows s p (Done k) = same s _ (done_same s)
effect_grows s p (End cause) = same s _ refl
effect_grows s p Close = same s _ refl
effect_grows s p (Tick n) = same s _ refl

-- what the console received stays, and more may come
pub after_grows : (s : State) (x : Signed) → Grows s (after s x)
unfolding after counted
after_grows s x = let g = effect_grows s x.by x.entry in record { more = g.more; is = g.is }

-- control fits after any entry
pub any_fits : (s : State) (x : Signed) (c : ControlView) → ControlFits s c → ControlFits (after s x) c
any_fits s x c f =
    let g = after_grows s x in
    record { rest = f.rest ++ g.more; console = g.is ∙ ap (λ (l : List ℕ). l ++ g.more) f.console ∙ append_assoc (c.wrote ++ c.held) f.rest g.more }

pub new_fits : (s : State) → ControlFits s new_control
new_fits s = record { rest = s.console; console = refl }
