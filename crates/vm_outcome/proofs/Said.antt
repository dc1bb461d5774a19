-- What was said to orders: an entry adds to it where it is a Done, and then of the order that comes next.
use Rattle.std.specs.Prelude.{Option, Some, None, Result, Ok, Err, if◌then◌else◌}
use Rattle.std.proofs.Common.{◌≡◌, ℕ, Bool, true, false, refl}
use Rattle.std.proofs.lemmas.Bool.{true≢false}
use Rattle.vm_law.specs.declared.context.Ctx.{Ctx}
use Rattle.vm_law.specs.declared.context.Stop.{Stop}
use Rattle.vm_law.specs.declared.insn.Insn.{Insn}
use Rattle.vm_law.specs.declared.journal.Entry.{Entry}
use Rattle.vm_law.specs.declared.journal.Entry.TheVariants.{Claim, Start, Enter, Slice, Step, Exit, Sleep, Wake, Yield, Turn, Meet, Pull, Begin, Move, Hold, Put, Finish, Feed, Wish, Done, End, Close, Tick}
use Rattle.vm_law.specs.declared.stage.MeetKind.{MeetKind}
use Rattle.vm_law.specs.declared.stage.MeetKind.TheVariants.{Routing, Sample}
use Rattle.vm_bus.specs.declared.area.Area.{Area}
use Rattle.vm_bus.specs.declared.area.Area.TheVariants as area
use Rattle.vm_lapic.specs.Apic.{ready}
use Rattle.vm_meet.specs.declared.meeting.Meeting.{Meeting}
use Rattle.vm_vblk.specs.Register.{register_at}
use Rattle.vm_vblk.specs.Window as window
use Rattle.vm_vblk.specs.declared.pulled.WindowEffect.{WindowEffect}
use Rattle.vm_vblk.specs.declared.pulled.WindowEffect.TheVariants as window_effect
use Rattle.x86_exec.specs.Shared as exec
use Rattle.x86_exec.specs.declared.effect.Effect.{Effect}
use Rattle.x86_exec.specs.declared.effect.Effect.TheVariants as effect
use Rattle.x86_fetch.specs.declared.fetching.Next.{Next}
use Rattle.x86_fetch.specs.declared.fetching.Next.TheVariants.{Local, Shared, Undefined, OutOfCode}
use Rattle.x86_trap.specs.Delivery.{Delivered, delivered}
use Rattle.vm_state.specs.declared.cpu.Cpu.{Cpu}
use Rattle.vm_state.specs.declared.drive.Drive.{Drive}
use Rattle.vm_state.specs.Machine.{cpu_at, drive_at, is_drive, takes_nmi, takes_vector}
use Rattle.vm_state.specs.State.{State, with_image, with_machine}
use Rattle.vm_devices.specs.Windows.{drive_written, register_followed, register_written, window_written}
use Rattle.vm_owners.specs.Owners.{after_claim, after_start, after_exit, after_sleep, after_wake, after_yield}
use Rattle.vm_owners.specs.Turn.{after_turn, turn_in, turn_taken}
use Rattle.vm_running.specs.Enter.{after_enter, delivered_in, entered, interrupt_taken, nmi_taken, settled, stopped_at, taken, vector_taken}
use Rattle.vm_running.specs.Slice.{after_slice, spent}
use Rattle.vm_running.specs.Step.{after_step, after_trap, performed, performed_as, port_in, port_out, stepped_to, trapped, window_load, window_store, next_at, pushed_rip}
use Rattle.vm_disks.specs.Queueing.{after_pull, after_begin}
use Rattle.vm_disks.specs.Moving.{after_move, after_finish}
use Rattle.vm_disks.specs.Images.{after_hold, after_put}
use Rattle.vm_orders.specs.Duties.{after_meet, after_feed, after_wish, after_tick}
use Rattle.vm_orders.specs.Ending.{after_end, after_close}
use Rattle.vm_table.specs.Table.{effect as step_of}

-- the orders that are done, and what was said to them, are the same
abbrev pub SaysSame : State → State → Type 0
SaysSame s t = t.answers ≡ s.answers

taken_says : (s : State) (i : ℕ) (k : MeetKind) → SaysSame s (turn_taken s i k)
unfolding turn_taken
taken_says s i Routing = refl
taken_says s i Sample = refl

turn_says_in : (s : State) (i : ℕ) (o : Option Meeting) → SaysSame s (turn_in s i o)
turn_says_in s i None = refl
turn_says_in s i (Some x) = taken_says s i x.kind

settled_says : (s : State) (i : ℕ) (d : Delivered) (r : Result (Unit {0}) Stop) → SaysSame s (settled s i d r)
unfolding settled stopped_at
settled_says s i d (Ok u) = refl
settled_says s i d (Err why) = refl

delivered_says : (s : State) (i : ℕ) (c : Cpu) (v : ℕ) (nmi : Bool) → SaysSame s (delivered_in (taken s i c) i v nmi)
delivered_says s i c v nmi = let t = taken s i c in settled_says t i (delivered (cpu_at t.machine i).ctx t.machine.ram v None nmi) _

nmi_says : (s : State) (i : ℕ) → SaysSame s (nmi_taken s i)
unfolding nmi_taken
nmi_says s i = delivered_says s i _ 2 true

vector_says : (s : State) (i : ℕ) (o : Option ℕ) → SaysSame s (vector_taken s i o)
unfolding vector_taken
vector_says s i None = refl
vector_says s i (Some v) = delivered_says s i _ v false

interrupt_if : (s : State) (i : ℕ) (a b : Bool) → SaysSame s (if a then nmi_taken s i else if b then vector_taken s i (ready (cpu_at s.machine i).lapic) else s)
interrupt_if s i true b = nmi_says s i
interrupt_if s i false true = vector_says s i (ready (cpu_at s.machine i).lapic)
interrupt_if s i false false = refl

interrupt_says : (s : State) (i : ℕ) → SaysSame s (interrupt_taken s i)
unfolding interrupt_taken
interrupt_says s i = interrupt_if s i (takes_nmi (cpu_at s.machine i)) (takes_vector (cpu_at s.machine i))

enter_says : (s : State) (p i grant : ℕ) → SaysSame s (after_enter s p i grant)
unfolding after_enter entered
enter_says s p i grant = interrupt_says (entered s p i grant) i

stepped_says : (s : State) (i : ℕ) (c : Ctx) (halted : Bool) → SaysSame s (stepped_to s i c halted)
unfolding stepped_to spent
stepped_says s i c halted = refl

stopped_says : (s : State) (i : ℕ) (why : Stop) → SaysSame s (stopped_at s i why)
unfolding stopped_at
stopped_says s i why = refl

trap_says : (s : State) (i : ℕ) (d : Delivered) (r : Result (Unit {0}) Stop) → SaysSame s (after_trap s i d r)
trap_says s i d (Ok u) = stepped_says _ i d.ctx false
trap_says s i d (Err why) = stopped_says s i why

trapped_says : (s : State) (i rip v : ℕ) (error : Option ℕ) → SaysSame s (trapped s i rip v error)
unfolding trapped
trapped_says s i rip v error = let d = delivered (record (cpu_at s.machine i).ctx { rip = rip }) s.machine.ram v error false in trap_says s i d d.answer

register_says : (s : State) (d : ℕ) (x : Drive) (e : WindowEffect) → SaysSame s (register_followed s d x e)
register_says s d x window_effect.Nothing = refl
register_says s d x window_effect.Reset = refl

drive_if : (s : State) (d : ℕ) (x : Drive) (e : WindowEffect) (b : Bool) → SaysSame s (if b then register_followed s d x e else s)
drive_if s d x e true = register_says s d x e
drive_if s d x e false = refl

drive_written_says : (s : State) (d offset value : ℕ) → SaysSame s (drive_written s d offset value)
unfolding drive_written
drive_written_says s d offset value = drive_if s d (register_written s.machine d offset value) (window.effect_of (register_at offset) value) (is_drive s.machine d)

window_says : (s : State) (p i : ℕ) (a : Area) (value : ℕ) → SaysSame s (window_written s p i a value)
unfolding window_written
window_says s p i (area.Lapic offset) value = refl
window_says s p i (area.Ioapic offset) value = refl
window_says s p i (area.Disk d offset) value = drive_written_says s d offset value
window_says s p i a value = refl

as_says : (s : State) (p i : ℕ) (insn : Insn) (len : ℕ) (x : exec.Shared) (e : Effect) → SaysSame s (performed_as s p i insn len x e)
unfolding performed_as port_in port_out window_load window_store stepped_to spent
as_says s p i insn len x effect.Done = refl
as_says s p i insn len x effect.Halt = refl
as_says s p i insn len x (effect.Trap v error) = trapped_says s i (pushed_rip (cpu_at s.machine i).ctx insn.op len) v error
as_says s p i insn len x (effect.Stop why) = stopped_says s i why
as_says s p i insn len x (effect.PortIn port w) = refl
as_says s p i insn len x (effect.PortOut port w value) = refl
as_says s p i insn len x (effect.Load a) = refl
as_says s p i insn len x (effect.Store a value) = window_says s p i a value

performed_says : (s : State) (p i : ℕ) (n : Next) → SaysSame s (performed s p i n)
unfolding performed
performed_says s p i (Local insn len) = refl
performed_says s p i (Shared insn len) = let x = exec.shared (cpu_at s.machine i).ctx insn len s.machine.ram in as_says s p i insn len x x.effect
performed_says s p i Undefined = trapped_says s i (cpu_at s.machine i).ctx.rip 6 None
performed_says s p i OutOfCode = stopped_says s i _

step_says : (s : State) (p i : ℕ) → SaysSame s (after_step s p i)
unfolding after_step
step_says s p i = performed_says s p i (next_at s i)

-- an order is done
abbrev pub is_done : Entry → Bool
is_done (Done k) = true
is_done e = false

pub effect_says : (s : State) (p : ℕ) (e : Entry) → is_done e ≡ false → SaysSame s (step_of s p e)
unfolding step_of after_claim after_start after_exit after_sleep after_wake after_yield after_turn after_slice spent after_pull after_begin after_move after_hold after_put after_finish after_meet after_feed after_wish after_end after_close after_tick
effect_says s p (Claim i) h = refl
effect_says s p (Start i) h = refl
effect_says s p (Enter i grant) h = enter_says s p i grant
effect_says s p (Slice i n) h = refl
effect_says s p (Step i) h = step_says s p i
effect_says s p (Exit i) h = refl
effect_says s p (Sleep i) h = refl
effect_says s p (Wake i) h = refl
effect_says s p (Yield i) h = refl
effect_says s p (Turn i) h = turn_says_in s i s.machine.meet
effect_says s p Meet h = refl
effect_says s p (Pull d) h = refl
effect_says s p (Begin d id) h = refl
effect_says s p (Move d id) h = refl
effect_says s p (Hold d id) h = refl
effect_says s p (Put d id ok) h = refl
effect_says s p (Finish d id) h = refl
effect_says s p Feed h = refl
effect_says s p Wish h = refl
effect_says s p (Done k) h = absurd (true≢false h)
effect_says s p (End cause) h = refl
effect_says s p Close h = refl
effect_says s p (Tick n) h = refl
