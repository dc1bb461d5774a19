-- Whether a run is closed or has ended, and how many entries it counts.
use Rattle.std.specs.Prelude.{Option, Some, None, Result, Ok, Err, if◌then◌else◌, is_some}
use Rattle.std.proofs.Common.{◌≡◌, ◌⊎◌, ℕ, Bool, true, false, refl, inl, inr}
use Rattle.vm_law.specs.declared.context.Stop.{Stop}
use Rattle.vm_law.specs.declared.insn.Insn.{Insn}
use Rattle.vm_law.specs.declared.journal.Entry.{Entry}
use Rattle.vm_law.specs.declared.journal.Entry.TheVariants.{Claim, Start, Enter, Slice, Step, Exit, Sleep, Wake, Yield, Turn, Meet, Pull, Begin, Move, Hold, Put, Finish, Feed, Wish, Done, End, Close, Tick}
use Rattle.vm_law.specs.declared.script.Order.{Order}
use Rattle.vm_law.specs.declared.script.Order.TheVariants as order
use Rattle.vm_law.specs.declared.stage.MeetKind.{MeetKind}
use Rattle.vm_law.specs.declared.stage.MeetKind.TheVariants.{Routing, Sample}
use Rattle.vm_meet.specs.declared.meeting.Meeting.{Meeting}
use Rattle.vm_bus.specs.declared.area.Area.{Area}
use Rattle.vm_bus.specs.declared.area.Area.TheVariants as area
use Rattle.vm_vblk.specs.declared.pulled.WindowEffect.{WindowEffect}
use Rattle.vm_vblk.specs.declared.pulled.WindowEffect.TheVariants as window
use Rattle.x86_exec.specs.declared.effect.Effect.{Effect}
use Rattle.x86_exec.specs.declared.effect.Effect.TheVariants as effect
use Rattle.x86_exec.specs.Shared as exec
use Rattle.x86_fetch.specs.declared.fetching.Next.{Next}
use Rattle.x86_fetch.specs.declared.fetching.Next.TheVariants.{Local, Shared, Undefined, OutOfCode}
use Rattle.x86_trap.specs.Delivery.{delivered, Delivered}
use Rattle.vm_lapic.specs.Apic.{ready}
use Rattle.vm_state.specs.declared.drive.Drive.{Drive}
use Rattle.vm_state.specs.Machine.{cpu_at, is_drive, takes_nmi, takes_vector}
use Rattle.vm_state.specs.State.{State, next_order}
use Rattle.vm_owners.specs.Owners.{after_claim, after_start, after_exit, after_sleep, after_wake, after_yield}
use Rattle.vm_owners.specs.Turn.{turn_taken, turn_in, after_turn}
use Rattle.vm_devices.specs.Windows.{register_followed, drive_written, window_written}
use Rattle.vm_running.specs.Enter.{stopped_at, entered, settled, delivered_in, nmi_taken, vector_taken, interrupt_taken, after_enter}
use Rattle.vm_running.specs.Slice.{spent, after_slice}
use Rattle.vm_running.specs.Step.{next_at, stepped_to, stored_in, after_trap, trapped, performed_as, performed, after_step, port_in, port_out, window_load, window_store}
use Rattle.vm_disks.specs.Queueing.{after_pull, after_begin}
use Rattle.vm_disks.specs.Moving.{after_move, after_finish}
use Rattle.vm_disks.specs.Images.{after_hold, after_put}
use Rattle.vm_orders.specs.Duties.{after_feed, after_meet, after_wish, after_tick}
use Rattle.vm_orders.specs.Done.{ordered, ordered_as, noted_as, said_as, after_done, request_cancelled, noted}
use Rattle.vm_orders.specs.Ending.{after_end}
use Rattle.vm_table.specs.Table.{effect as effect_of}

-- what an entry but Close leaves, before it is counted
pub record Stays (s t : State) : Type 0 where
  pub closed : t.closed ≡ s.closed
  pub entries : t.entries ≡ s.entries
  pub ended : is_some s.ended ≡ true → is_some t.ended ≡ true
  pub seen : (t.seen ≡ s.seen) ⊎ (t.seen ≡ s.executed)

itself : (s : State) → Stays s s
itself s = record { closed = refl; entries = refl; ended = λ h. h; seen = inl refl }

-- ---- Enter

choice : (P : State → Type 0) (a b : Bool) (x y z : State) → P x → P y → P z → P (if a then x else if b then y else z)
choice P true b x y z p q r = p
choice P false true x y z p q r = q
choice P false false x y z p q r = r

settled_stays : (s t : State) (i : ℕ) (d : Delivered) (r : Result (Unit {0}) Stop) → Stays s t → Stays s (settled t i d r)
unfolding settled stopped_at
settled_stays s t i d (Ok u) h = record { closed = h.closed; entries = h.entries; ended = h.ended; seen = h.seen }
settled_stays s t i d (Err why) h = record { closed = h.closed; entries = h.entries; ended = λ e. refl; seen = h.seen }

delivered_stays : (s t : State) (i v : ℕ) (nmi : Bool) → Stays s t → Stays s (delivered_in t i v nmi)
delivered_stays s t i v nmi h = let d = delivered (cpu_at t.machine i).ctx t.machine.ram v None nmi in settled_stays s t i d d.answer h

nmi_stays : (s t : State) (i : ℕ) → Stays s t → Stays s (nmi_taken t i)
unfolding nmi_taken
nmi_stays s t i h = delivered_stays s _ i 2 true (record { closed = h.closed; entries = h.entries; ended = h.ended; seen = h.seen })

vector_stays : (s t : State) (i : ℕ) (o : Option ℕ) → Stays s t → Stays s (vector_taken t i o)
unfolding vector_taken
vector_stays s t i None h = h
vector_stays s t i (Some v) h = delivered_stays s _ i v false (record { closed = h.closed; entries = h.entries; ended = h.ended; seen = h.seen })

enter_stays : (s : State) (p i grant : ℕ) → Stays s (after_enter s p i grant)
unfolding after_enter interrupt_taken entered
enter_stays s p i grant =
    let t = entered s p i grant in
    let h : Stays s t = record { closed = refl; entries = refl; ended = λ e. e; seen = inl refl } in
    choice (λ u. Stays s u) (takes_nmi (cpu_at t.machine i)) (takes_vector (cpu_at t.machine i)) (nmi_taken t i) (vector_taken t i (ready (cpu_at t.machine i).lapic)) t
    (nmi_stays s t i h) (vector_stays s t i (ready (cpu_at t.machine i).lapic) h) h

-- ---- Step

stepped_stays : (s t : State) (i : ℕ) (c : _) (halted : Bool) → Stays s t → Stays s (stepped_to t i c halted)
unfolding stepped_to spent
stepped_stays s t i c halted h = record { closed = h.closed; entries = h.entries; ended = h.ended; seen = h.seen }

stopped_stays : (s : State) (i : ℕ) (why : Stop) → Stays s (stopped_at s i why)
unfolding stopped_at
stopped_stays s i why = record { closed = refl; entries = refl; ended = λ e. refl; seen = inl refl }

trap_stays : (s : State) (i : ℕ) (d : Delivered) (r : Result (Unit {0}) Stop) → Stays s (after_trap s i d r)
trap_stays s i d (Ok u) = stepped_stays s _ i d.ctx false (record { closed = refl; entries = refl; ended = λ e. e; seen = inl refl })
trap_stays s i d (Err why) = stopped_stays s i why

trapped_stays : (s : State) (i rip v : ℕ) (error : Option ℕ) → Stays s (trapped s i rip v error)
unfolding trapped
trapped_stays s i rip v error = let d = delivered (record (cpu_at s.machine i).ctx { rip = rip }) s.machine.ram v error false in trap_stays s i d d.answer

followed_stays : (s : State) (d : ℕ) (x : Drive) (e : WindowEffect) → Stays s (register_followed s d x e)
followed_stays s d x window.Nothing = record { closed = refl; entries = refl; ended = λ e. e; seen = inl refl }
followed_stays s d x window.Reset = record { closed = refl; entries = refl; ended = λ e. e; seen = inl refl }

drive_if : (s t : State) (b : Bool) → Stays s t → Stays s (if b then t else s)
drive_if s t true h = h
drive_if s t false h = itself s

drive_stays : (s : State) (d offset value : ℕ) → Stays s (drive_written s d offset value)
unfolding drive_written
drive_stays s d offset value = drive_if s _ (is_drive s.machine d) (followed_stays s d _ _)

window_stays : (s : State) (p i : ℕ) (a : Area) (value : ℕ) → Stays s (window_written s p i a value)
unfolding window_written
window_stays s p i (area.Lapic offset) value = record { closed = refl; entries = refl; ended = λ e. e; seen = inl refl }
window_stays s p i (area.Ioapic offset) value = record { closed = refl; entries = refl; ended = λ e. e; seen = inl refl }
window_stays s p i (area.Disk d offset) value = drive_stays s d offset value
window_stays s p i a value = itself s

performed_as_stays : (s : State) (p i : ℕ) (insn : Insn) (len : ℕ) (x : exec.Shared) (e : Effect) → Stays s (performed_as s p i insn len x e)
unfolding performed_as port_in port_out window_load window_store
performed_as_stays s p i insn len x effect.Done = stepped_stays s (stored_in s x) i x.ctx false (record { closed = refl; entries = refl; ended = λ e. e; seen = inl refl })
performed_as_stays s p i insn len x effect.Halt = stepped_stays s s i x.ctx true (itself s)
performed_as_stays s p i insn len x (effect.Trap v error) = trapped_stays s i _ v error
performed_as_stays s p i insn len x (effect.Stop why) = stopped_stays s i why
performed_as_stays s p i insn len x (effect.PortIn port w) = stepped_stays s _ i _ false (record { closed = refl; entries = refl; ended = λ e. e; seen = inl refl })
performed_as_stays s p i insn len x (effect.PortOut port w value) = stepped_stays s _ i x.ctx false (record { closed = refl; entries = refl; ended = λ e. e; seen = inl refl })
performed_as_stays s p i insn len x (effect.Load a) = stepped_stays s s i _ false (itself s)
performed_as_stays s p i insn len x (effect.Store a value) = stepped_stays s _ i x.ctx false (window_stays s p i a value)

performed_stays : (s : State) (p i : ℕ) (n : Next) → Stays s (performed s p i n)
unfolding performed
performed_stays s p i (Local insn len) = itself s
performed_stays s p i (Shared insn len) = let x = exec.shared (cpu_at s.machine i).ctx insn len s.machine.ram in performed_as_stays s p i insn len x x.effect
performed_stays s p i Undefined = trapped_stays s i _ 6 None
performed_stays s p i OutOfCode = stopped_stays s i _

step_stays : (s : State) (p i : ℕ) → Stays s (after_step s p i)
unfolding after_step
step_stays s p i = performed_stays s p i (next_at s i)

-- ---- the others

taken_stays : (s : State) (i : ℕ) (kind : MeetKind) → Stays s (turn_taken s i kind)
unfolding turn_taken
taken_stays s i Routing = record { closed = refl; entries = refl; ended = λ e. e; seen = inl refl }
taken_stays s i Sample = record { closed = refl; entries = refl; ended = λ e. e; seen = inl refl }

turn_in_stays : (s : State) (i : ℕ) (o : Option Meeting) → Stays s (turn_in s i o)
turn_in_stays s i None = itself s
turn_in_stays s i (Some x) = let h = taken_stays s i x.kind in record { closed = h.closed; entries = h.entries; ended = h.ended; seen = h.seen }

turn_stays : (s : State) (i : ℕ) → Stays s (after_turn s i)
unfolding after_turn
turn_stays s i = turn_in_stays s i s.machine.meet

ordered_stays : (s : State) (o : Order) → Stays s (ordered s o)
unfolding ordered request_cancelled
ordered_stays s (order.Input bytes) = itself s
ordered_stays s (order.Nmi i) = record { closed = refl; entries = refl; ended = λ e. e; seen = inl refl }
ordered_stays s (order.Cancel c id) = record { closed = refl; entries = refl; ended = λ e. e; seen = inl refl }
ordered_stays s (order.Set i reg value) = record { closed = refl; entries = refl; ended = λ e. e; seen = inl refl }
ordered_stays s order.Resume = record { closed = refl; entries = refl; ended = λ e. e; seen = inl refl }
ordered_stays s o = itself s

some_if : {X : Type 0} (b : Bool) (x : X) (o : Option X) → is_some o ≡ true → is_some (if b then Some x else o) ≡ true
some_if true x o h = refl
some_if false x o h = h

done_as_stays : (s : State) (o : Option Order) → Stays s (noted_as (ordered_as s o) o (said_as s o))
unfolding noted
done_as_stays s None = itself s
done_as_stays s (Some o) = let h = ordered_stays s o in record { closed = h.closed; entries = h.entries; ended = λ e. some_if _ _ _ (h.ended e); seen = h.seen }

done_stays : (s : State) → Stays s (after_done s)
unfolding after_done
done_stays s = done_as_stays s (next_order s)

-- it is Close
abbrev pub IsClose : Entry → Type 0
IsClose Close = Unit {0}
IsClose e = ⊥

pub effect_stays : (s : State) (p : ℕ) (e : Entry) → Stays s (effect_of s p e) ⊎ IsClose e
unfolding effect_of after_claim after_start after_exit after_sleep after_wake after_yield after_meet after_wish after_end after_pull after_begin after_move after_hold after_put after_finish after_feed after_slice spent after_tick
effect_stays s p (Claim j) = inl (record { closed = refl; entries = refl; ended = λ e. e; seen = inl refl })
effect_stays s p (Start j) = inl (record { closed = refl; entries = refl; ended = λ e. e; seen = inl refl })
effect_stays s p (Enter j grant) = inl (enter_stays s p j grant)
effect_stays s p (Slice j n) = inl (record { closed = refl; entries = refl; ended = λ e. e; seen = inl refl })
effect_stays s p (Step j) = inl (step_stays s p j)
effect_stays s p (Exit j) = inl (record { closed = refl; entries = refl; ended = λ e. e; seen = inl refl })
effect_stays s p (Sleep j) = inl (record { closed = refl; entries = refl; ended = λ e. e; seen = inl refl })
effect_stays s p (Wake j) = inl (record { closed = refl; entries = refl; ended = λ e. e; seen = inl refl })
effect_stays s p (Yield j) = inl (record { closed = refl; entries = refl; ended = λ e. e; seen = inl refl })
effect_stays s p (Turn j) = inl (turn_stays s j)
effect_stays s p Meet = inl (record { closed = refl; entries = refl; ended = λ e. e; seen = inl refl })
effect_stays s p (Pull d) = inl (record { closed = refl; entries = refl; ended = λ e. e; seen = inl refl })
effect_stays s p (Begin d id) = inl (record { closed = refl; entries = refl; ended = λ e. e; seen = inl refl })
effect_stays s p (Move d id) = inl (record { closed = refl; entries = refl; ended = λ e. e; seen = inl refl })
effect_stays s p (Hold d id) = inl (record { closed = refl; entries = refl; ended = λ e. e; seen = inl refl })
effect_stays s p (Put d id ok) = inl (record { closed = refl; entries = refl; ended = λ e. e; seen = inl refl })
effect_stays s p (Finish d id) = inl (record { closed = refl; entries = refl; ended = λ e. e; seen = inl refl })
effect_stays s p Feed = inl (record { closed = refl; entries = refl; ended = λ e. e; seen = inl refl })
effect_stays s p Wish = inl (record { closed = refl; entries = refl; ended = λ e. e; seen = inl refl })
effect_stays s p (Done k) = inl (done_stays s)
effect_stays s p (End c) = inl (record { closed = refl; entries = refl; ended = λ e. refl; seen = inl refl })
effect_stays s p Close = inr tt
effect_stays s p (Tick n) = inl (record { closed = refl; entries = refl; ended = λ e. e; seen = inr refl })
