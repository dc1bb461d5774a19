-- Only Close closes a run, and only while no image is out.
use Rattle.std.proofs.Common.{◌≡◌, ℕ, Bool, true, false, not, List, refl, sym, ap, ◌∙◌, inl, inr, ◌⊎◌, Option, Some, None, arith}
use Rattle.std.specs.Prelude.{Result, Ok, Err, if◌then◌else◌}
use Rattle.std.proofs.lemmas.Bool.{and_parts, true≢false}
use Rattle.std.proofs.lemmas.Bool.Decides.{nat_tests}
use Rattle.std.proofs.lemmas.Grind.{common_steps}
use Rattle.vm_law.specs.declared.context.Ctx.{Ctx}
use Rattle.vm_law.specs.declared.context.Stop.{Stop}
use Rattle.vm_law.specs.declared.insn.Insn.{Insn}
use Rattle.vm_law.specs.declared.journal.Entry.{Entry}
use Rattle.vm_law.specs.declared.journal.Entry.TheVariants.{Claim, Start, Enter, Slice, Step, Exit, Sleep, Wake, Yield, Turn, Meet, Pull, Begin, Move, Hold, Put, Finish, Feed, Wish, Done, End, Close, Tick}
use Rattle.vm_law.specs.declared.journal.Signed.{Signed}
use Rattle.vm_law.specs.declared.script.Order.{Order}
use Rattle.vm_law.specs.declared.script.Order.TheVariants as order
use Rattle.vm_lapic.specs.Apic.{ready}
use Rattle.x86_exec.specs.declared.effect.Effect.{Effect}
use Rattle.x86_exec.specs.declared.effect.Effect.TheVariants as effect
use Rattle.x86_exec.specs.Shared as exec
use Rattle.x86_fetch.specs.declared.fetching.Next.{Next}
use Rattle.x86_fetch.specs.declared.fetching.Next.TheVariants.{Local, Shared, Undefined, OutOfCode}
use Rattle.x86_trap.specs.Delivery.{delivered, Delivered}
use Rattle.vm_meet.specs.declared.meeting.Meeting.{Meeting}
use Rattle.vm_state.specs.declared.cpu.Cpu.{Cpu}
use Rattle.vm_state.specs.declared.start.Start as start_type
use Rattle.vm_state.specs.Machine.{cpu_at, takes_nmi, takes_vector}
use Rattle.vm_state.specs.Start.{boot, first_state}
use Rattle.vm_state.specs.State.{State, next_order, none_held, with_machine}
use Rattle.vm_owners.specs.Owners.{after_claim, after_start, after_exit, after_sleep, after_wake, after_yield}
use Rattle.vm_owners.specs.Turn.{turn_in, after_turn}
use Rattle.vm_devices.specs.Ports.{port_read, port_written}
use Rattle.vm_devices.specs.Windows.{window_written}
use Rattle.vm_running.specs.Enter.{stopped_at, entered, settled, delivered_in, taken, nmi_taken, vector_taken, interrupt_taken, after_enter}
use Rattle.vm_running.specs.Slice.{spent, after_slice}
use Rattle.vm_running.specs.Step.{next_at, stepped_to, stored_in, after_trap, trapped, performed_as, performed, after_step, printed, port_in, port_out, window_load, window_store}
use Rattle.vm_disks.specs.Queueing.{after_pull, after_begin}
use Rattle.vm_disks.specs.Moving.{after_move, after_finish}
use Rattle.vm_disks.specs.Images.{after_hold, after_put}
use Rattle.vm_orders.specs.Duties.{after_feed, after_meet, after_tick, after_wish}
use Rattle.vm_orders.specs.Done.{ordered, ordered_as, noted_as, said_as, after_done, request_cancelled, noted}
use Rattle.vm_orders.specs.Ending.{after_end, after_close, may_close}
use Rattle.vm_table.specs.History.{IsLegal, last_state}
use Rattle.vm_table.specs.Table.{allowed, lawful, effect as effect_of, counted, after}
use Rattle.vm_laws.proofs.Accesses.{accessed_window}
use Rattle.vm_laws.proofs.Histories.{keeps_all}
use Rattle.vm_laws.proofs.Needs.{taken_turn}

-- ---- an interrupt

settled_shut : (s : State) (i : ℕ) (d : Delivered) (r : Result (Unit {0}) Stop) → (settled s i d r).closed ≡ s.closed
unfolding settled stopped_at
settled_shut s i d (Ok u) = refl
settled_shut s i d (Err why) = refl

taken_shut : (s : State) (i : ℕ) (c : Cpu) (v : ℕ) (nmi : Bool) → (delivered_in (taken s i c) i v nmi).closed ≡ s.closed
taken_shut s i c v nmi =
    let t = taken s i c in
    let d = delivered (cpu_at t.machine i).ctx t.machine.ram v None nmi in
    settled_shut t i d d.answer

nmi_shut : (s : State) (i : ℕ) → (nmi_taken s i).closed ≡ s.closed
unfolding nmi_taken
nmi_shut s i = taken_shut s i _ 2 true

vector_shut : (s : State) (i : ℕ) (o : Option ℕ) → (vector_taken s i o).closed ≡ s.closed
unfolding vector_taken
vector_shut s i None = refl
vector_shut s i (Some v) = taken_shut s i _ v false

interrupt_if : (s : State) (i : ℕ) (a b : Bool) → (if a then nmi_taken s i else if b then vector_taken s i (ready (cpu_at s.machine i).lapic) else s).closed ≡ s.closed
interrupt_if s i true b = nmi_shut s i
interrupt_if s i false true = vector_shut s i _
interrupt_if s i false false = refl

interrupt_shut : (s : State) (i : ℕ) → (interrupt_taken s i).closed ≡ s.closed
unfolding interrupt_taken
interrupt_shut s i = interrupt_if s i (takes_nmi (cpu_at s.machine i)) (takes_vector (cpu_at s.machine i))

entered_shut : (s : State) (p i grant : ℕ) → (entered s p i grant).closed ≡ s.closed
unfolding entered
entered_shut s p i grant = refl

enter_shut : (s : State) (p i grant : ℕ) → (after_enter s p i grant).closed ≡ s.closed
unfolding after_enter
enter_shut s p i grant = interrupt_shut (entered s p i grant) i ∙ entered_shut s p i grant

turn_in_shut : (s : State) (i : ℕ) (o : Option Meeting) → (turn_in s i o).closed ≡ s.closed
turn_in_shut s i None = refl
turn_in_shut s i (Some x) = (taken_turn s i x.kind).same.2

turn_shut : (s : State) (i : ℕ) → (after_turn s i).closed ≡ s.closed
unfolding after_turn
turn_shut s i = turn_in_shut s i s.machine.meet

slice_shut : (s : State) (i n : ℕ) → (after_slice s i n).closed ≡ s.closed
unfolding after_slice spent
slice_shut s i n = refl

-- ---- an instruction

stepped_shut : (s : State) (j : ℕ) (c : Ctx) (halted : Bool) → (stepped_to s j c halted).closed ≡ s.closed
unfolding stepped_to spent
stepped_shut s j c halted = refl

stopped_shut : (s : State) (j : ℕ) (why : Stop) → (stopped_at s j why).closed ≡ s.closed
unfolding stopped_at
stopped_shut s j why = refl

trap_shut : (s : State) (j : ℕ) (d : Delivered) (r : Result (Unit {0}) Stop) → (after_trap s j d r).closed ≡ s.closed
unfolding stepped_to spent
trap_shut s j d (Ok u) = refl
trap_shut s j d (Err why) = stopped_shut s j why

trapped_shut : (s : State) (j rip v : ℕ) (error : Option ℕ) → (trapped s j rip v error).closed ≡ s.closed
unfolding trapped
trapped_shut s j rip v error = let d = delivered (record (cpu_at s.machine j).ctx { rip = rip }) s.machine.ram v error false in trap_shut s j d d.answer

stored_shut : (s : State) (j : ℕ) (x : exec.Shared) → (stepped_to (stored_in s x) j x.ctx false).closed ≡ s.closed
unfolding stepped_to spent
stored_shut s j x = refl

performed_as_shut : (s : State) (p j : ℕ) (insn : Insn) (len : ℕ) (x : exec.Shared) (e : Effect) → (performed_as s p j insn len x e).closed ≡ s.closed
unfolding performed_as port_in port_out window_load window_store
performed_as_shut s p j insn len x effect.Done = stored_shut s j x
performed_as_shut s p j insn len x effect.Halt = stepped_shut s j x.ctx true
performed_as_shut s p j insn len x (effect.Trap v error) = trapped_shut s j _ v error
performed_as_shut s p j insn len x (effect.Stop why) = stopped_shut s j why
performed_as_shut s p j insn len x (effect.PortIn port w) = stepped_shut (with_machine s (port_read s.machine port w)) j _ false
performed_as_shut s p j insn len x (effect.PortOut port w value) = stepped_shut (printed (with_machine s (port_written s.machine port w value)) _) j x.ctx false
performed_as_shut s p j insn len x (effect.Load a) = stepped_shut s j _ false
performed_as_shut s p j insn len x (effect.Store a value) = stepped_shut (window_written s p j a value) j x.ctx false ∙ (accessed_window s p j a value).closed

performed_shut : (s : State) (p j : ℕ) (n : Next) → (performed s p j n).closed ≡ s.closed
unfolding performed
performed_shut s p j (Local insn len) = refl
performed_shut s p j (Shared insn len) = let x = exec.shared (cpu_at s.machine j).ctx insn len s.machine.ram in performed_as_shut s p j insn len x x.effect
performed_shut s p j Undefined = trapped_shut s j _ 6 None
performed_shut s p j OutOfCode = stopped_shut s j _

step_shut : (s : State) (p j : ℕ) → (after_step s p j).closed ≡ s.closed
unfolding after_step
step_shut s p j = performed_shut s p j (next_at s j)

-- ---- control

ordered_shut : (s : State) (o : Order) → (ordered s o).closed ≡ s.closed
unfolding ordered request_cancelled
ordered_shut s (order.Nmi i) = refl
ordered_shut s (order.Cancel c id) = refl
ordered_shut s (order.Set i reg value) = refl
ordered_shut s order.Resume = refl
ordered_shut s o = refl

done_as_shut : (s : State) (o : Option Order) → (noted_as (ordered_as s o) o (said_as s o)).closed ≡ s.closed
unfolding noted
done_as_shut s None = refl
done_as_shut s (Some o) = ordered_shut s o

done_shut : (s : State) → (after_done s).closed ≡ s.closed
unfolding after_done
done_shut s = done_as_shut s (next_order s)

close_rests : (s : State) (p : ℕ) → may_close s p ≡ true → none_held s ≡ true
unfolding may_close
close_rests s p m = grind (arith, nat_tests, common_steps, and_parts)

-- ---- each entry: it leaves the run as it is, closed or not, or no image is out then

abbrev Shuts : State → State → Type 0
Shuts s t = (t.closed ≡ s.closed) ⊎ (none_held t ≡ true)

effect_shuts : (s : State) (p : ℕ) (e : Entry) → allowed s p e ≡ true → Shuts s (effect_of s p e)
unfolding allowed effect_of after_claim after_start after_exit after_sleep after_wake after_yield after_meet after_pull after_begin after_move after_hold after_put after_finish after_feed after_wish after_end after_close after_tick
effect_shuts s p (Claim i) m = inl refl
effect_shuts s p (Start i) m = inl refl
effect_shuts s p (Enter i grant) m = inl (enter_shut s p i grant)
effect_shuts s p (Slice i n) m = inl (slice_shut s i n)
effect_shuts s p (Step i) m = inl (step_shut s p i)
effect_shuts s p (Exit i) m = inl refl
effect_shuts s p (Sleep i) m = inl refl
effect_shuts s p (Wake i) m = inl refl
effect_shuts s p (Yield i) m = inl refl
effect_shuts s p (Turn i) m = inl (turn_shut s i)
effect_shuts s p Meet m = inl refl
effect_shuts s p (Pull d) m = inl refl
effect_shuts s p (Begin d id) m = inl refl
effect_shuts s p (Move d id) m = inl refl
effect_shuts s p (Hold d id) m = inl refl
effect_shuts s p (Put d id ok) m = inl refl
effect_shuts s p (Finish d id) m = inl refl
effect_shuts s p Feed m = inl refl
effect_shuts s p Wish m = inl refl
effect_shuts s p (Done k) m = inl (done_shut s)
effect_shuts s p (End cause) m = inl refl
effect_shuts s p Close m = inr (close_rests s p m)
effect_shuts s p (Tick n) m = inl refl

-- a closed run has no image out
abbrev pub Rests : State → Type 0
Rests s = s.closed ≡ true → none_held s ≡ true

shut_or_rests : (s t : State) → not s.closed ≡ true → Shuts s t → Rests t
shut_or_rests s t o (inl e) c = absurd (true≢false (sym o ∙ ap not (sym e ∙ c)))
shut_or_rests s t o (inr n) c = n

after_rests : (s : State) (x : Signed) → Rests s → lawful s x.by x.entry ≡ true → Rests (after s x)
unfolding after counted lawful
after_rests s x h m = let a = and_parts (not s.closed) (allowed s x.by x.entry) m in shut_or_rests s (effect_of s x.by x.entry) a.0 (effect_shuts s x.by x.entry a.1)

boot_rests : (start : start_type.Start) → Rests (boot start)
unfolding first_state
boot_rests start c = absurd (true≢false (sym c))

pub last_rests : (start : start_type.Start) (history : List Signed) → IsLegal start history → Rests (last_state start history)
last_rests start history legal = keeps_all Rests after_rests (boot start) history (boot_rests start) legal
