-- A run ends by a failure outside only where an entry of control says so.
use Rattle.std.proofs.Common.{◌≡◌, ℕ, Bool, true, false, cond, List, [], ◌∷◌, refl, sym, ◌∙◌, Option, Some, None, arith, eq-eqb}
use Rattle.std.specs.Prelude.{Result, Ok, Err, if◌then◌else◌, not, ◌||◌, ◌==◌, ◌+◌, length}
use Rattle.std.proofs.lemmas.Bool.{and_parts, true≢false}
use Rattle.std.proofs.lemmas.Bool.Decides.{nat_tests}
use Rattle.std.proofs.lemmas.Grind.{common_steps}
use Rattle.vm_law.specs.declared.context.Ctx.{Ctx}
use Rattle.vm_law.specs.declared.context.Stop.{Stop}
use Rattle.vm_law.specs.declared.insn.Insn.{Insn}
use Rattle.vm_law.specs.declared.journal.EndCause.TheVariants.{Budget, Outside}
use Rattle.vm_law.specs.declared.journal.Entry.{Entry}
use Rattle.vm_law.specs.declared.journal.Entry.TheVariants.{Claim, Start, Enter, Slice, Step, Exit, Sleep, Wake, Yield, Turn, Meet, Pull, Begin, Move, Hold, Put, Finish, Feed, Wish, Done, End, Close, Tick}
use Rattle.vm_law.specs.declared.journal.Signed.{Signed}
use Rattle.vm_law.specs.declared.script.Order.{Order}
use Rattle.vm_law.specs.declared.script.Order.TheVariants as order
use Rattle.vm_lapic.specs.Apic.{ready}
use Rattle.x86_exec.specs.declared.effect.Effect.{Effect}
use Rattle.x86_exec.specs.declared.effect.Effect.TheVariants as effect
use Rattle.x86_exec.specs.Shared as exec
use Rattle.x86_fetch.specs.declared.fetching.Next.{Next}
use Rattle.x86_fetch.specs.declared.fetching.Next.TheVariants.{Local, Shared, Undefined, OutOfCode}
use Rattle.x86_trap.specs.Delivery.{delivered, Delivered}
use Rattle.vm_law.specs.declared.stage.MeetKind.{MeetKind}
use Rattle.vm_law.specs.declared.stage.MeetKind.TheVariants.{Routing, Sample}
use Rattle.vm_meet.specs.declared.meeting.Meeting.{Meeting}
use Rattle.vm_state.specs.declared.run_state.Said.{Said}
use Rattle.vm_state.specs.declared.run_state.Why.{Why}
use Rattle.vm_state.specs.declared.run_state.Why.TheVariants as why
use Rattle.vm_state.specs.declared.cpu.Cpu.{Cpu}
use Rattle.vm_state.specs.Machine.{cpu_at, is_drive, takes_nmi, takes_vector}
use Rattle.vm_state.specs.State.{State, next_order, with_machine}
use Rattle.vm_owners.specs.Owners.{after_claim, after_start, after_exit, after_sleep, after_wake, after_yield}
use Rattle.vm_owners.specs.Turn.{turn_in, turn_taken, with_routing, after_turn}
use Rattle.vm_bus.specs.declared.area.Area.{Area}
use Rattle.vm_bus.specs.declared.area.Area.TheVariants as area
use Rattle.vm_vblk.specs.declared.pulled.WindowEffect.{WindowEffect}
use Rattle.vm_vblk.specs.declared.pulled.WindowEffect.TheVariants as window_effect
use Rattle.vm_state.specs.declared.drive.Drive.{Drive}
use Rattle.vm_devices.specs.Ports.{port_output, port_read, port_written}
use Rattle.vm_devices.specs.Windows.{drive_written, register_followed, window_written}
use Rattle.vm_running.specs.Enter.{stopped_at, entered, settled, delivered_in, taken, nmi_taken, vector_taken, interrupt_taken, after_enter}
use Rattle.vm_running.specs.Slice.{spent, after_slice}
use Rattle.vm_running.specs.Step.{next_at, stepped_to, stored_in, after_trap, trapped, performed_as, performed, after_step, printed, port_in, port_out, window_load, window_store}
use Rattle.vm_disks.specs.Queueing.{after_pull, after_begin}
use Rattle.vm_disks.specs.Moving.{after_move, after_finish}
use Rattle.vm_disks.specs.Images.{after_hold, after_put}
use Rattle.vm_orders.specs.Duties.{after_feed, after_meet, after_tick, after_wish}
use Rattle.vm_orders.specs.Done.{ordered, ordered_as, noted_as, said_as, after_done, request_cancelled, noted}
use Rattle.vm_orders.specs.Ending.{after_end, after_close}
use Rattle.vm_orders.specs.Ending.{may_end}
use Rattle.vm_table.specs.History.{after_all, is_lawful_all}
use Rattle.vm_table.specs.Table.{allowed, effect as effect_of, counted, after, lawful}
use Rattle.vm_turn.specs.History.{signed_by}
use Rattle.vm_threads.specs.Chair.{ends_outside, is_end_outside}

-- the run has ended by a failure outside
abbrev pub is_fault : Option Why → Bool
is_fault (Some why.Outside) = true
is_fault o = false

abbrev Stays : State → State → Type 0
Stays s t = is_fault t.ended ≡ true → is_fault s.ended ≡ true

-- ---- an interrupt

settled_same : (s : State) (i : ℕ) (d : Delivered) (r : Result (Unit {0}) Stop) → Stays s (settled s i d r)
unfolding settled stopped_at
settled_same s i d (Ok u) = λ h. h
settled_same s i d (Err why) = λ h. absurd (true≢false (sym h))

taken_same : (s : State) (i : ℕ) (c : Cpu) (v : ℕ) (nmi : Bool) → Stays s (delivered_in (taken s i c) i v nmi)
taken_same s i c v nmi =
    let t = taken s i c in
    let d = delivered (cpu_at t.machine i).ctx t.machine.ram v None nmi in
    settled_same t i d d.answer

nmi_same : (s : State) (i : ℕ) → Stays s (nmi_taken s i)
unfolding nmi_taken
nmi_same s i = taken_same s i _ 2 true

vector_same : (s : State) (i : ℕ) (o : Option ℕ) → Stays s (vector_taken s i o)
unfolding vector_taken
vector_same s i None = λ h. h
vector_same s i (Some v) = taken_same s i _ v false

interrupt_if : (s : State) (i : ℕ) (a b : Bool) → Stays s (if a then nmi_taken s i else if b then vector_taken s i (ready (cpu_at s.machine i).lapic) else s)
interrupt_if s i true b = nmi_same s i
interrupt_if s i false true = vector_same s i _
interrupt_if s i false false = λ h. h

interrupt_same : (s : State) (i : ℕ) → Stays s (interrupt_taken s i)
unfolding interrupt_taken
interrupt_same s i = interrupt_if s i (takes_nmi (cpu_at s.machine i)) (takes_vector (cpu_at s.machine i))

entered_same : (s : State) (p i grant : ℕ) → Stays s (entered s p i grant)
unfolding entered
entered_same s p i grant = λ h. h

enter_same : (s : State) (p i grant : ℕ) → Stays s (after_enter s p i grant)
unfolding after_enter
enter_same s p i grant = (λ h. entered_same s p i grant (interrupt_same (entered s p i grant) i h))

turn_taken_same : (s : State) (i : ℕ) (kind : MeetKind) → Stays s (turn_taken s i kind)
unfolding turn_taken with_routing
turn_taken_same s i Routing = λ h. h
turn_taken_same s i Sample = λ h. h

turn_in_same : (s : State) (i : ℕ) (o : Option Meeting) → Stays s (turn_in s i o)
turn_in_same s i None = λ h. h
turn_in_same s i (Some x) = turn_taken_same s i x.kind

turn_same : (s : State) (i : ℕ) → Stays s (after_turn s i)
unfolding after_turn
turn_same s i = turn_in_same s i s.machine.meet

slice_same : (s : State) (i n : ℕ) → Stays s (after_slice s i n)
unfolding after_slice spent
slice_same s i n = λ h. h

-- ---- an instruction

stepped_same : (s : State) (j : ℕ) (c : Ctx) (halted : Bool) → Stays s (stepped_to s j c halted)
unfolding stepped_to spent
stepped_same s j c halted = λ h. h

stopped_same : (s : State) (j : ℕ) (why : Stop) → Stays s (stopped_at s j why)
unfolding stopped_at
stopped_same s j why = λ h. absurd (true≢false (sym h))

trap_same : (s : State) (j : ℕ) (d : Delivered) (r : Result (Unit {0}) Stop) → Stays s (after_trap s j d r)
unfolding stepped_to spent
trap_same s j d (Ok u) = λ h. h
trap_same s j d (Err why) = stopped_same s j why

trapped_same : (s : State) (j rip v : ℕ) (error : Option ℕ) → Stays s (trapped s j rip v error)
unfolding trapped
trapped_same s j rip v error = let d = delivered (record (cpu_at s.machine j).ctx { rip = rip }) s.machine.ram v error false in trap_same s j d d.answer

stored_same : (s : State) (j : ℕ) (x : exec.Shared) → Stays s (stepped_to (stored_in s x) j x.ctx false)
unfolding stepped_to spent
stored_same s j x = λ h. h

-- ---- a window

followed_same : (s : State) (d : ℕ) (x : Drive) (e : WindowEffect) → Stays s (register_followed s d x e)
followed_same s d x window_effect.Nothing = λ h. h
followed_same s d x window_effect.Reset = λ h. h

drive_if : (s : State) (d : ℕ) (x : Drive) (e : WindowEffect) (b : Bool) → Stays s (if b then register_followed s d x e else s)
drive_if s d x e true = followed_same s d x e
drive_if s d x e false = λ h. h

drive_same : (s : State) (d offset value : ℕ) → Stays s (drive_written s d offset value)
unfolding drive_written
drive_same s d offset value = drive_if s d _ _ (is_drive s.machine d)

window_same : (s : State) (p i : ℕ) (a : Area) (value : ℕ) → Stays s (window_written s p i a value)
unfolding window_written
window_same s p i (area.Lapic offset) value = λ h. h
window_same s p i (area.Ioapic offset) value = λ h. h
window_same s p i (area.Disk d offset) value = drive_same s d offset value
window_same s p i a value = λ h. h

performed_as_stays : (s : State) (p j : ℕ) (insn : Insn) (len : ℕ) (x : exec.Shared) (e : Effect) → Stays s (performed_as s p j insn len x e)
unfolding performed_as port_in port_out window_load window_store
performed_as_stays s p j insn len x effect.Done = (stored_same s j x)
performed_as_stays s p j insn len x effect.Halt = (stepped_same s j x.ctx true)
performed_as_stays s p j insn len x (effect.Trap v error) = (trapped_same s j _ v error)
performed_as_stays s p j insn len x (effect.Stop why) = (stopped_same s j why)
performed_as_stays s p j insn len x (effect.PortIn port w) = (stepped_same (with_machine s (port_read s.machine port w)) j _ false)
performed_as_stays s p j insn len x (effect.PortOut port w value) =
    stepped_same (printed (with_machine s (port_written s.machine port w value)) (port_output s.machine port w value)) j x.ctx false
performed_as_stays s p j insn len x (effect.Load a) = (stepped_same s j _ false)
performed_as_stays s p j insn len x (effect.Store a value) = (λ h. window_same s p j a value (stepped_same (window_written s p j a value) j x.ctx false h))

performed_stays : (s : State) (p j : ℕ) (n : Next) → Stays s (performed s p j n)
unfolding performed
performed_stays s p j (Local insn len) = λ h. h
performed_stays s p j (Shared insn len) = let x = exec.shared (cpu_at s.machine j).ctx insn len s.machine.ram in performed_as_stays s p j insn len x x.effect
performed_stays s p j Undefined = (trapped_same s j _ 6 None)
performed_stays s p j OutOfCode = (stopped_same s j _)

step_stays : (s : State) (p j : ℕ) → Stays s (after_step s p j)
unfolding after_step
step_stays s p j = performed_stays s p j (next_at s j)

-- ---- control

ordered_same : (s : State) (o : Order) → Stays s (ordered s o)
unfolding ordered request_cancelled
ordered_same s (order.Nmi i) = λ h. h
ordered_same s (order.Cancel c id) = λ h. h
ordered_same s (order.Set i reg value) = λ h. h
ordered_same s order.Resume = λ h. h
ordered_same s o = λ h. h

finished_same : (b : Bool) (o : Option Why) → is_fault (if b then Some why.Finished else o) ≡ true → is_fault o ≡ true
finished_same true o h = absurd (true≢false (sym h))
finished_same false o h = h

noted_same : (s : State) (o : Order) (said : Said) → Stays s (noted s o said)
unfolding noted
noted_same s o said = λ h. finished_same (s.place + 1 == length s.script) s.ended h

done_as_same : (s : State) (o : Option Order) → Stays s (noted_as (ordered_as s o) o (said_as s o))
done_as_same s None = λ h. h
done_as_same s (Some o) = λ h. ordered_same s o (noted_same (ordered s o) o (said_as s (Some o)) h)

done_same : (s : State) → Stays s (after_done s)
unfolding after_done
done_same s = done_as_same s (next_order s)

-- ---- each entry

effect_stays : (s : State) (p : ℕ) (e : Entry) → is_end_outside e ≡ false → Stays s (effect_of s p e)
unfolding effect_of after_claim after_start after_exit after_sleep after_wake after_yield after_meet after_pull after_begin after_move after_hold after_put after_finish after_feed after_wish after_end after_close after_tick
effect_stays s p (Claim i) n = λ h. h
effect_stays s p (Start i) n = λ h. h
effect_stays s p (Enter i grant) n = enter_same s p i grant
effect_stays s p (Slice i k) n = slice_same s i k
effect_stays s p (Step i) n = step_stays s p i
effect_stays s p (Exit i) n = λ h. h
effect_stays s p (Sleep i) n = λ h. h
effect_stays s p (Wake i) n = λ h. h
effect_stays s p (Yield i) n = λ h. h
effect_stays s p (Turn i) n = turn_same s i
effect_stays s p Meet n = λ h. h
effect_stays s p (Pull d) n = λ h. h
effect_stays s p (Begin d id) n = λ h. h
effect_stays s p (Move d id) n = λ h. h
effect_stays s p (Hold d id) n = λ h. h
effect_stays s p (Put d id ok) n = λ h. h
effect_stays s p (Finish d id) n = λ h. h
effect_stays s p Feed n = λ h. h
effect_stays s p Wish n = λ h. h
effect_stays s p (Done k) n = done_same s
effect_stays s p (End Budget) n = λ h. absurd (true≢false (sym h))
effect_stays s p (End Outside) n = absurd (true≢false n)
effect_stays s p Close n = λ h. h
effect_stays s p (Tick k) n = λ h. h

after_stays : (s : State) (x : Signed) → is_end_outside x.entry ≡ false → Stays s (after s x)
unfolding after counted
after_stays s x n = effect_stays s x.by x.entry n

-- ---- it is control's

end_by : (s : State) (p : ℕ) → may_end s p Outside ≡ true → p ≡ 0
unfolding may_end
end_by s p m = grind (arith, nat_tests, common_steps, and_parts)

its_end : (s : State) (p : ℕ) (e : Entry) → is_end_outside e ≡ true → allowed s p e ≡ true → p ≡ 0
unfolding allowed
its_end s p (End Outside) h m = end_by s p m
its_end s p e h m = absurd (true≢false (sym h))

end_of_control : (s : State) (x : Signed) → lawful s x.by x.entry ≡ true → is_end_outside x.entry ≡ true → x.by ≡ 0
unfolding lawful
end_of_control s x m h = its_end s x.by x.entry h (and_parts (not s.closed) (allowed s x.by x.entry) m).1

none_of : (a b : Bool) → (a || b) ≡ false → (a ≡ false) × (b ≡ false)
none_of true b h = absurd (true≢false h)
none_of false b h = (refl, h)

not_so : (b : Bool) → (b ≡ true → ⊥) → b ≡ false
not_so true f = absurd (f refl)
not_so false f = refl

its_tail : (x : Signed) (xs : List Signed) → ends_outside (signed_by 0 (x ∷ xs)) ≡ false → ends_outside (signed_by 0 xs) ≡ false
its_tail x xs n = at (x.by == 0) n
  where
    at : (b : Bool) → ends_outside (cond b (x ∷ signed_by 0 xs) (signed_by 0 xs)) ≡ false → ends_outside (signed_by 0 xs) ≡ false
    at true k = (none_of (is_end_outside x.entry) (ends_outside (signed_by 0 xs)) k).1
    at false k = k

its_head : (s : State) (x : Signed) (xs : List Signed) → lawful s x.by x.entry ≡ true → ends_outside (signed_by 0 (x ∷ xs)) ≡ false → is_end_outside x.entry ≡ false
its_head s x xs m n = at (x.by == 0) refl n
  where
    at : (b : Bool) → (x.by == 0) ≡ b → ends_outside (cond b (x ∷ signed_by 0 xs) (signed_by 0 xs)) ≡ false → is_end_outside x.entry ≡ false
    at true is k = (none_of (is_end_outside x.entry) (ends_outside (signed_by 0 xs)) k).0
    at false is k = not_so (is_end_outside x.entry) (λ e. true≢false (sym (eq-eqb x.by 0 (end_of_control s x m e)) ∙ is))

-- where control says so nowhere, the run hasn't ended so
pub never_so : (s : State) (xs : List Signed) → is_lawful_all s xs ≡ true → ends_outside (signed_by 0 xs) ≡ false → is_fault (after_all s xs).ended ≡ true → is_fault s.ended ≡ true
never_so s [] m n h = h
never_so s (x ∷ xs) m n h =
    let t = and_parts (lawful s x.by x.entry) (is_lawful_all (after s x) xs) m in
    after_stays s x (its_head s x xs t.0 n) (never_so (after s x) xs t.1 (its_tail x xs n) h)
