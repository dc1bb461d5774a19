-- No entry changes whether a drive is read-only.
use Rattle.std.specs.Prelude.{Option, Some, None, Result, Ok, Err, if◌then◌else◌}
use Rattle.std.proofs.Common.{◌≡◌, ℕ, Bool, true, false, List, get_or, refl, sym, ap, ◌∙◌}
use Rattle.std.proofs.Math.ListN.{get_or-map}
use Rattle.vm_law.specs.declared.context.Ctx.{Ctx}
use Rattle.vm_law.specs.declared.context.Stop.{Stop}
use Rattle.vm_law.specs.declared.insn.Insn.{Insn}
use Rattle.vm_law.specs.declared.journal.Entry.{Entry}
use Rattle.vm_law.specs.declared.journal.Entry.TheVariants.{Claim, Start, Enter, Slice, Step, Exit, Sleep, Wake, Yield, Turn, Meet, Pull, Begin, Move, Hold, Put, Finish, Feed, Wish, Done, End, Close, Tick}
use Rattle.vm_law.specs.declared.journal.Signed.{Signed}
use Rattle.vm_law.specs.declared.script.Order.{Order}
use Rattle.vm_law.specs.declared.script.Order.TheVariants as order
use Rattle.vm_law.specs.declared.stage.MeetKind.{MeetKind}
use Rattle.vm_law.specs.declared.stage.MeetKind.TheVariants.{Routing, Sample}
use Rattle.vm_lapic.specs.Apic.{ready}
use Rattle.vm_meet.specs.declared.meeting.Meeting.{Meeting}
use Rattle.blk_queue.specs.declared.progress.Unfinished.{Unfinished}
use Rattle.blk_queue.specs.Progress.{told}
use Rattle.blk_queue.specs.Queue.{request_of}
use Rattle.blk_queue.specs.Steps.{left}
use Rattle.blk_queue.specs.declared.progress.Finished.{Finished}
use Rattle.vm_vblk.specs.Queue.{Pull as Pulling, pull_of, completed, counted as window_counted}
use Rattle.x86_exec.specs.Shared as exec
use Rattle.x86_exec.specs.declared.effect.Effect.{Effect}
use Rattle.x86_exec.specs.declared.effect.Effect.TheVariants as effect
use Rattle.x86_fetch.specs.declared.fetching.Next.{Next}
use Rattle.x86_fetch.specs.declared.fetching.Next.TheVariants.{Local, Shared, Undefined, OutOfCode}
use Rattle.x86_trap.specs.Delivery.{Delivered, delivered}
use Rattle.vm_state.specs.declared.cpu.Cpu.{Cpu}
use Rattle.vm_state.specs.declared.drive.Drive.{Drive}
use Rattle.vm_state.specs.declared.run_state.Said.{Said}
use Rattle.vm_state.specs.Machine.{MachineState, cpu_at, drive_at, no_drive, takes_nmi, takes_vector, with_cpu}
use Rattle.vm_state.specs.State.{State, next_order}
use Rattle.vm_devices.specs.Windows.{window_written}
use Rattle.vm_owners.specs.Owners.{after_claim, after_start, after_exit, after_sleep, after_wake, after_yield}
use Rattle.vm_owners.specs.Turn.{after_turn, turn_in, turn_taken, with_routing}
use Rattle.vm_running.specs.Enter.{after_enter, delivered_in, entered, interrupt_taken, nmi_taken, settled, stopped_at, taken, vector_taken}
use Rattle.vm_running.specs.Slice.{after_slice, spent}
use Rattle.vm_running.specs.Step.{after_step, after_trap, performed, performed_as, port_in, port_out, stepped_to, trapped, window_load, window_store, next_at, pushed_rip}
use Rattle.vm_disks.specs.Queueing.{after_pull, after_begin, pulled_in, with_pulled, with_queue}
use Rattle.vm_disks.specs.Moving.{after_move, after_finish, finished_as, told_driver}
use Rattle.vm_disks.specs.Images.{after_hold, after_put}
use Rattle.vm_orders.specs.Duties.{after_meet, after_feed, after_wish, after_tick}
use Rattle.vm_orders.specs.Done.{after_done, noted, noted_as, ordered, ordered_as, request_cancelled, said_as}
use Rattle.vm_orders.specs.Ending.{after_end, after_close}
use Rattle.vm_table.specs.Table.{after, counted, effect as step_of}
use Rattle.vm_soloing.proofs.RightsParts.{SameParts, SamePlan, then_parts, same_parts, cpu_parts, drive_parts, serial_parts, port_read_parts, port_written_parts, window_parts, window_plan, ticked_parts, same_plan, then_plan, machine_plan}

-- ---- owners

cpu_plan : (s : State) (i : ℕ) (c : Cpu) → SamePlan s (record s { machine = with_cpu s.machine i c })
cpu_plan s i c = record { parts = cpu_parts s.machine i c }

claim_plan : (s : State) (p i : ℕ) → SamePlan s (after_claim s p i)
unfolding after_claim
claim_plan s p i = cpu_plan s i _

start_plan : (s : State) (i : ℕ) → SamePlan s (after_start s i)
unfolding after_start
start_plan s i = cpu_plan s i _

exit_plan : (s : State) (p i : ℕ) → SamePlan s (after_exit s p i)
unfolding after_exit
exit_plan s p i = record { parts = cpu_parts s.machine i _ }

sleep_plan : (s : State) (p i : ℕ) → SamePlan s (after_sleep s p i)
unfolding after_sleep
sleep_plan s p i = cpu_plan s i _

wake_plan : (s : State) (p i : ℕ) → SamePlan s (after_wake s p i)
unfolding after_wake
wake_plan s p i = cpu_plan s i _

yield_plan : (s : State) (i : ℕ) → SamePlan s (after_yield s i)
unfolding after_yield
yield_plan s i = cpu_plan s i _

taken_plan : (s : State) (i : ℕ) (k : MeetKind) → SamePlan s (turn_taken s i k)
unfolding turn_taken with_routing
taken_plan s i Routing = cpu_plan s i _
taken_plan s i Sample = record { parts = record { ro = refl } }

turn_plan_in : (s : State) (i : ℕ) (o : Option Meeting) → SamePlan s (turn_in s i o)
turn_plan_in s i None = same_plan s
turn_plan_in s i (Some x) = let k = taken_plan s i x.kind in record { parts = record { ro = k.parts.ro } }

turn_plan : (s : State) (i : ℕ) → SamePlan s (after_turn s i)
unfolding after_turn
turn_plan s i = turn_plan_in s i s.machine.meet

-- ---- Enter

settled_plan : (s : State) (i : ℕ) (d : Delivered) (r : Result (Unit {0}) Stop) → SamePlan s (settled s i d r)
unfolding settled stopped_at
settled_plan s i d (Ok u) = record { parts = record { ro = (cpu_parts s.machine i (record (cpu_at s.machine i) { ctx = d.ctx })).ro } }
settled_plan s i d (Err why) = record { parts = record { ro = refl } }

taking_plan : (s : State) (i : ℕ) (c : Cpu) → SamePlan s (taken s i c)
taking_plan s i c = record { parts = cpu_parts s.machine i c }

delivered_plan : (s : State) (i : ℕ) (c : Cpu) (v : ℕ) (nmi : Bool) → SamePlan s (delivered_in (taken s i c) i v nmi)
delivered_plan s i c v nmi = let t = taken s i c in then_plan s t (delivered_in t i v nmi) (taking_plan s i c) (settled_plan t i (delivered (cpu_at t.machine i).ctx t.machine.ram v None nmi) _)

nmi_plan : (s : State) (i : ℕ) → SamePlan s (nmi_taken s i)
unfolding nmi_taken
nmi_plan s i = delivered_plan s i _ 2 true

vector_plan : (s : State) (i : ℕ) (o : Option ℕ) → SamePlan s (vector_taken s i o)
unfolding vector_taken
vector_plan s i None = same_plan s
vector_plan s i (Some v) = delivered_plan s i _ v false

interrupt_if : (s : State) (i : ℕ) (a b : Bool) → SamePlan s (if a then nmi_taken s i else if b then vector_taken s i (ready (cpu_at s.machine i).lapic) else s)
interrupt_if s i true b = nmi_plan s i
interrupt_if s i false true = vector_plan s i (ready (cpu_at s.machine i).lapic)
interrupt_if s i false false = same_plan s

interrupt_plan : (s : State) (i : ℕ) → SamePlan s (interrupt_taken s i)
unfolding interrupt_taken
interrupt_plan s i = interrupt_if s i (takes_nmi (cpu_at s.machine i)) (takes_vector (cpu_at s.machine i))

entered_plan : (s : State) (p i grant : ℕ) → SamePlan s (entered s p i grant)
unfolding entered
entered_plan s p i grant = record { parts = cpu_parts s.machine i _ }

enter_plan : (s : State) (p i grant : ℕ) → SamePlan s (after_enter s p i grant)
unfolding after_enter
enter_plan s p i grant = then_plan s (entered s p i grant) (after_enter s p i grant) (entered_plan s p i grant) (interrupt_plan (entered s p i grant) i)

-- ---- Slice and Step

slice_plan : (s : State) (i n : ℕ) → SamePlan s (after_slice s i n)
unfolding after_slice spent
slice_plan s i n = record { parts = cpu_parts s.machine i _ }

stepped_plan : (s : State) (i : ℕ) (c : Ctx) (halted : Bool) → SamePlan s (stepped_to s i c halted)
unfolding stepped_to spent
stepped_plan s i c halted = record { parts = cpu_parts s.machine i _ }

stopped_plan : (s : State) (i : ℕ) (why : Stop) → SamePlan s (stopped_at s i why)
unfolding stopped_at
stopped_plan s i why = record { parts = same_parts s.machine }

-- another memory, and other versions, as many
stored_plan : (s t : State) (i : ℕ) (c : Ctx) (halted : Bool) → SamePlan s t → SamePlan s (stepped_to t i c halted)
stored_plan s t i c halted k = then_plan s t (stepped_to t i c halted) k (stepped_plan t i c halted)

trap_plan : (s : State) (i : ℕ) (d : Delivered) (r : Result (Unit {0}) Stop) → SamePlan s (after_trap s i d r)
trap_plan s i d (Ok u) = stored_plan s _ i d.ctx false (record { parts = record { ro = refl } })
trap_plan s i d (Err why) = stopped_plan s i why

trapped_plan : (s : State) (i rip v : ℕ) (error : Option ℕ) → SamePlan s (trapped s i rip v error)
unfolding trapped
trapped_plan s i rip v error = let d = delivered (record (cpu_at s.machine i).ctx { rip = rip }) s.machine.ram v error false in trap_plan s i d d.answer

as_plan : (s : State) (p i : ℕ) (insn : Insn) (len : ℕ) (x : exec.Shared) (e : Effect) → SamePlan s (performed_as s p i insn len x e)
unfolding performed_as port_in port_out window_load window_store
as_plan s p i insn len x effect.Done =
    stored_plan s _ i x.ctx false (record { parts = record { ro = refl } })
as_plan s p i insn len x effect.Halt = stepped_plan s i x.ctx true
as_plan s p i insn len x (effect.Trap v error) = trapped_plan s i (pushed_rip (cpu_at s.machine i).ctx insn.op len) v error
as_plan s p i insn len x (effect.Stop why) = stopped_plan s i why
as_plan s p i insn len x (effect.PortIn port w) = stored_plan s _ i _ false (record { parts = port_read_parts s.machine port w })
as_plan s p i insn len x (effect.PortOut port w value) = stored_plan s _ i x.ctx false (record { parts = port_written_parts s.machine port w value })
as_plan s p i insn len x (effect.Load a) = stepped_plan s i _ false
as_plan s p i insn len x (effect.Store a value) = stored_plan s (window_written s p i a value) i x.ctx false (window_plan s p i a value)

performed_plan : (s : State) (p i : ℕ) (n : Next) → SamePlan s (performed s p i n)
unfolding performed
performed_plan s p i (Local insn len) = same_plan s
performed_plan s p i (Shared insn len) = let x = exec.shared (cpu_at s.machine i).ctx insn len s.machine.ram in as_plan s p i insn len x x.effect
performed_plan s p i Undefined = trapped_plan s i (cpu_at s.machine i).ctx.rip 6 None
performed_plan s p i OutOfCode = stopped_plan s i _

step_plan : (s : State) (p i : ℕ) → SamePlan s (after_step s p i)
unfolding after_step
step_plan s p i = performed_plan s p i (next_at s i)

-- ---- block devices

pulled_parts : (m : MachineState) (d : ℕ) (x : Pulling) → SameParts m (pulled_in m d x)
unfolding pulled_in
pulled_parts m d x = let k = window_parts (record m { ram = x.memory }) d (with_pulled (drive_at m d) x) refl in record { ro = k.ro }

pull_plan : (s : State) (d : ℕ) → SamePlan s (after_pull s d)
unfolding after_pull
pull_plan s d = machine_plan s _ (pulled_parts s.machine d (pull_of s.machine.ram (drive_at s.machine d).window))

begin_plan : (s : State) (p d : ℕ) → SamePlan s (after_begin s p d)
unfolding after_begin
begin_plan s p d = machine_plan s _ (drive_parts s.machine d _ refl)

move_plan : (s : State) (d id : ℕ) → SamePlan s (after_move s d id)
unfolding after_move
move_plan s d id = machine_plan s _ (let k = drive_parts s.machine d _ refl in record { ro = k.ro })

hold_plan : (s : State) (p d id : ℕ) → SamePlan s (after_hold s p d id)
unfolding after_hold
hold_plan s p d id = record { parts = drive_parts s.machine d _ refl }

put_plan : (s : State) (d id : ℕ) (ok : Bool) → SamePlan s (after_put s d id ok)
unfolding after_put
put_plan s d id ok = record { parts = drive_parts s.machine d _ refl }

told_parts : (m : MachineState) (d : ℕ) (x : Finished) → SameParts m (told_driver m d x)
unfolding told_driver
told_parts m d x =
    let ram = completed m.ram (drive_at m d).window x.head x.status_at x.status x.len in
    let k = window_parts (record m { ram = ram }) d (record (drive_at m d) { window = window_counted ram (drive_at m d).window }) refl in record { ro = k.ro }

told_if : (m : MachineState) (d : ℕ) (x : Finished) (b : Bool) → SameParts m (if b then m else told_driver m d x)
told_if m d x true = same_parts m
told_if m d x false = told_parts m d x

finished_parts : (m : MachineState) (d : ℕ) (o : Option Unfinished) → SameParts m (finished_as m d o)
finished_parts m d None = same_parts m
finished_parts m d (Some x) = told_if m d (told x) (told x).silent

finish_plan : (s : State) (d id : ℕ) → SamePlan s (after_finish s d id)
unfolding after_finish
finish_plan s d id =
    let m = with_queue s.machine d (left (drive_at s.machine d).queue id) in
    let o = request_of (drive_at s.machine d).queue id in
    record { parts = then_parts s.machine m (finished_as m d o) (drive_parts s.machine d _ refl) (finished_parts m d o) }

-- ---- control

feed_plan : (s : State) → SamePlan s (after_feed s)
unfolding after_feed
feed_plan s = record { parts = serial_parts s.machine _ }

ordered_plan : (s : State) (o : Order) → SamePlan s (ordered s o)
unfolding ordered request_cancelled
ordered_plan s (order.Nmi i) = cpu_plan s i _
ordered_plan s (order.Cancel d id) = record { parts = drive_parts s.machine d _ refl }
ordered_plan s (order.Set i reg value) = cpu_plan s i _
ordered_plan s order.Resume = record { parts = record { ro = refl } }
ordered_plan s o = same_plan s

noted_plan : (s : State) (o : Order) (said : Said) → SamePlan s (noted s o said)
unfolding noted
noted_plan s o said = record { parts = same_parts s.machine }

done_as_plan : (s : State) (o : Option Order) → SamePlan s (noted_as (ordered_as s o) o (said_as s o))
done_as_plan s None = same_plan s
done_as_plan s (Some o) = then_plan s (ordered s o) _ (ordered_plan s o) (noted_plan (ordered s o) o _)

done_plan : (s : State) → SamePlan s (after_done s)
unfolding after_done
done_plan s = done_as_plan s (next_order s)

-- ---- each entry

effect_plan : (s : State) (p : ℕ) (e : Entry) → SamePlan s (step_of s p e)
unfolding step_of after_meet after_wish after_end after_close after_tick
effect_plan s p (Claim i) = claim_plan s p i
effect_plan s p (Start i) = start_plan s i
effect_plan s p (Enter i grant) = enter_plan s p i grant
effect_plan s p (Slice i n) = slice_plan s i n
effect_plan s p (Step i) = step_plan s p i
effect_plan s p (Exit i) = exit_plan s p i
effect_plan s p (Sleep i) = sleep_plan s p i
effect_plan s p (Wake i) = wake_plan s p i
effect_plan s p (Yield i) = yield_plan s i
effect_plan s p (Turn i) = turn_plan s i
effect_plan s p Meet = record { parts = record { ro = refl } }
effect_plan s p (Pull d) = pull_plan s d
effect_plan s p (Begin d id) = begin_plan s p d
effect_plan s p (Move d id) = move_plan s d id
effect_plan s p (Hold d id) = hold_plan s p d id
effect_plan s p (Put d id ok) = put_plan s d id ok
effect_plan s p (Finish d id) = finish_plan s d id
effect_plan s p Feed = feed_plan s
effect_plan s p Wish = record { parts = record { ro = refl } }
effect_plan s p (Done k) = done_plan s
effect_plan s p (End cause) = record { parts = same_parts s.machine }
effect_plan s p Close = record { parts = same_parts s.machine }
effect_plan s p (Tick n) = record { parts = ticked_parts s.machine n }

pub after_plan : (s : State) (x : Signed) → SamePlan s (after s x)
unfolding after counted
after_plan s x = let k = effect_plan s x.by x.entry in record { parts = k.parts }

pub after_ro : (s : State) (x : Signed) (d : ℕ) → (drive_at (after s x).machine d).ro ≡ (drive_at s.machine d).ro
after_ro s x d =
    sym (get_or-map (λ (y : Drive). y.ro) (after s x).machine.drives d no_drive) ∙ ap (λ (bs : List Bool). get_or bs d no_drive.ro) (after_plan s x).parts.ro ∙ get_or-map (λ (y : Drive). y.ro) s.machine.drives d no_drive
