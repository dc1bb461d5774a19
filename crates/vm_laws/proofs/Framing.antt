-- What entries leave of vCPUs and their APICs, of the rendezvous, of the interrupt routing and of the timers.
use Rattle.std.proofs.Common.{◌≡◌, ℕ, zero, suc, Bool, true, false, List, length, get_or, refl, sym, ap, subst, ◌∙◌, inl, ◌⊎◌, Option, Some, None}
use Rattle.std.specs.Prelude.{slice_index, Result, Ok, Err, if◌then◌else◌}
use Rattle.std.proofs.Math.ListN.{length-set}
use Rattle.std.proofs.lemmas.Bool.{true≢false}
use Rattle.vm_law.specs.declared.context.Ctx.{Ctx}
use Rattle.vm_law.specs.declared.context.Stop.{Stop}
use Rattle.vm_law.specs.declared.insn.Insn.{Insn}
use Rattle.vm_law.specs.declared.journal.EndCause.{EndCause}
use Rattle.vm_law.specs.declared.script.Order.{Order}
use Rattle.vm_law.specs.declared.script.Order.TheVariants as order
use Rattle.vm_law.specs.declared.stage.Owned.{Owned}
use Rattle.vm_law.specs.declared.stage.Owned.TheVariants.{Idle, Frozen, Running, Sleeping}
use Rattle.vm_law.specs.declared.stage.MeetKind.{MeetKind}
use Rattle.vm_law.specs.declared.stage.MeetKind.TheVariants.{Routing, Sample}
use Rattle.vm_vectors.specs.Vectors.{has}
use Rattle.vm_lapic.specs.declared.effect.Posted.TheVariants.{Set}
use Rattle.vm_lapic.specs.Apic.{Apic, post_answer, posted, ready}
use Rattle.vm_uart.specs.Uart as uart
use Rattle.vm_vblk.specs.Queue as vblk
use Rattle.x86_exec.specs.declared.effect.Effect.{Effect}
use Rattle.x86_exec.specs.declared.effect.Effect.TheVariants as effect
use Rattle.x86_exec.specs.Shared as exec
use Rattle.x86_fetch.specs.declared.fetching.Next.{Next}
use Rattle.x86_fetch.specs.declared.fetching.Next.TheVariants.{Local, Shared, Undefined, OutOfCode}
use Rattle.x86_trap.specs.Delivery.{delivered, Delivered}
use Rattle.blk_queue.specs.declared.progress.Finished.{Finished}
use Rattle.blk_queue.specs.declared.progress.Unfinished.{Unfinished}
use Rattle.blk_queue.specs.Progress.{told}
use Rattle.blk_queue.specs.Queue.{request_of}
use Rattle.vm_state.specs.declared.cpu.Cpu.{Cpu}
use Rattle.vm_state.specs.declared.drive.Drive.{Drive}
use Rattle.vm_state.specs.Machine.{MachineState, cpu_at, cpu_count, with_cpu, with_drive, drive_at, unstarted_cpu, uart_pin, takes_nmi, takes_vector}
use Rattle.vm_state.specs.State.{State, with_machine, next_order}
use Rattle.vm_owners.specs.Owners.{after_claim, after_start, after_exit, after_sleep, after_wake, after_yield}
use Rattle.vm_owners.specs.Turn.{with_routing, turn_taken}
use Rattle.vm_devices.specs.Timers.{fired, fired_below, ticked, vector_of}
use Rattle.vm_devices.specs.Ports.{with_serial, port_read, port_written}
use Rattle.vm_devices.specs.Windows.{with_window, window_written}
use Rattle.vm_running.specs.Enter.{stopped_at, entered, settled, delivered_in, taken, nmi_taken, vector_taken, interrupt_taken, after_enter}
use Rattle.vm_running.specs.Slice.{spent, after_slice}
use Rattle.vm_running.specs.Step.{next_at, stepped_to, stored_in, after_trap, trapped, performed_as, performed, after_step, printed, port_in, port_out, window_load, window_store}
use Rattle.vm_disks.specs.Queueing.{pulled_in, after_pull, after_begin}
use Rattle.vm_disks.specs.Moving.{read_in, after_move, told_driver, finished_as, after_finish}
use Rattle.vm_disks.specs.Images.{written_out, after_hold, after_put}
use Rattle.vm_orders.specs.Duties.{after_feed, after_wish, after_tick}
use Rattle.vm_orders.specs.Done.{ordered, ordered_as, noted_as, said_as, after_done, request_cancelled, noted}
use Rattle.vm_orders.specs.Ending.{after_end, after_close}
use Rattle.vm_laws.proofs.Heard.{CpuHeard, Hears, cpu_set, entries_of, hears_followed, hears_itself, then_hears, hears_cpu, posted_heard}
use Rattle.vm_laws.proofs.Accesses.{CpuAccessed, cpu_accessed, MachineAccessed, accessed_window, accessed_read, accessed_written}

-- ---- of a vCPU

abbrev pub is_run_stage : Owned → Bool
is_run_stage Idle = false
is_run_stage (Frozen p) = false
is_run_stage (Running p) = true
is_run_stage (Sleeping p) = false

-- vectors are requested by posts that were accepted, it doesn't begin to run, and its trigger modes stay
pub record CpuFrame (c d : Cpu) : Type 0 where
  pub keeps : (v : ℕ) → has c.lapic.irr v ≡ true → has d.lapic.irr v ≡ true
  pub sets : (v : ℕ) → has d.lapic.irr v ≡ true → (has c.lapic.irr v ≡ true) ⊎ (post_answer c.lapic v ≡ Set)
  pub runs : is_run_stage d.stage ≡ true → is_run_stage c.stage ≡ true
  pub tmr : d.lapic.tmr ≡ c.lapic.tmr

pub frame_itself : (c : Cpu) → CpuFrame c c
frame_itself c = record { keeps = λ v h. h; sets = λ v h. inl h; runs = λ h. h; tmr = refl }

-- with the same APIC, in a stage in which it doesn't run or the same one
pub frame_stage : (c d : Cpu) → (is_run_stage d.stage ≡ true → is_run_stage c.stage ≡ true) → d.lapic ≡ c.lapic → CpuFrame c d
frame_stage c d r e = record {
  keeps = λ v h. ap (λ (l : Apic). has l.irr v) e ∙ h;
  sets = λ v h. inl (sym (ap (λ (l : Apic). has l.irr v) e) ∙ h);
  runs = r;
  tmr = ap (λ (l : Apic). l.tmr) e;
}

pub frame_accessed : (c d : Cpu) → CpuAccessed c d → CpuFrame c d
frame_accessed c d a = record { keeps = a.keeps; sets = a.sets; runs = λ h. ap is_run_stage (sym a.stage) ∙ h; tmr = a.tmr }

pub frame_then : (c d e : Cpu) → CpuFrame c d → e.stage ≡ d.stage → e.lapic ≡ d.lapic → CpuFrame c e
frame_then c d e f s l = record {
  keeps = λ v h. ap (λ (x : Apic). has x.irr v) l ∙ f.keeps v h;
  sets = λ v h. f.sets v (sym (ap (λ (x : Apic). has x.irr v) l) ∙ h);
  runs = λ h. f.runs (ap is_run_stage (sym s) ∙ h);
  tmr = ap (λ (x : Apic). x.tmr) l ∙ f.tmr;
}

-- ---- of a machine

pub record Frame (m n : MachineState) : Type 0 where
  pub count : cpu_count n ≡ cpu_count m
  pub cpu : (i : ℕ) → CpuFrame (cpu_at m i) (cpu_at n i)
  pub meet : n.meet ≡ m.meet
  pub entries : entries_of n.ioapic ≡ entries_of m.ioapic
  pub timers : n.timers ≡ m.timers

pub frame_same : (m : MachineState) → Frame m m
frame_same m = record { count = refl; cpu = λ i. frame_itself (cpu_at m i); meet = refl; entries = refl; timers = refl }

-- by the parts that it reads
pub frame_by : (m n : MachineState) → n.cpus ≡ m.cpus → n.meet ≡ m.meet → entries_of n.ioapic ≡ entries_of m.ioapic → n.timers ≡ m.timers → Frame m n
frame_by m n c e i t = record { count = ap (λ (xs : List Cpu). length xs) c; cpu = λ k. subst (λ (xs : List Cpu). CpuFrame (cpu_at m k) (get_or xs k (unstarted_cpu k))) (sym c) (frame_itself (cpu_at m k)); meet = e; entries = i; timers = t }

pub frame_cpu : (m : MachineState) (j : ℕ) (c : Cpu) → CpuFrame (cpu_at m j) c → Frame m (with_cpu m j c)
frame_cpu m j c f = record { count = length-set m.cpus j c; cpu = cpu_set CpuFrame m j c (λ k. frame_itself (cpu_at m k)) f; meet = refl; entries = refl; timers = refl }

-- messages follow something that leaves these
pub frame_hears : (m u n : MachineState) → u.cpus ≡ m.cpus → u.meet ≡ m.meet → entries_of u.ioapic ≡ entries_of m.ioapic → u.timers ≡ m.timers → Hears u n → Frame m n
frame_hears m u n c e i t h = record {
  count = h.count ∙ ap (λ (xs : List Cpu). length xs) c;
  cpu = λ k. (let at : cpu_at u k ≡ cpu_at m k = ap (λ (xs : List Cpu). get_or xs k (unstarted_cpu k)) c in frame_accessed (cpu_at m k) (cpu_at n k) (cpu_accessed (cpu_at m k) (cpu_at n k) (subst (λ (x : Cpu). CpuHeard x (cpu_at n k)) at (h.each k))));
  meet = h.meet ∙ e;
  entries = h.entries ∙ i;
  timers = h.timers ∙ t;
}

-- ---- entries of owners

frozen_frame : (m : MachineState) (j : ℕ) (c : Cpu) → is_run_stage c.stage ≡ false → c.lapic ≡ (cpu_at m j).lapic → Frame m (with_cpu m j c)
frozen_frame m j c r l = frame_cpu m j c (frame_stage (cpu_at m j) c (λ h. absurd (true≢false (sym h ∙ r))) l)

pub claim_frame : (s : State) (p j : ℕ) → Frame s.machine (after_claim s p j).machine
unfolding after_claim
claim_frame s p j = frozen_frame s.machine j _ refl refl

pub start_frame : (s : State) (j : ℕ) → Frame s.machine (after_start s j).machine
unfolding after_start
start_frame s j = frame_cpu s.machine j _ (frame_stage (cpu_at s.machine j) _ (λ h. h) refl)

pub exit_frame : (s : State) (p j : ℕ) → Frame s.machine (after_exit s p j).machine
unfolding after_exit
exit_frame s p j = frozen_frame s.machine j _ refl refl

pub sleep_frame : (s : State) (p j : ℕ) → Frame s.machine (after_sleep s p j).machine
unfolding after_sleep
sleep_frame s p j = frozen_frame s.machine j _ refl refl

pub wake_frame : (s : State) (p j : ℕ) → Frame s.machine (after_wake s p j).machine
unfolding after_wake
wake_frame s p j = frozen_frame s.machine j _ refl refl

pub yield_frame : (s : State) (j : ℕ) → Frame s.machine (after_yield s j).machine
unfolding after_yield
yield_frame s j = frozen_frame s.machine j _ refl refl

-- ---- Slice and Step

pub slice_frame : (s : State) (j n : ℕ) → Frame s.machine (after_slice s j n).machine
unfolding after_slice spent
slice_frame s j n = frame_cpu s.machine j _ (frame_stage (cpu_at s.machine j) _ (λ h. h) refl)

-- an instruction after something
pub record Same (m n : MachineState) : Type 0 where
  pub count : cpu_count n ≡ cpu_count m
  pub cpu : (i : ℕ) → ((cpu_at n i).stage ≡ (cpu_at m i).stage) × ((cpu_at n i).lapic ≡ (cpu_at m i).lapic)
  pub meet : n.meet ≡ m.meet
  pub entries : entries_of n.ioapic ≡ entries_of m.ioapic
  pub timers : n.timers ≡ m.timers

pub frame_of_same : (m n : MachineState) → Same m n → Frame m n
frame_of_same m n k = record { count = k.count; cpu = λ i. frame_then (cpu_at m i) (cpu_at m i) (cpu_at n i) (frame_itself (cpu_at m i)) (k.cpu i).0 (k.cpu i).1; meet = k.meet; entries = k.entries; timers = k.timers }

pub stepped_same : (s : State) (j : ℕ) (c : Ctx) (halted : Bool) → Same s.machine (stepped_to s j c halted).machine
unfolding stepped_to spent
stepped_same s j c halted = record {
  count = length-set s.machine.cpus j _;
  cpu = cpu_set (λ x y. (y.stage ≡ x.stage) × (y.lapic ≡ x.lapic)) s.machine j _ (λ k. (refl, refl)) (refl, refl);
  meet = refl;
  entries = refl;
  timers = refl;
}

pub stopped_same : (s : State) (j : ℕ) (why : Stop) → Same s.machine (stopped_at s j why).machine
unfolding stopped_at
stopped_same s j why = record { count = refl; cpu = λ i. (refl, refl); meet = refl; entries = refl; timers = refl }

trap_same : (s : State) (j : ℕ) (d : Delivered) (r : Result (Unit {0}) Stop) → Same s.machine (after_trap s j d r).machine
unfolding stepped_to spent
trap_same s j d (Ok u) = record {
  count = length-set s.machine.cpus j _;
  cpu = cpu_set (λ x y. (y.stage ≡ x.stage) × (y.lapic ≡ x.lapic)) s.machine j _ (λ k. (refl, refl)) (refl, refl);
  meet = refl;
  entries = refl;
  timers = refl;
}
trap_same s j d (Err why) = stopped_same s j why

pub trapped_same : (s : State) (j rip v : ℕ) (error : Option ℕ) → Same s.machine (trapped s j rip v error).machine
unfolding trapped
trapped_same s j rip v error = let d = delivered (record (cpu_at s.machine j).ctx { rip = rip }) s.machine.ram v error false in trap_same s j d d.answer

pub stored_same : (s : State) (j : ℕ) (x : exec.Shared) → Same s.machine (stepped_to (stored_in s x) j x.ctx false).machine
unfolding stepped_to spent
stored_same s j x = record {
  count = length-set s.machine.cpus j _;
  cpu = cpu_set (λ x y. (y.stage ≡ x.stage) × (y.lapic ≡ x.lapic)) s.machine j _ (λ k. (refl, refl)) (refl, refl);
  meet = refl;
  entries = refl;
  timers = refl;
}

-- the vCPUs after an access and the instruction
access_cpu : (s t : State) (j : ℕ) (c : Ctx) (halted : Bool) → MachineAccessed s.machine t.machine → (i : ℕ) → CpuFrame (cpu_at s.machine i) (cpu_at (stepped_to t j c halted).machine i)
access_cpu s t j c halted a i =
    let k = (stepped_same t j c halted).cpu i in
    frame_then (cpu_at s.machine i) (cpu_at t.machine i) (cpu_at (stepped_to t j c halted).machine i) (frame_accessed (cpu_at s.machine i) (cpu_at t.machine i) (a.each i)) k.0 k.1

printed_cpu : (s : State) (m : MachineState) (byte : Option ℕ) (j : ℕ) (c : Ctx) → MachineAccessed s.machine m → (i : ℕ) → CpuFrame (cpu_at s.machine i) (cpu_at (stepped_to (printed (with_machine s m) byte) j c false).machine i)
printed_cpu s m byte j c a i = access_cpu s (printed (with_machine s m) byte) j c false a i

same_cpu_at : (m n : MachineState) → Same m n → (i : ℕ) → CpuFrame (cpu_at m i) (cpu_at n i)
same_cpu_at m n k i = (frame_of_same m n k).cpu i

performed_as_cpu : (s : State) (p j : ℕ) (insn : Insn) (len : ℕ) (x : exec.Shared) (e : Effect) (i : ℕ) → CpuFrame (cpu_at s.machine i) (cpu_at (performed_as s p j insn len x e).machine i)
unfolding performed_as port_in port_out window_load window_store
performed_as_cpu s p j insn len x effect.Done i = same_cpu_at _ _ (stored_same s j x) i
performed_as_cpu s p j insn len x effect.Halt i = same_cpu_at _ _ (stepped_same s j x.ctx true) i
performed_as_cpu s p j insn len x (effect.Trap v error) i = same_cpu_at _ _ (trapped_same s j _ v error) i
performed_as_cpu s p j insn len x (effect.Stop why) i = same_cpu_at _ _ (stopped_same s j why) i
performed_as_cpu s p j insn len x (effect.PortIn port w) i = access_cpu s _ j _ false (accessed_read s port w).machine i
performed_as_cpu s p j insn len x (effect.PortOut port w value) i = printed_cpu s _ _ j x.ctx (accessed_written s port w value).machine i
performed_as_cpu s p j insn len x (effect.Load a) i = same_cpu_at _ _ (stepped_same s j _ false) i
performed_as_cpu s p j insn len x (effect.Store a value) i = access_cpu s (window_written s p j a value) j x.ctx false (accessed_window s p j a value).machine i

performed_cpu : (s : State) (p j : ℕ) (n : Next) (i : ℕ) → CpuFrame (cpu_at s.machine i) (cpu_at (performed s p j n).machine i)
unfolding performed
performed_cpu s p j (Local insn len) i = frame_itself (cpu_at s.machine i)
performed_cpu s p j (Shared insn len) i = let x = exec.shared (cpu_at s.machine j).ctx insn len s.machine.ram in performed_as_cpu s p j insn len x x.effect i
performed_cpu s p j Undefined i = same_cpu_at _ _ (trapped_same s j _ 6 None) i
performed_cpu s p j OutOfCode i = same_cpu_at _ _ (stopped_same s j _) i

pub step_cpu : (s : State) (p j i : ℕ) → CpuFrame (cpu_at s.machine i) (cpu_at (after_step s p j).machine i)
unfolding after_step
step_cpu s p j i = performed_cpu s p j (next_at s j) i

-- ---- Turn: the vCPU's trigger modes alone

pub record TurnFrame (c d : Cpu) : Type 0 where
  pub stage : d.stage ≡ c.stage
  pub irr : d.lapic.irr ≡ c.lapic.irr

pub turn_cpu : (s : State) (j : ℕ) (k : MeetKind) (i : ℕ) → TurnFrame (cpu_at s.machine i) (cpu_at (turn_taken s j k).machine i)
unfolding turn_taken with_routing
turn_cpu s j Routing i = cpu_set TurnFrame s.machine j _ (λ k. record { stage = refl; irr = refl }) (record { stage = refl; irr = refl }) i
turn_cpu s j Sample i = record { stage = refl; irr = refl }

-- ---- entries of workers

pub pull_frame : (s : State) (d : ℕ) → Frame s.machine (after_pull s d).machine
unfolding after_pull pulled_in with_window
pull_frame s d =
    let x = vblk.pull_of s.machine.ram (drive_at s.machine d).window in
    frame_hears s.machine (with_drive (record s.machine { ram = x.memory }) d _) _ refl refl refl refl (hears_followed _ _ _ _)

pub begin_frame : (s : State) (p d : ℕ) → Frame s.machine (after_begin s p d).machine
unfolding after_begin
begin_frame s p d = frame_by s.machine _ refl refl refl refl

record Parts (m n : MachineState) : Type 0 where
  pub cpus : n.cpus ≡ m.cpus
  pub meet : n.meet ≡ m.meet
  pub ioapic : n.ioapic ≡ m.ioapic
  pub timers : n.timers ≡ m.timers

read_in_parts : (m : MachineState) (d : ℕ) (o : ℕ) → Parts m (read_in m d o)
read_in_parts m d o = record { cpus = refl; meet = refl; ioapic = refl; timers = refl }

frame_parts : (m n o : MachineState) → Parts m n → o.cpus ≡ n.cpus → o.meet ≡ n.meet → o.ioapic ≡ n.ioapic → o.timers ≡ n.timers → Frame m o
frame_parts m n o k c e i t = frame_by m o (c ∙ k.cpus) (e ∙ k.meet) (ap entries_of (i ∙ k.ioapic)) (t ∙ k.timers)

pub move_frame : (s : State) (d id : ℕ) → Frame s.machine (after_move s d id).machine
unfolding after_move
move_frame s d id = frame_parts s.machine _ _ (read_in_parts s.machine d id) refl refl refl refl

written_if : (m : MachineState) (d : ℕ) (x : Drive) (b : Bool) → Parts m (if b then m else with_drive m d x)
written_if m d x true = record { cpus = refl; meet = refl; ioapic = refl; timers = refl }
written_if m d x false = record { cpus = refl; meet = refl; ioapic = refl; timers = refl }

written_out_parts : (m : MachineState) (d : ℕ) (o : ℕ) → Parts m (written_out m d o)
written_out_parts m d o = written_if m d _ false

pub hold_frame : (s : State) (p d id : ℕ) → Frame s.machine (after_hold s p d id).machine
unfolding after_hold
hold_frame s p d id = frame_parts s.machine _ _ (written_out_parts s.machine d id) refl refl refl refl

pub put_frame : (s : State) (d id : ℕ) (ok : Bool) → Frame s.machine (after_put s d id ok).machine
unfolding after_put
put_frame s d id ok = frame_by s.machine _ refl refl refl refl

told_frame : (m n : MachineState) (d : ℕ) (x : Finished) → Parts m n → Frame m (told_driver n d x)
unfolding told_driver with_window
told_frame m n d x k = frame_hears m (with_drive (record n { ram = _ }) d _) _ k.cpus k.meet (ap entries_of k.ioapic) k.timers (hears_followed _ _ _ _)

told_if : (m n : MachineState) (d : ℕ) (x : Finished) (b : Bool) → Parts m n → Frame m (if b then n else told_driver n d x)
told_if m n d x true k = frame_parts m n n k refl refl refl refl
told_if m n d x false k = told_frame m n d x k

finished_frame : (m n : MachineState) (d : ℕ) (o : Option Unfinished) → Parts m n → Frame m (finished_as n d o)
finished_frame m n d None k = frame_parts m n n k refl refl refl refl
finished_frame m n d (Some x) k = told_if m n d (told x) (told x).silent k

pub finish_frame : (s : State) (d id : ℕ) → Frame s.machine (after_finish s d id).machine
unfolding after_finish
finish_frame s d id = finished_frame s.machine _ d (request_of (drive_at s.machine d).queue id) (record { cpus = refl; meet = refl; ioapic = refl; timers = refl })

-- ---- entries of control

pub feed_frame : (s : State) → Frame s.machine (after_feed s).machine
unfolding after_feed with_serial
feed_frame s =
    let u = uart.after_receive s.machine.uart (slice_index s.input 0) in
    frame_hears s.machine (record s.machine { uart = u }) _ refl refl refl refl (hears_followed (record s.machine { uart = u }) uart_pin (uart.line s.machine.uart) (uart.line u))

pub wish_frame : (s : State) → Frame s.machine (after_wish s).machine
unfolding after_wish
wish_frame s = frame_by s.machine _ refl refl refl refl

pub end_frame : (s : State) (c : EndCause) → Frame s.machine (after_end s c).machine
unfolding after_end
end_frame s c = frame_same s.machine

pub close_frame : (s : State) → Frame s.machine (after_close s).machine
unfolding after_close
close_frame s = frame_same s.machine

ordered_frame : (s : State) (o : Order) → Frame s.machine (ordered s o).machine
unfolding ordered request_cancelled
ordered_frame s (order.Input bytes) = frame_same s.machine
ordered_frame s (order.Nmi j) = frame_cpu s.machine j _ (frame_stage (cpu_at s.machine j) _ (λ h. h) refl)
ordered_frame s (order.Cancel d id) = frame_by s.machine _ refl refl refl refl
ordered_frame s (order.Set j reg value) = frame_cpu s.machine j _ (frame_stage (cpu_at s.machine j) _ (λ h. h) refl)
ordered_frame s order.Resume = frame_by s.machine _ refl refl refl refl
ordered_frame s o = frame_same s.machine

done_as_frame : (s : State) (o : Option Order) → Frame s.machine (noted_as (ordered_as s o) o (said_as s o)).machine
unfolding noted
done_as_frame s None = frame_same s.machine
done_as_frame s (Some o) = ordered_frame s o

pub done_frame : (s : State) → Frame s.machine (after_done s).machine
unfolding after_done
done_frame s = done_as_frame s (next_order s)

-- ---- Tick: timers that fire post their vectors

fired_if : (m : MachineState) (i : ℕ) (b : Bool) → Hears m (if b then with_cpu m i (record (cpu_at m i) { lapic = posted (cpu_at m i).lapic (vector_of (cpu_at m i).lapic) }) else m)
fired_if m i true = hears_cpu m i _ (record { stage = refl; ctx = refl; started = refl; halted = refl; lapic = posted_heard (cpu_at m i).lapic (vector_of (cpu_at m i).lapic) })
fired_if m i false = hears_itself m

hears_fired : (m : MachineState) (n i : ℕ) → Hears m (fired m n i)
unfolding fired
hears_fired m n i = fired_if m i _

pub hears_fired_below : (m : MachineState) (n k : ℕ) → Hears m (fired_below m n k)
hears_fired_below m n zero = hears_itself m
hears_fired_below m n (suc k) = then_hears m (fired_below m n k) _ (hears_fired_below m n k) (hears_fired (fired_below m n k) n k)

-- all but the timers
pub record TickFrame (m n : MachineState) : Type 0 where
  pub count : cpu_count n ≡ cpu_count m
  pub cpu : (i : ℕ) → CpuFrame (cpu_at m i) (cpu_at n i)
  pub meet : n.meet ≡ m.meet
  pub entries : entries_of n.ioapic ≡ entries_of m.ioapic

pub tick_frame : (s : State) (n : ℕ) → TickFrame s.machine (after_tick s n).machine
unfolding after_tick ticked
tick_frame s n =
    let h = hears_fired_below s.machine n (cpu_count s.machine) in
    record { count = h.count; cpu = λ i. frame_accessed (cpu_at s.machine i) _ (cpu_accessed (cpu_at s.machine i) _ (h.each i)); meet = h.meet; entries = h.entries }

-- ---- Step and Enter: how many vCPUs there are, and the rendezvous

performed_as_count : (s : State) (p j : ℕ) (insn : Insn) (len : ℕ) (x : exec.Shared) (e : Effect) → cpu_count (performed_as s p j insn len x e).machine ≡ cpu_count s.machine
unfolding performed_as port_in port_out window_load window_store
performed_as_count s p j insn len x effect.Done = (stored_same s j x).count
performed_as_count s p j insn len x effect.Halt = (stepped_same s j x.ctx true).count
performed_as_count s p j insn len x (effect.Trap v error) = (trapped_same s j _ v error).count
performed_as_count s p j insn len x (effect.Stop why) = (stopped_same s j why).count
performed_as_count s p j insn len x (effect.PortIn port w) = (stepped_same (with_machine s (port_read s.machine port w)) j _ false).count ∙ (accessed_read s port w).machine.count
performed_as_count s p j insn len x (effect.PortOut port w value) = (stepped_same (printed (with_machine s (port_written s.machine port w value)) _) j x.ctx false).count ∙ (accessed_written s port w value).machine.count
performed_as_count s p j insn len x (effect.Load a) = (stepped_same s j _ false).count
performed_as_count s p j insn len x (effect.Store a value) = (stepped_same (window_written s p j a value) j x.ctx false).count ∙ (accessed_window s p j a value).machine.count

performed_count : (s : State) (p j : ℕ) (n : Next) → cpu_count (performed s p j n).machine ≡ cpu_count s.machine
unfolding performed
performed_count s p j (Local insn len) = refl
performed_count s p j (Shared insn len) = let x = exec.shared (cpu_at s.machine j).ctx insn len s.machine.ram in performed_as_count s p j insn len x x.effect
performed_count s p j Undefined = (trapped_same s j _ 6 None).count
performed_count s p j OutOfCode = (stopped_same s j _).count

pub step_count : (s : State) (p j : ℕ) → cpu_count (after_step s p j).machine ≡ cpu_count s.machine
unfolding after_step
step_count s p j = performed_count s p j (next_at s j)

settled_meet : (s : State) (i : ℕ) (d : Delivered) (r : Result (Unit {0}) Stop) → (settled s i d r).machine.meet ≡ s.machine.meet
unfolding settled stopped_at
settled_meet s i d (Ok u) = refl
settled_meet s i d (Err why) = refl

taken_meet : (s : State) (i : ℕ) (c : Cpu) (v : ℕ) (nmi : Bool) → (delivered_in (taken s i c) i v nmi).machine.meet ≡ s.machine.meet
taken_meet s i c v nmi =
    let t = taken s i c in
    let d = delivered (cpu_at t.machine i).ctx t.machine.ram v None nmi in
    settled_meet t i d d.answer

nmi_meet : (s : State) (i : ℕ) → (nmi_taken s i).machine.meet ≡ s.machine.meet
unfolding nmi_taken
nmi_meet s i = taken_meet s i _ 2 true

vector_meet : (s : State) (i : ℕ) (o : Option ℕ) → (vector_taken s i o).machine.meet ≡ s.machine.meet
unfolding vector_taken
vector_meet s i None = refl
vector_meet s i (Some v) = taken_meet s i _ v false

interrupt_if_meet : (s : State) (i : ℕ) (a b : Bool) → (if a then nmi_taken s i else if b then vector_taken s i (ready (cpu_at s.machine i).lapic) else s).machine.meet ≡ s.machine.meet
interrupt_if_meet s i true b = nmi_meet s i
interrupt_if_meet s i false true = vector_meet s i _
interrupt_if_meet s i false false = refl

interrupt_meet : (s : State) (i : ℕ) → (interrupt_taken s i).machine.meet ≡ s.machine.meet
unfolding interrupt_taken
interrupt_meet s i = interrupt_if_meet s i (takes_nmi (cpu_at s.machine i)) (takes_vector (cpu_at s.machine i))

entered_meet : (s : State) (p i grant : ℕ) → (entered s p i grant).machine.meet ≡ s.machine.meet
unfolding entered
entered_meet s p i grant = refl

pub enter_meet : (s : State) (p i grant : ℕ) → (after_enter s p i grant).machine.meet ≡ s.machine.meet
unfolding after_enter
enter_meet s p i grant = interrupt_meet (entered s p i grant) i ∙ entered_meet s p i grant
