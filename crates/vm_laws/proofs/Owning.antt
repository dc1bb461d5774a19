-- While a pass has a vCPU, entries of other passes leave it.
use Rattle.std.proofs.Common.{◌≡◌, ◌≢◌, ℕ, zero, suc, Bool, true, false, not, List, get_or, refl, sym, ap, subst, ◌∙◌, inl, inr, ◌⊎◌, arith, Option, Some, None}
use Rattle.std.specs.Prelude.{◌==◌, slice_index, Result, Ok, Err, if◌then◌else◌}
use Rattle.std.proofs.lemmas.List.{get_or-set_other}
use Rattle.std.proofs.lemmas.Bool.{and_parts, true≢false}
use Rattle.std.proofs.lemmas.Bool.Decides.{nat_tests}
use Rattle.std.proofs.lemmas.Grind.{common_steps}
use Rattle.vm_law.specs.declared.context.Ctx.{Ctx}
use Rattle.vm_law.specs.declared.context.Stop.{Stop}
use Rattle.vm_law.specs.declared.insn.Insn.{Insn}
use Rattle.vm_law.specs.declared.journal.EndCause.{EndCause}
use Rattle.vm_law.specs.declared.journal.Entry.{Entry}
use Rattle.vm_law.specs.declared.journal.Entry.TheVariants.{Claim, Start, Enter, Slice, Step, Exit, Sleep, Wake, Yield, Turn, Meet, Pull, Begin, Move, Hold, Put, Finish, Feed, Wish, Done, End, Close, Tick}
use Rattle.vm_law.specs.declared.journal.Signed.{Signed}
use Rattle.vm_law.specs.declared.script.Order.{Order}
use Rattle.vm_law.specs.declared.script.Order.TheVariants as order
use Rattle.vm_law.specs.declared.stage.Owned.{Owned}
use Rattle.vm_law.specs.declared.stage.Owned.TheVariants.{Idle, Frozen, Running, Sleeping}
use Rattle.vm_law.specs.declared.stage.MeetKind.{MeetKind}
use Rattle.vm_law.specs.declared.stage.MeetKind.TheVariants.{Routing, Sample}
use Rattle.vm_lapic.specs.Apic.{ready}
use Rattle.vm_uart.specs.Uart as uart
use Rattle.vm_vblk.specs.Queue as vblk
use Rattle.x86_exec.specs.declared.effect.Effect.{Effect}
use Rattle.x86_exec.specs.declared.effect.Effect.TheVariants as effect
use Rattle.x86_exec.specs.Shared as exec
use Rattle.x86_fetch.specs.declared.fetching.Next.{Next}
use Rattle.x86_fetch.specs.declared.fetching.Next.TheVariants.{Local, Shared, Undefined, OutOfCode}
use Rattle.x86_trap.specs.Delivery.{delivered, Delivered}
use Rattle.blk_queue.specs.declared.progress.Finished.{Finished}
use Rattle.blk_queue.specs.declared.progress.Unfinished.{Unfinished}
use Rattle.blk_queue.specs.Progress.{told}
use Rattle.blk_queue.specs.Queue.{request_of}
use Rattle.vm_meet.specs.declared.meeting.Meeting.{Meeting}
use Rattle.vm_state.specs.declared.cpu.Cpu.{Cpu}
use Rattle.vm_state.specs.declared.cpu.Seat.{Seat}
use Rattle.vm_state.specs.Machine.{MachineState, cpu_at, cpu_count, with_cpu, with_drive, drive_at, unstarted_cpu, is_idle, is_frozen, is_running, is_sleeping, takes_nmi, takes_vector}
use Rattle.vm_state.specs.State.{State, empty_seat, with_machine, with_seat, next_order}
use Rattle.vm_owners.specs.Owners.{may_claim, after_claim, may_start, after_start, may_exit, after_exit, may_sleep, after_sleep, may_wake, after_wake, may_yield, after_yield}
use Rattle.vm_owners.specs.Turn.{may_turn, with_routing, turn_taken, turn_in, after_turn}
use Rattle.vm_devices.specs.Timers.{fired, fired_below, ticked, vector_of}
use Rattle.vm_devices.specs.Windows.{with_window, window_written}
use Rattle.vm_running.specs.Enter.{may_enter, stopped_at, entered, settled, delivered_in, taken, nmi_taken, vector_taken, interrupt_taken, after_enter}
use Rattle.vm_running.specs.Slice.{has_slice, may_slice, spent, after_slice}
use Rattle.vm_running.specs.Step.{may_step, next_at, stepped_to, stored_in, after_trap, trapped, performed_as, performed, after_step, printed, port_in, port_out, window_load, window_store, has_step}
use Rattle.vm_disks.specs.Queueing.{pulled_in, after_pull, after_begin}
use Rattle.vm_disks.specs.Moving.{read_in, after_move, told_driver, finished_as, after_finish}
use Rattle.vm_disks.specs.Images.{written_out, after_hold, after_put}
use Rattle.vm_orders.specs.Duties.{after_meet, after_feed, after_wish, after_tick}
use Rattle.vm_orders.specs.Done.{may_done, is_met, is_ready, ordered, ordered_as, noted_as, said_as, after_done, request_cancelled, noted}
use Rattle.vm_orders.specs.Ending.{after_end, after_close}
use Rattle.vm_table.specs.Table.{allowed, lawful, effect, counted, after}
use Rattle.vm_laws.specs.Owned.{is_had_by, KeepsCpu}
use Rattle.vm_lapic.specs.Apic.{posted}
use Rattle.vm_laws.proofs.Heard.{Hears, cpu_set, hears_followed}
use Rattle.vm_laws.proofs.Accesses.{Accessed, MachineAccessed, accessed_window, accessed_read, accessed_written, serial_with}

pub keeps_itself : (s : State) (i : ℕ) → KeepsCpu s s i
keeps_itself s i = record { stage = refl; halted = refl; ctx = refl; left = refl; stayed = refl }

then_keeps : (s t u : State) (i : ℕ) → KeepsCpu s t i → KeepsCpu t u i → KeepsCpu s u i
then_keeps s t u i a b = record { stage = b.stage ∙ a.stage; halted = b.halted ∙ a.halted; ctx = b.ctx ∙ a.ctx; left = b.left ∙ a.left; stayed = b.stayed ∙ a.stayed }

-- by the vCPUs and seats alone
keeps_by : (s t : State) (i : ℕ) → t.machine.cpus ≡ s.machine.cpus → t.seats ≡ s.seats → KeepsCpu s t i
keeps_by s t i c e = record {
  stage = ap (λ (xs : List Cpu). (get_or xs i (unstarted_cpu i)).stage) c;
  halted = ap (λ (xs : List Cpu). (get_or xs i (unstarted_cpu i)).halted) c;
  ctx = ap (λ (xs : List Cpu). (get_or xs i (unstarted_cpu i)).ctx) c;
  left = ap (λ (xs : List Seat). (get_or xs i empty_seat).left) e;
  stayed = ap (λ (xs : List Seat). (get_or xs i empty_seat).stayed) e;
}

keeps_accessed : (s t : State) (i : ℕ) → Accessed s t → KeepsCpu s t i
keeps_accessed s t i a = record {
  stage = (a.machine.each i).stage;
  halted = (a.machine.each i).halted;
  ctx = (a.machine.each i).ctx;
  left = ap (λ (xs : List Seat). (get_or xs i empty_seat).left) a.seats;
  stayed = ap (λ (xs : List Seat). (get_or xs i empty_seat).stayed) a.seats;
}

keeps_machine : (s : State) (m : MachineState) (i : ℕ) → MachineAccessed s.machine m → KeepsCpu s (with_machine s m) i
keeps_machine s m i a = record { stage = (a.each i).stage; halted = (a.each i).halted; ctx = (a.each i).ctx; left = refl; stayed = refl }

-- ---- entries of another vCPU j

module _ (i j : ℕ) (ne : i ≢ j) where
  other_cpu : (s : State) (c : Cpu) → KeepsCpu s (with_machine s (with_cpu s.machine j c)) i
  other_cpu s c =
      let at = get_or-set_other s.machine.cpus j i c (unstarted_cpu i) ne in
      record { stage = ap (λ (x : Cpu). x.stage) at; halted = ap (λ (x : Cpu). x.halted) at; ctx = ap (λ (x : Cpu). x.ctx) at; left = refl; stayed = refl }

  other_seat : (s : State) (x : Seat) → KeepsCpu s (with_seat s j x) i
  other_seat s x =
      let at = get_or-set_other s.seats j i x empty_seat ne in
      record { stage = refl; halted = refl; ctx = refl; left = ap (λ (y : Seat). y.left) at; stayed = ap (λ (y : Seat). y.stayed) at }

  other_both : (s : State) (c : Cpu) (x : Seat) → KeepsCpu s (with_seat (with_machine s (with_cpu s.machine j c)) j x) i
  other_both s c x = then_keeps s (with_machine s (with_cpu s.machine j c)) _ i (other_cpu s c) (other_seat (with_machine s (with_cpu s.machine j c)) x)

  other_spent : (s : State) (n : ℕ) → KeepsCpu s (spent s j n) i
  unfolding spent
  other_spent s n = let k = other_seat s (record { left = _; stayed = true; ran = _ }) in record { stage = k.stage; halted = k.halted; ctx = k.ctx; left = k.left; stayed = k.stayed }

  other_stopped : (s : State) (why : Stop) → KeepsCpu s (stopped_at s j why) i
  unfolding stopped_at
  other_stopped s why = keeps_by s _ i refl refl

  other_settled : (s : State) (d : Delivered) (r : Result (Unit {0}) Stop) → KeepsCpu s (settled s j d r) i
  unfolding settled
  other_settled s d (Ok u) = let k = other_cpu s (record (cpu_at s.machine j) { ctx = d.ctx }) in record { stage = k.stage; halted = k.halted; ctx = k.ctx; left = k.left; stayed = k.stayed }
  other_settled s d (Err why) = other_stopped s why

  other_taken : (s : State) (c : Cpu) (v : ℕ) (nmi : Bool) → KeepsCpu s (delivered_in (taken s j c) j v nmi) i
  other_taken s c v nmi = then_keeps s (taken s j c) _ i (other_both s c _) (let d = delivered (cpu_at (taken s j c).machine j).ctx (taken s j c).machine.ram v None nmi in other_settled (taken s j c) d d.answer)

  other_nmi : (s : State) → KeepsCpu s (nmi_taken s j) i
  unfolding nmi_taken
  other_nmi s = other_taken s _ 2 true

  other_vector : (s : State) (o : Option ℕ) → KeepsCpu s (vector_taken s j o) i
  unfolding vector_taken
  other_vector s None = keeps_itself s i
  other_vector s (Some v) = other_taken s _ v false

  other_if : (s : State) (a b : Bool) → KeepsCpu s (if a then nmi_taken s j else if b then vector_taken s j (ready (cpu_at s.machine j).lapic) else s) i
  other_if s true b = other_nmi s
  other_if s false true = other_vector s _
  other_if s false false = keeps_itself s i

  other_interrupt : (s : State) → KeepsCpu s (interrupt_taken s j) i
  unfolding interrupt_taken
  other_interrupt s = other_if s (takes_nmi (cpu_at s.machine j)) (takes_vector (cpu_at s.machine j))

  other_entered : (s : State) (p grant : ℕ) → KeepsCpu s (entered s p j grant) i
  unfolding entered
  other_entered s p grant = other_both s _ _

  other_enter : (s : State) (p grant : ℕ) → KeepsCpu s (after_enter s p j grant) i
  unfolding after_enter
  other_enter s p grant = then_keeps s (entered s p j grant) _ i (other_entered s p grant) (other_interrupt (entered s p j grant))

  other_slice : (s : State) (n : ℕ) → KeepsCpu s (after_slice s j n) i
  unfolding after_slice
  other_slice s n = then_keeps s (with_machine s _) _ i (other_cpu s _) (other_spent (with_machine s _) n)

  other_stepped : (s : State) (c : Ctx) (halted : Bool) → KeepsCpu s (stepped_to s j c halted) i
  unfolding stepped_to
  other_stepped s c halted = then_keeps s (with_machine s _) _ i (other_cpu s _) (other_spent (with_machine s _) 1)

  -- after something that leaves vCPU i
  then_stepped : (s t : State) (c : Ctx) (halted : Bool) → KeepsCpu s t i → KeepsCpu s (stepped_to t j c halted) i
  then_stepped s t c halted k = then_keeps s t _ i k (other_stepped t c halted)

  other_trap : (s : State) (d : Delivered) (r : Result (Unit {0}) Stop) → KeepsCpu s (after_trap s j d r) i
  other_trap s d (Ok u) = then_stepped s _ d.ctx false (keeps_by s _ i refl refl)
  other_trap s d (Err why) = other_stopped s why

  other_trapped : (s : State) (rip v : ℕ) (error : Option ℕ) → KeepsCpu s (trapped s j rip v error) i
  unfolding trapped
  other_trapped s rip v error = let d = delivered (record (cpu_at s.machine j).ctx { rip = rip }) s.machine.ram v error false in other_trap s d d.answer

  other_stored : (s : State) (x : exec.Shared) → KeepsCpu s (stored_in s x) i
  other_stored s x = keeps_by s _ i refl refl

  other_printed : (s : State) (m : MachineState) (byte : Option ℕ) → KeepsCpu s (with_machine s m) i → KeepsCpu s (printed (with_machine s m) byte) i
  other_printed s m byte k = record { stage = k.stage; halted = k.halted; ctx = k.ctx; left = k.left; stayed = k.stayed }

  other_performed_as : (s : State) (p : ℕ) (insn : Insn) (len : ℕ) (x : exec.Shared) (e : Effect) → KeepsCpu s (performed_as s p j insn len x e) i
  unfolding performed_as port_in port_out window_load window_store
  other_performed_as s p insn len x effect.Done = then_stepped s (stored_in s x) _ false (other_stored s x)
  other_performed_as s p insn len x effect.Halt = other_stepped s _ true
  other_performed_as s p insn len x (effect.Trap v error) = other_trapped s _ v error
  other_performed_as s p insn len x (effect.Stop why) = other_stopped s why
  other_performed_as s p insn len x (effect.PortIn port w) = then_stepped s _ _ false (keeps_accessed s _ i (accessed_read s port w))
  other_performed_as s p insn len x (effect.PortOut port w value) = then_stepped s _ x.ctx false (other_printed s _ _ (keeps_accessed s _ i (accessed_written s port w value)))
  other_performed_as s p insn len x (effect.Load a) = other_stepped s _ false
  other_performed_as s p insn len x (effect.Store a value) = then_stepped s (window_written s p j a value) x.ctx false (keeps_accessed s _ i (accessed_window s p j a value))

  other_performed : (s : State) (p : ℕ) (n : Next) → KeepsCpu s (performed s p j n) i
  unfolding performed
  other_performed s p (Local insn len) = keeps_itself s i
  other_performed s p (Shared insn len) = let x = exec.shared (cpu_at s.machine j).ctx insn len s.machine.ram in other_performed_as s p insn len x x.effect
  other_performed s p Undefined = other_trapped s _ 6 None
  other_performed s p OutOfCode = other_stopped s _

  other_step : (s : State) (p : ℕ) → KeepsCpu s (after_step s p j) i
  unfolding after_step
  other_step s p = other_performed s p (next_at s j)

  other_routing : (s : State) → KeepsCpu s (with_machine s (with_routing s.machine j)) i
  unfolding with_routing
  other_routing s = other_cpu s _

  other_turn_taken : (s : State) (kind : MeetKind) → KeepsCpu s (turn_taken s j kind) i
  unfolding turn_taken
  other_turn_taken s Routing = other_routing s
  other_turn_taken s Sample = keeps_by s _ i refl refl

  other_turn_in : (s : State) (o : Option Meeting) → KeepsCpu s (turn_in s j o) i
  other_turn_in s None = keeps_itself s i
  other_turn_in s (Some x) = let k = other_turn_taken s x.kind in record { stage = k.stage; halted = k.halted; ctx = k.ctx; left = k.left; stayed = k.stayed }

  other_turn : (s : State) → KeepsCpu s (after_turn s j) i
  unfolding after_turn
  other_turn s = other_turn_in s s.machine.meet

  other_start : (s : State) → KeepsCpu s (after_start s j) i
  unfolding after_start
  other_start s = other_cpu s _

  other_exit : (s : State) (p : ℕ) → KeepsCpu s (after_exit s p j) i
  unfolding after_exit
  other_exit s p = other_both s _ _

  other_stage : (s : State) (c : Cpu) → KeepsCpu s (with_machine s (with_cpu s.machine j c)) i
  other_stage s c = other_cpu s c

-- ---- of the machine alone

record MachineKeeps (m n : MachineState) (i : ℕ) : Type 0 where
  pub stage : (cpu_at n i).stage ≡ (cpu_at m i).stage
  pub halted : (cpu_at n i).halted ≡ (cpu_at m i).halted
  pub ctx : (cpu_at n i).ctx ≡ (cpu_at m i).ctx

machine_itself : (m : MachineState) (i : ℕ) → MachineKeeps m m i
machine_itself m i = record { stage = refl; halted = refl; ctx = refl }

then_machine : (m n o : MachineState) (i : ℕ) → MachineKeeps m n i → MachineKeeps n o i → MachineKeeps m o i
then_machine m n o i a b = record { stage = b.stage ∙ a.stage; halted = b.halted ∙ a.halted; ctx = b.ctx ∙ a.ctx }

machine_keeps : (s : State) (m : MachineState) (i : ℕ) → MachineKeeps s.machine m i → KeepsCpu s (with_machine s m) i
machine_keeps s m i k = record { stage = k.stage; halted = k.halted; ctx = k.ctx; left = refl; stayed = refl }

record CpuKeeps (c d : Cpu) : Type 0 where
  pub stage : d.stage ≡ c.stage
  pub halted : d.halted ≡ c.halted
  pub ctx : d.ctx ≡ c.ctx

same_set : (m : MachineState) (j i : ℕ) (c : Cpu) → c.stage ≡ (cpu_at m j).stage → c.halted ≡ (cpu_at m j).halted → c.ctx ≡ (cpu_at m j).ctx → MachineKeeps m (with_cpu m j c) i
same_set m j i c a b e =
    let k = cpu_set CpuKeeps m j c (λ k. record { stage = refl; halted = refl; ctx = refl }) (record { stage = a; halted = b; ctx = e }) i in
    record { stage = k.stage; halted = k.halted; ctx = k.ctx }

fired_if : (m : MachineState) (k i : ℕ) (b : Bool) → MachineKeeps m (if b then with_cpu m k (record (cpu_at m k) { lapic = posted (cpu_at m k).lapic (vector_of (cpu_at m k).lapic) }) else m) i
fired_if m k i true = same_set m k i _ refl refl refl
fired_if m k i false = machine_itself m i

-- messages follow something that leaves the vCPUs
by_hears : (s : State) (m n : MachineState) (i : ℕ) → m.cpus ≡ s.machine.cpus → Hears m n → KeepsCpu s (with_machine s n) i
by_hears s m n i e h =
    let k = h.each i in
    let at : cpu_at m i ≡ cpu_at s.machine i = ap (λ (xs : List Cpu). get_or xs i (unstarted_cpu i)) e in
    record { stage = k.stage ∙ ap (λ (c : Cpu). c.stage) at; halted = k.halted ∙ ap (λ (c : Cpu). c.halted) at; ctx = k.ctx ∙ ap (λ (c : Cpu). c.ctx) at; left = refl; stayed = refl }

-- what another pass has is neither frozen by this one nor runs by it
had_apart : (q p : ℕ) (st : Owned) → (is_frozen st q ≡ true) ⊎ (is_running st q ≡ true) → is_had_by st p ≡ true → (q == p) ≡ false → ⊥
had_apart q p Idle f h ne = true≢false (sym h)
had_apart q p (Frozen r) (inl f) h ne = grind (arith, nat_tests, f, h, ne)
had_apart q p (Frozen r) (inr f) h ne = true≢false (sym f)
had_apart q p (Running r) (inl f) h ne = true≢false (sym f)
had_apart q p (Running r) (inr f) h ne = grind (arith, nat_tests, f, h, ne)
had_apart q p (Sleeping r) f h ne = true≢false (sym h)

-- ---- entries that are of no vCPU

keeps_tick_one : (m : MachineState) (n k i : ℕ) → MachineKeeps m (fired m n k) i
unfolding fired
keeps_tick_one m n k i = fired_if m k i _

keeps_fired : (m : MachineState) (n k i : ℕ) → MachineKeeps m (fired_below m n k) i
keeps_fired m n zero i = machine_itself m i
keeps_fired m n (suc k) i = then_machine m (fired_below m n k) _ i (keeps_fired m n k i) (keeps_tick_one (fired_below m n k) n k i)

keeps_tick : (s : State) (n i : ℕ) → KeepsCpu s (after_tick s n) i
unfolding after_tick ticked
keeps_tick s n i = let k = keeps_fired s.machine n (cpu_count s.machine) i in record { stage = k.stage; halted = k.halted; ctx = k.ctx; left = refl; stayed = refl }

keeps_pulled : (s : State) (d : ℕ) (x : vblk.Pull) (i : ℕ) → KeepsCpu s (with_machine s (pulled_in s.machine d x)) i
unfolding pulled_in with_window
keeps_pulled s d x i = by_hears s (with_drive (record s.machine { ram = x.memory }) d _) _ i refl (hears_followed _ _ _ _)

keeps_pull : (s : State) (d i : ℕ) → KeepsCpu s (after_pull s d) i
unfolding after_pull
keeps_pull s d i = keeps_pulled s d (vblk.pull_of s.machine.ram (drive_at s.machine d).window) i

keeps_begin : (s : State) (p d i : ℕ) → KeepsCpu s (after_begin s p d) i
unfolding after_begin
keeps_begin s p d i = keeps_by s _ i refl refl

keeps_read_in : (s : State) (d : ℕ) (o : ℕ) → (read_in s.machine d o).cpus ≡ s.machine.cpus
keeps_read_in s d o = refl

keeps_move : (s : State) (d id i : ℕ) → KeepsCpu s (after_move s d id) i
unfolding after_move
keeps_move s d id i = keeps_by s _ i (keeps_read_in s d id) refl

keeps_written_out : (m : MachineState) (d : ℕ) (o : ℕ) → (written_out m d o).cpus ≡ m.cpus
keeps_written_out m d o = refl

keeps_hold : (s : State) (p d id i : ℕ) → KeepsCpu s (after_hold s p d id) i
unfolding after_hold
keeps_hold s p d id i = keeps_by s _ i (keeps_written_out s.machine d id) refl

keeps_put : (s : State) (d id : ℕ) (ok : Bool) (i : ℕ) → KeepsCpu s (after_put s d id ok) i
unfolding after_put
keeps_put s d id ok i = keeps_by s _ i refl refl

keeps_told : (s : State) (d : ℕ) (x : Finished) (i : ℕ) (m : MachineState) → m.cpus ≡ s.machine.cpus → KeepsCpu s (with_machine s (told_driver m d x)) i
unfolding told_driver with_window
keeps_told s d x i m e = by_hears s (with_drive (record m { ram = _ }) d _) _ i e (hears_followed _ _ _ _)

finished_if : (s : State) (d : ℕ) (x : Finished) (i : ℕ) (m : MachineState) (b : Bool) → m.cpus ≡ s.machine.cpus → KeepsCpu s (with_machine s (if b then m else told_driver m d x)) i
finished_if s d x i m true e = keeps_by s _ i e refl
finished_if s d x i m false e = keeps_told s d x i m e

keeps_finished : (s : State) (d : ℕ) (o : Option Unfinished) (i : ℕ) (m : MachineState) → m.cpus ≡ s.machine.cpus → KeepsCpu s (with_machine s (finished_as m d o)) i
keeps_finished s d None i m e = keeps_by s _ i e refl
keeps_finished s d (Some x) i m e = finished_if s d (told x) i m (told x).silent e

keeps_finish : (s : State) (d id i : ℕ) → KeepsCpu s (after_finish s d id) i
unfolding after_finish
keeps_finish s d id i = let k = keeps_finished s d (request_of (drive_at s.machine d).queue id) i _ refl in record { stage = k.stage; halted = k.halted; ctx = k.ctx; left = k.left; stayed = k.stayed }

keeps_meet : (s : State) (i : ℕ) → KeepsCpu s (after_meet s) i
unfolding after_meet
keeps_meet s i = keeps_by s _ i refl refl

keeps_feed : (s : State) (i : ℕ) → KeepsCpu s (after_feed s) i
unfolding after_feed
keeps_feed s i = let k = serial_with s.machine (uart.after_receive s.machine.uart (slice_index s.input 0)) in record { stage = (k.each i).stage; halted = (k.each i).halted; ctx = (k.each i).ctx; left = refl; stayed = refl }

keeps_wish : (s : State) (i : ℕ) → KeepsCpu s (after_wish s) i
unfolding after_wish
keeps_wish s i = keeps_by s _ i refl refl

keeps_end : (s : State) (c : EndCause) (i : ℕ) → KeepsCpu s (after_end s c) i
unfolding after_end
keeps_end s c i = keeps_by s _ i refl refl

keeps_close : (s : State) (i : ℕ) → KeepsCpu s (after_close s) i
unfolding after_close
keeps_close s i = keeps_by s _ i refl refl

-- ---- Done: only a `set` changes a vCPU's context, of a vCPU that control has

keeps_nmi : (s : State) (j i : ℕ) → KeepsCpu s (with_machine s (with_cpu s.machine j (record (cpu_at s.machine j) { nmi = true }))) i
keeps_nmi s j i = machine_keeps s _ i (same_set s.machine j i _ refl refl refl)

keeps_ordered : (s : State) (o : Order) (p i : ℕ) → is_met s o ≡ true → is_had_by (cpu_at s.machine i).stage p ≡ true → (0 == p) ≡ false → KeepsCpu s (ordered s o) i
unfolding ordered request_cancelled
keeps_ordered s (order.Input bytes) p i m h ne = keeps_by s _ i refl refl
keeps_ordered s (order.Nmi j) p i m h ne = keeps_nmi s j i
keeps_ordered s (order.Cancel d id) p i m h ne = keeps_by s _ i refl refl
keeps_ordered s (order.Set j reg value) p i m h ne = other_cpu i j (λ e. had_apart 0 p (cpu_at s.machine j).stage (inl m) (subst (λ k. is_had_by (cpu_at s.machine k).stage p ≡ true) e h) ne) s _
keeps_ordered s order.Resume p i m h ne = keeps_by s _ i refl refl
keeps_ordered s o p i m h ne = keeps_itself s i

keeps_done_as : (s : State) (o : Option Order) (p i : ℕ) → is_ready s o ≡ true → is_had_by (cpu_at s.machine i).stage p ≡ true → (0 == p) ≡ false → KeepsCpu s (noted_as (ordered_as s o) o (said_as s o)) i
unfolding noted
keeps_done_as s None p i m h ne = absurd (true≢false (sym m))
keeps_done_as s (Some o) p i m h ne = let k = keeps_ordered s o p i m h ne in record { stage = k.stage; halted = k.halted; ctx = k.ctx; left = k.left; stayed = k.stayed }

done_tells : (s : State) (q k : ℕ) → may_done s q k ≡ true → (q ≡ 0) × (is_ready s (next_order s) ≡ true)
unfolding may_done
done_tells s q k m = (grind (arith, nat_tests, common_steps, and_parts), grind (arith, nat_tests, common_steps, and_parts))

keeps_done : (s : State) (q k p i : ℕ) → may_done s q k ≡ true → is_had_by (cpu_at s.machine i).stage p ≡ true → (q == p) ≡ false → KeepsCpu s (after_done s) i
unfolding after_done
keeps_done s q k p i m h ne = let t = done_tells s q k m in keeps_done_as s (next_order s) p i t.1 h (sym (ap (λ n. n == p) t.0) ∙ ne)

-- ---- all of them

claim_tells : (s : State) (q j : ℕ) → may_claim s q j ≡ true → is_idle (cpu_at s.machine j).stage ≡ true
unfolding may_claim
claim_tells s q j m = grind (arith, nat_tests, common_steps, and_parts)

start_tells : (s : State) (q j : ℕ) → may_start s q j ≡ true → is_frozen (cpu_at s.machine j).stage q ≡ true
unfolding may_start
start_tells s q j m = grind (arith, nat_tests, common_steps, and_parts)

enter_tells : (s : State) (q j grant : ℕ) → may_enter s q j grant ≡ true → is_frozen (cpu_at s.machine j).stage q ≡ true
unfolding may_enter
enter_tells s q j grant m = grind (arith, nat_tests, common_steps, and_parts)

slice_tells : (s : State) (q j n : ℕ) → may_slice s q j n ≡ true → is_running (cpu_at s.machine j).stage q ≡ true
unfolding may_slice has_slice
slice_tells s q j n m = grind (arith, nat_tests, common_steps, and_parts)

step_tells : (s : State) (q j : ℕ) → may_step s q j ≡ true → is_running (cpu_at s.machine j).stage q ≡ true
unfolding may_step has_step
step_tells s q j m = grind (arith, nat_tests, common_steps, and_parts)

exit_tells : (s : State) (q j : ℕ) → may_exit s q j ≡ true → is_running (cpu_at s.machine j).stage q ≡ true
unfolding may_exit
exit_tells s q j m = grind (arith, nat_tests, common_steps, and_parts)

sleep_tells : (s : State) (q j : ℕ) → may_sleep s q j ≡ true → is_frozen (cpu_at s.machine j).stage q ≡ true
unfolding may_sleep
sleep_tells s q j m = grind (arith, nat_tests, common_steps, and_parts)

wake_tells : (s : State) (q j : ℕ) → may_wake s q j ≡ true → is_sleeping (cpu_at s.machine j).stage q ≡ true
unfolding may_wake
wake_tells s q j m = grind (arith, nat_tests, common_steps, and_parts)

yield_tells : (s : State) (q j : ℕ) → may_yield s q j ≡ true → is_frozen (cpu_at s.machine j).stage q ≡ true
unfolding may_yield
yield_tells s q j m = grind (arith, nat_tests, common_steps, and_parts)

turn_tells : (s : State) (q j : ℕ) → may_turn s q j ≡ true → is_frozen (cpu_at s.machine j).stage q ≡ true
unfolding may_turn
turn_tells s q j m = grind (arith, nat_tests, common_steps, and_parts)

idle_apart : (p : ℕ) (st : Owned) → is_idle st ≡ true → is_had_by st p ≡ true → ⊥
idle_apart p Idle h k = true≢false (sym k)
idle_apart p (Frozen q) h k = true≢false (sym h)
idle_apart p (Running q) h k = true≢false (sym h)
idle_apart p (Sleeping q) h k = true≢false (sym h)

sleeping_apart : (p q : ℕ) (st : Owned) → is_sleeping st q ≡ true → is_had_by st p ≡ true → ⊥
sleeping_apart p q Idle h k = true≢false (sym k)
sleeping_apart p q (Frozen r) h k = true≢false (sym h)
sleeping_apart p q (Running r) h k = true≢false (sym h)
sleeping_apart p q (Sleeping r) h k = true≢false (sym k)

module _ (s : State) (q i p : ℕ) (h : is_had_by (cpu_at s.machine i).stage p ≡ true) (ne : (q == p) ≡ false) where
  from_had : (j : ℕ) → (is_frozen (cpu_at s.machine j).stage q ≡ true) ⊎ (is_running (cpu_at s.machine j).stage q ≡ true) → i ≢ j
  from_had j f e = had_apart q p (cpu_at s.machine j).stage f (subst (λ k. is_had_by (cpu_at s.machine k).stage p ≡ true) e h) ne

  from_idle : (j : ℕ) → is_idle (cpu_at s.machine j).stage ≡ true → i ≢ j
  from_idle j f e = idle_apart p (cpu_at s.machine j).stage f (subst (λ k. is_had_by (cpu_at s.machine k).stage p ≡ true) e h)

  from_sleeping : (j : ℕ) → is_sleeping (cpu_at s.machine j).stage q ≡ true → i ≢ j
  from_sleeping j f e = sleeping_apart p q (cpu_at s.machine j).stage f (subst (λ k. is_had_by (cpu_at s.machine k).stage p ≡ true) e h)

  effect_keeps : (e : Entry) → allowed s q e ≡ true → KeepsCpu s (effect s q e) i
  unfolding allowed effect after_claim after_sleep after_wake after_yield
  effect_keeps (Claim j) m = other_cpu i j (from_idle j (claim_tells s q j m)) s _
  effect_keeps (Start j) m = other_start i j (from_had j (inl (start_tells s q j m))) s
  effect_keeps (Enter j grant) m = other_enter i j (from_had j (inl (enter_tells s q j grant m))) s q grant
  effect_keeps (Slice j n) m = other_slice i j (from_had j (inr (slice_tells s q j n m))) s n
  effect_keeps (Step j) m = other_step i j (from_had j (inr (step_tells s q j m))) s q
  effect_keeps (Exit j) m = other_exit i j (from_had j (inr (exit_tells s q j m))) s q
  effect_keeps (Sleep j) m = other_cpu i j (from_had j (inl (sleep_tells s q j m))) s _
  effect_keeps (Wake j) m = other_cpu i j (from_sleeping j (wake_tells s q j m)) s _
  effect_keeps (Yield j) m = other_cpu i j (from_had j (inl (yield_tells s q j m))) s _
  effect_keeps (Turn j) m = other_turn i j (from_had j (inl (turn_tells s q j m))) s
  effect_keeps Meet m = keeps_meet s i
  effect_keeps (Pull d) m = keeps_pull s d i
  effect_keeps (Begin d id) m = keeps_begin s q d i
  effect_keeps (Move d id) m = keeps_move s d id i
  effect_keeps (Hold d id) m = keeps_hold s q d id i
  effect_keeps (Put d id ok) m = keeps_put s d id ok i
  effect_keeps (Finish d id) m = keeps_finish s d id i
  effect_keeps Feed m = keeps_feed s i
  effect_keeps Wish m = keeps_wish s i
  effect_keeps (Done k) m = keeps_done s q k p i m h ne
  effect_keeps (End cause) m = keeps_end s cause i
  effect_keeps Close m = keeps_close s i
  effect_keeps (Tick n) m = keeps_tick s n i

lawful_tells : (s : State) (q : ℕ) (e : Entry) → lawful s q e ≡ true → allowed s q e ≡ true
unfolding lawful
lawful_tells s q e m = (and_parts (not s.closed) (allowed s q e) m).1

pub after_keeps : (s : State) (x : Signed) (i p : ℕ) → lawful s x.by x.entry ≡ true → is_had_by (cpu_at s.machine i).stage p ≡ true → (x.by == p) ≡ false → KeepsCpu s (after s x) i
unfolding after counted
after_keeps s x i p m h ne = let k = effect_keeps s x.by i p h ne x.entry (lawful_tells s x.by x.entry m) in record { stage = k.stage; halted = k.halted; ctx = k.ctx; left = k.left; stayed = k.stayed }
