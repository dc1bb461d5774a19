-- What holds of every run is kept by Enter.
use Rattle.std.specs.Prelude.{Option, Some, None, Result, Ok, Err, if◌then◌else◌}
use Rattle.std.proofs.Common.{◌≡◌, ℕ, ◌+◌, ◌<◌, ◌≤◌, Bool, true, false, length, get_or, set, refl, sym, ap, subst, arith, ◌∙◌}
use Rattle.std.proofs.lemmas.Bool.{and_parts}
use Rattle.std.proofs.lemmas.Bool.Decides.{nat_tests}
use Rattle.std.proofs.lemmas.List.{get_or-set_same, length-set}
use Rattle.std.proofs.lemmas.Grind.{common_steps}
use Rattle.vm_law.specs.declared.context.Ctx.{Ctx}
use Rattle.vm_law.specs.declared.context.Stop.{Stop}
use Rattle.vm_law.specs.declared.stage.Owned.{Owned}
use Rattle.vm_law.specs.declared.stage.Owned.TheVariants.{Idle, Frozen, Running, Sleeping}
use Rattle.vm_lapic.specs.Apic.{ready, serviced}
use Rattle.x86_trap.specs.Delivery.{delivered, Delivered}
use Rattle.vm_state.specs.declared.cpu.Cpu.{Cpu}
use Rattle.vm_state.specs.declared.cpu.Seat.{Seat}
use Rattle.vm_state.specs.Machine.{MachineState, cpu_at, cpu_count, with_ctx, unstarted_cpu, takes_nmi, takes_vector}
use Rattle.vm_state.specs.State.{State, seat_at, open_grants, with_machine}
use Rattle.vm_state.specs.Sound.{IsSoundState, IsOwner, Stays}
use Rattle.vm_state.proofs.Keeps.{Continues, keeps_at, keeps_cpu, grants_set}
use Rattle.vm_devices.proofs.KeptMemory.{keeps_run_memory}
use Rattle.vm_running.specs.Enter.{may_enter, entered, taken, settled, delivered_in, nmi_taken, vector_taken, interrupt_taken, after_enter}
use Rattle.vm_running.proofs.Computing.{HasFlags}
use Rattle.vm_running.proofs.Fitting.{DeliveryFits, delivery_fits}
use Rattle.vm_running.proofs.Keeps.{keeps_stopped, ram_small}

-- ---- a stay begins

enter_started : (s : State) (p i grant : ℕ) → may_enter s p i grant ≡ true → (cpu_at s.machine i).started ≡ true
unfolding may_enter
enter_started s p i grant m = grind (arith, nat_tests, common_steps, and_parts)

enter_owner : (s : State) (p i grant : ℕ) → may_enter s p i grant ≡ true → p ≡ 1 + i
unfolding may_enter
enter_owner s p i grant m = grind (arith, nat_tests, common_steps, and_parts)

enter_within : (s : State) (p i grant : ℕ) → may_enter s p i grant ≡ true → i < cpu_count s.machine
unfolding may_enter
enter_within s p i grant m = grind (arith, nat_tests, common_steps, and_parts)

enter_some : (s : State) (p i grant : ℕ) → may_enter s p i grant ≡ true → 1 ≤ grant
unfolding may_enter
enter_some s p i grant m = grind (arith, nat_tests, common_steps, and_parts)

enter_room : (s : State) (p i grant : ℕ) → may_enter s p i grant ≡ true → s.executed + open_grants s.seats + grant ≤ s.limit
unfolding may_enter
enter_room s p i grant m = grind (arith, nat_tests, common_steps, and_parts)

pub keeps_entered : (s : State) (p i grant : ℕ) → IsSoundState s → may_enter s p i grant ≡ true → IsSoundState (entered s p i grant)
unfolding entered
keeps_entered s p i grant h m =
    let cpu = cpu_at s.machine i in
    let before = h.machine.each_cpu i in
    let started = enter_started s p i grant m in
    let within = enter_within s p i grant m in
    let long = h.seats.count in
    let next : Seat = record (seat_at s i) { left = grant; stayed = false } in
    let grants = grants_set s.seats i next (omega arith) in
    let room = enter_room s p i grant m in
    let some = enter_some s p i grant m in
    keeps_at s i (record cpu { stage = Running p; halted = false }) next s.executed h
    (record {
      is_cpu = record { flags = before.flags; waits = before.waits; unstarted = λ e. absurd (grind (arith, common_steps)); number = before.number };
      started = λ e. e;
      timer = λ e. e;
    })
    (record {
      owner = enter_owner s p i grant m;
      stay = (λ e. absurd (omega arith), λ e. absurd (grind (arith, common_steps)));
      ran = (h.seats.each i).ran;
    })
    (omega arith) (omega arith)

-- ---- what is taken

taken_stay : (st : Owned) (halted : Bool) (seat : Seat) → Stays st halted seat → Stays st halted (record seat { stayed = true })
taken_stay Idle halted seat h = h
taken_stay (Frozen p) halted seat h = h
taken_stay (Running p) halted seat h = (λ _. refl, λ _. refl)
taken_stay (Sleeping p) halted seat h = h

pub keeps_taken : (s : State) (i : ℕ) (cpu : Cpu) → IsSoundState s → i < cpu_count s.machine → Continues i (cpu_at s.machine i) cpu
    → cpu.stage ≡ (cpu_at s.machine i).stage → cpu.halted ≡ (cpu_at s.machine i).halted → IsSoundState (taken s i cpu)
keeps_taken s i cpu h within c stage halted =
    let before = h.seats.each i in
    let next : Seat = record (seat_at s i) { stayed = true } in
    let long = h.seats.count in
    let grants = grants_set s.seats i next (omega arith) in
    let granted = h.counts.granted in
    keeps_at s i cpu next s.executed h c
    (record {
      owner = subst (λ (st : Owned). IsOwner i st) (sym stage) before.owner;
      stay = subst (λ (st : Owned). Stays st cpu.halted next) (sym stage) (subst (λ (b : Bool). Stays (cpu_at s.machine i).stage b next) (sym halted) (taken_stay (cpu_at s.machine i).stage (cpu_at s.machine i).halted (seat_at s i) before.stay));
      ran = before.ran;
    })
    (omega arith) (omega arith)

-- ---- a delivery

-- vCPU i, which is started, with another context
pub keeps_ctx : (s : State) (i : ℕ) (c : Ctx) → IsSoundState s → (cpu_at s.machine i).started ≡ true → HasFlags c → IsSoundState (with_machine s (with_ctx s.machine i c))
keeps_ctx s i c h started flags =
    let before = h.machine.each_cpu i in
    keeps_cpu s i (record (cpu_at s.machine i) { ctx = c }) h
    (record {
      is_cpu = record { flags = flags; waits = before.waits; unstarted = λ e. absurd (grind (arith, common_steps)); number = before.number };
      started = λ e. e;
      timer = λ e. e;
    })
    refl refl

settled_fits : (s : State) (i : ℕ) (d : Delivered) (r : Result (Unit {0}) Stop) → IsSoundState s → (cpu_at s.machine i).started ≡ true → DeliveryFits (cpu_at s.machine i).ctx s.machine.ram d
    → IsSoundState (settled s i d r)
unfolding settled
settled_fits s i d (Ok u) h started fits = keeps_run_memory (with_machine s (with_ctx s.machine i d.ctx)) d.memory (keeps_ctx s i d.ctx h started fits.flags) fits.size
settled_fits s i d (Err why) h started fits = keeps_stopped s i why h

pub keeps_delivered : (s : State) (i v : ℕ) (nmi : Bool) → IsSoundState s → (cpu_at s.machine i).started ≡ true → IsSoundState (delivered_in s i v nmi)
keeps_delivered s i v nmi h started =
    let d = delivered (cpu_at s.machine i).ctx s.machine.ram v None nmi in
    settled_fits s i d d.answer h started (delivery_fits (cpu_at s.machine i).ctx s.machine.ram v None nmi (ram_small s h) (h.machine.each_cpu i).flags)

-- another vCPU i that is started as this one
started_with : (m : MachineState) (i : ℕ) (c : Cpu) → i < cpu_count m → c.started ≡ true → (get_or (set m.cpus i c) i (unstarted_cpu i)).started ≡ true
started_with m i c within started = ap (λ (x : Cpu). x.started) (get_or-set_same m.cpus i c (unstarted_cpu i) within) ∙ started

nmi_kept : (s : State) (i : ℕ) → IsSoundState s → i < cpu_count s.machine → (cpu_at s.machine i).started ≡ true → IsSoundState (nmi_taken s i)
unfolding nmi_taken
nmi_kept s i h within started =
    let cpu : Cpu = record (cpu_at s.machine i) { nmi = false } in
    let before = h.machine.each_cpu i in
    let fits : Continues i (cpu_at s.machine i) cpu = record {
      is_cpu = record { flags = before.flags; waits = before.waits; unstarted = before.unstarted; number = before.number };
      started = λ e. e;
      timer = λ e. e;
    } in
    keeps_delivered (taken s i cpu) i 2 true (keeps_taken s i cpu h within fits refl refl) (started_with s.machine i cpu within started)

vector_kept : (s : State) (i : ℕ) (o : Option ℕ) → IsSoundState s → i < cpu_count s.machine → (cpu_at s.machine i).started ≡ true → IsSoundState (vector_taken s i o)
unfolding vector_taken serviced
vector_kept s i None h within started = h
vector_kept s i (Some v) h within started =
    let cpu : Cpu = record (cpu_at s.machine i) { lapic = serviced (cpu_at s.machine i).lapic v } in
    let before = h.machine.each_cpu i in
    let fits : Continues i (cpu_at s.machine i) cpu = record {
      is_cpu = record { flags = before.flags; waits = before.waits; unstarted = before.unstarted; number = before.number };
      started = λ e. e;
      timer = λ e. e;
    } in
    keeps_delivered (taken s i cpu) i v false (keeps_taken s i cpu h within fits refl refl) (started_with s.machine i cpu within started)

vector_if : (s : State) (i : ℕ) (b : Bool) → IsSoundState s → i < cpu_count s.machine → (cpu_at s.machine i).started ≡ true
    → IsSoundState (if b then vector_taken s i (ready (cpu_at s.machine i).lapic) else s)
vector_if s i true h within started = vector_kept s i (ready (cpu_at s.machine i).lapic) h within started
vector_if s i false h within started = h

nmi_if : (s : State) (i : ℕ) (a b : Bool) → IsSoundState s → i < cpu_count s.machine → (cpu_at s.machine i).started ≡ true
    → IsSoundState (if a then nmi_taken s i else if b then vector_taken s i (ready (cpu_at s.machine i).lapic) else s)
nmi_if s i true b h within started = nmi_kept s i h within started
nmi_if s i false b h within started = vector_if s i b h within started

interrupt_kept : (s : State) (i : ℕ) → IsSoundState s → i < cpu_count s.machine → (cpu_at s.machine i).started ≡ true → IsSoundState (interrupt_taken s i)
unfolding interrupt_taken
interrupt_kept s i h within started = nmi_if s i (takes_nmi (cpu_at s.machine i)) (takes_vector (cpu_at s.machine i)) h within started

still_there : (m : MachineState) (i : ℕ) (c : Cpu) → i < cpu_count m → i < length (set m.cpus i c)
still_there m i c within = subst (λ (n : ℕ). i < n) (sym (length-set m.cpus i c)) within

pub keeps_enter : (s : State) (p i grant : ℕ) → IsSoundState s → may_enter s p i grant ≡ true → IsSoundState (after_enter s p i grant)
unfolding after_enter entered
keeps_enter s p i grant h m =
    let cpu : Cpu = record (cpu_at s.machine i) { stage = Running p; halted = false } in
    let within = enter_within s p i grant m in
    interrupt_kept (entered s p i grant) i (keeps_entered s p i grant h m) (still_there s.machine i cpu within) (started_with s.machine i cpu within (enter_started s p i grant m))
