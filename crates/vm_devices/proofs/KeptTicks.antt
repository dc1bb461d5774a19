-- What holds of every machine is kept where the timers move on.
use Rattle.std.proofs.Common.{◌≡◌, ℕ, ◌<◌, ◌≤◌, length, get_or, sym, ap, arith, inl, inr, ◌∙◌}
use Rattle.std.proofs.lemmas.Bool.{cases_lt}
use Rattle.std.proofs.lemmas.Bool.Decides.{nat_tests}
use Rattle.std.proofs.lemmas.List.{get_or_past}
use Rattle.std.proofs.lemmas.List.FromFn.{length-map-range_with_len, get_or-map-range_with_len}
use Rattle.std.proofs.lemmas.Grind.{common_steps}
use Rattle.vm_timer.specs.Timers as timers
use Rattle.vm_timer.specs.Timers.{left_of, left_after, fires}
use Rattle.vm_state.specs.Machine.{MachineState, cpu_at, cpu_count}
use Rattle.vm_state.specs.State.{State, with_machine}
use Rattle.vm_state.specs.Sound.{IsMachine, IsSoundState, AreTimers}
use Rattle.vm_devices.specs.Timers.{periods_of, fired_below, ticked}
use Rattle.vm_devices.proofs.Same.{fired_below_same}
use Rattle.vm_devices.proofs.Kept.{keeps_same}
use Rattle.vm_devices.proofs.KeptRun.{SameRun, keeps_run, run_same}

after_none : (n span : ℕ) → left_after n span 0 ≡ 0
after_none n span = grind (arith, nat_tests, common_steps)

ticked_at : (m : MachineState) (n i : ℕ) → i < 16 → left_of (timers.ticked m.timers n (periods_of m)) i ≡ left_after n (get_or (periods_of m) i 0) (left_of m.timers i)
unfolding timers.ticked
ticked_at m n i within = get_or-map-range_with_len (λ (k : ℕ). left_after n (get_or (periods_of m) k 0) (left_of m.timers k)) 0 16 i i 0 within (omega arith)

ticked_long : (m : MachineState) (n : ℕ) → length (timers.ticked m.timers n (periods_of m)) ≡ 16
unfolding timers.ticked
ticked_long m n = length-map-range_with_len (λ (k : ℕ). left_after n (get_or (periods_of m) k 0) (left_of m.timers k)) 0 16

ticked_past : (m : MachineState) (n i : ℕ) → 16 ≤ i → left_of (timers.ticked m.timers n (periods_of m)) i ≡ 0
ticked_past m n i past = get_or_past (timers.ticked m.timers n (periods_of m)) i 0 (rw (ticked_long m n) past)

ticked_timers : (m t : MachineState) (n : ℕ) → IsMachine m → ((i : ℕ) → (cpu_at t i).lapic.timer_initial ≡ (cpu_at m i).lapic.timer_initial)
    → AreTimers t (timers.ticked m.timers n (periods_of m))
ticked_timers m t n h same = record {
  count = ticked_long m n;
  disarmed = λ i e.
      elim (cases_lt i 16) [
        | inl within ↦
            ticked_at m n i within
            ∙ ap (λ (r : ℕ). left_after n (get_or (periods_of m) i 0) r) (h.timers.disarmed i (sym (same i) ∙ e))
            ∙ after_none n (get_or (periods_of m) i 0)
        | inr past ↦ ticked_past m n i past
      ];
}

pub keeps_ticked : (m : MachineState) (n : ℕ) → IsMachine m → IsMachine (ticked m n)
unfolding ticked
keeps_ticked m n h =
    let t : MachineState = fired_below m n (cpu_count m) in
    let same = fired_below_same m n (cpu_count m) in
    let sound : IsMachine t = keeps_same m t h same in
    let next : AreTimers t (timers.ticked m.timers n (periods_of m)) = ticked_timers m t n h (λ i. (same.each i).apic.initial) in
    record {
      some_cpu = sound.some_cpu;
      cpus = sound.cpus;
      first = sound.first;
      each_cpu = sound.each_cpu;
      ram = sound.ram;
      some_code = sound.some_code;
      code = sound.code;
      ioapic = sound.ioapic;
      uart = sound.uart;
      pins = sound.pins;
      drives = sound.drives;
      each_drive = sound.each_drive;
      timers = record { count = next.count; disarmed = next.disarmed };
    }

ticked_run : (m : MachineState) (n : ℕ) → SameRun m (ticked m n)
unfolding ticked
ticked_run m n =
    let same = run_same m (fired_below m n (cpu_count m)) (fired_below_same m n (cpu_count m)) in
    record {
      seats = record { count = same.seats.count; stage = same.seats.stage; halted = same.seats.halted };
      meet = same.meet;
      drives = same.drives;
      pause = same.pause;
      code = same.code;
    }

pub keeps_run_ticked : (s : State) (n : ℕ) → IsSoundState s → IsSoundState (with_machine s (ticked s.machine n))
keeps_run_ticked s n h = keeps_run s (ticked s.machine n) h (ticked_run s.machine n) (keeps_ticked s.machine n h.machine)
