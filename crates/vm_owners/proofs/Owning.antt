-- What holds of every run is kept by Claim, Start, Exit, Sleep, Wake and Yield.
use Rattle.std.proofs.Common.{◌≡◌, ℕ, ◌+◌, ◌<◌, true, false, refl, subst, inl, inr, ◌⊎◌, arith}
use Rattle.std.specs.Prelude.{◌==◌}
use Rattle.std.proofs.lemmas.Bool.{cases_Bool, and_parts, true≢false}
use Rattle.std.proofs.lemmas.Bool.Decides.{nat_tests}
use Rattle.std.proofs.lemmas.Grind.{common_steps}
use Rattle.std.proofs.lemmas.List.{get_or_past}
use Rattle.vm_law.specs.declared.stage.Owned.{Owned}
use Rattle.vm_law.specs.declared.stage.Owned.TheVariants.{Idle, Frozen, Running, Sleeping}
use Rattle.vm_state.specs.declared.cpu.Cpu.{Cpu}
use Rattle.vm_state.specs.Machine.{MachineState, unstarted_cpu, cpu_at, cpu_count, ctx_from, is_idle, is_frozen, is_running, is_sleeping}
use Rattle.vm_state.specs.Sound.{IsCpu, IsMachine, IsSoundState, has_run, runs}
use Rattle.vm_state.specs.State.{State, seat_at}
use Rattle.vm_state.proofs.Keeps.{Continues, keeps_cpu, keeps_stage, keeps_at, grants_set}
use Rattle.vm_owners.specs.Owners.{may_claim, after_claim, page_of, started_at, may_start, after_start, may_exit, after_exit, may_sleep, after_sleep, may_wake, after_wake, may_yield, after_yield}
use Rattle.vm_owners.proofs.Stages.{same_pass, idle_is, frozen_is, running_is, sleeping_is, owner_in, stay_in}

-- a vCPU that isn't started, and doesn't run from now on either
parked : (cpu : Cpu) (stage : Owned) → runs stage ≡ false → has_run cpu ≡ false → has_run (record cpu { stage = stage }) ≡ false
parked cpu stage still h = grind (arith, common_steps, and_parts)

-- a vCPU in a stage in which it doesn't run
staged : (s : State) (i : ℕ) (stage : Owned) → runs stage ≡ false → IsSoundState s → Continues i (cpu_at s.machine i) (record (cpu_at s.machine i) { stage = stage })
staged s i stage still h =
    let c = h.machine.each_cpu i in
    record {
      is_cpu = record { flags = c.flags; waits = c.waits; unstarted = λ e. parked (cpu_at s.machine i) stage still (c.unstarted e); number = c.number };
      started = λ e. e;
      timer = λ e. e;
    }

-- ---- Claim

record ClaimTells (s : State) (p i : ℕ) : Type 0 where
  stage : is_idle (cpu_at s.machine i).stage ≡ true
  pass : (p ≡ 0) ⊎ (p ≡ 1 + i)

claim_tells : (s : State) (p i : ℕ) → may_claim s p i ≡ true → ClaimTells s p i
unfolding may_claim
claim_tells s p i m = record {
  stage = grind (arith, nat_tests, common_steps, and_parts);
  pass = elim (cases_Bool (p == 0)) [
    | inl z ↦ inl (same_pass p 0 z)
    | inr nz ↦ elim (cases_Bool (p == 1 + i)) [ inl o ↦ inr (same_pass p (1 + i) o) | inr other ↦ absurd (grind (arith, nat_tests, common_steps, and_parts)) ]
  ];
}

pub keeps_claim : (s : State) (p i : ℕ) → IsSoundState s → may_claim s p i ≡ true → IsSoundState (after_claim s p i)
unfolding after_claim
keeps_claim s p i h m =
    let t = claim_tells s p i m in
    keeps_stage s i (record (cpu_at s.machine i) { stage = Frozen p }) h (staged s i (Frozen p) refl h)
    (record { owner = t.pass; stay = stay_in s i Idle h (idle_is _ t.stage); ran = (h.seats.each i).ran })

-- ---- Start

-- a vCPU that isn't started has flags that are built, which a start-up gives it too
bare_flags : (m : MachineState) → IsMachine m → IsCpu (cpu_count m) (unstarted_cpu (cpu_count m))
bare_flags m h = let k = cpu_count m in subst (λ cpu. IsCpu k cpu) (get_or_past m.cpus k (unstarted_cpu k) (omega arith)) (h.each_cpu k)

started_continues : (s : State) (i rip : ℕ) → IsSoundState s → Continues i (cpu_at s.machine i) (started_at (cpu_at s.machine i) rip)
unfolding ctx_from unstarted_cpu
started_continues s i rip h = record {
  is_cpu = record { flags = (bare_flags s.machine h.machine).flags; waits = refl; unstarted = λ e. absurd (true≢false e); number = (h.machine.each_cpu i).number };
  started = λ e. refl;
  timer = λ e. e;
}

pub keeps_start : (s : State) (p i : ℕ) → IsSoundState s → may_start s p i ≡ true → IsSoundState (after_start s i)
unfolding after_start
keeps_start s p i h m =
    keeps_cpu s i (started_at (cpu_at s.machine i) (page_of (cpu_at s.machine i).startup)) h (started_continues s i (page_of (cpu_at s.machine i).startup) h) refl refl

-- ---- Exit

exit_tells : (s : State) (p i : ℕ) → may_exit s p i ≡ true → (i < cpu_count s.machine) × (is_running (cpu_at s.machine i).stage p ≡ true)
unfolding may_exit
exit_tells s p i m = (grind (arith, nat_tests, common_steps, and_parts), grind (arith, nat_tests, common_steps, and_parts))

pub keeps_exit : (s : State) (p i : ℕ) → IsSoundState s → may_exit s p i ≡ true → IsSoundState (after_exit s p i)
unfolding after_exit
keeps_exit s p i h m =
    let t = exit_tells s p i m in
    let inside = t.0 in
    let count = h.seats.count in
    let seat = record (seat_at s i) { left = 0; stayed = false } in
    let bound = grants_set s.seats i seat (omega arith) in
    let granted = h.counts.granted in
    keeps_at s i (record (cpu_at s.machine i) { stage = Frozen p }) seat s.executed h (staged s i (Frozen p) refl h)
    (record { owner = inr (owner_in s i (Running p) h (running_is _ p t.1)); stay = refl; ran = (h.seats.each i).ran }) (omega arith) (omega arith)

-- ---- Sleep

sleep_tells : (s : State) (p i : ℕ) → may_sleep s p i ≡ true → (is_frozen (cpu_at s.machine i).stage p ≡ true) × (p ≡ 1 + i)
unfolding may_sleep
sleep_tells s p i m = (grind (arith, nat_tests, common_steps, and_parts), grind (arith, nat_tests, common_steps, and_parts))

pub keeps_sleep : (s : State) (p i : ℕ) → IsSoundState s → may_sleep s p i ≡ true → IsSoundState (after_sleep s p i)
unfolding after_sleep
keeps_sleep s p i h m =
    let t = sleep_tells s p i m in
    keeps_stage s i (record (cpu_at s.machine i) { stage = Sleeping p }) h (staged s i (Sleeping p) refl h)
    (record { owner = t.1; stay = stay_in s i (Frozen p) h (frozen_is _ p t.0); ran = (h.seats.each i).ran })

-- ---- Wake

wake_tells : (s : State) (p i : ℕ) → may_wake s p i ≡ true → is_sleeping (cpu_at s.machine i).stage p ≡ true
unfolding may_wake
wake_tells s p i m = grind (arith, nat_tests, common_steps, and_parts)

pub keeps_wake : (s : State) (p i : ℕ) → IsSoundState s → may_wake s p i ≡ true → IsSoundState (after_wake s p i)
unfolding after_wake
keeps_wake s p i h m =
    let at = sleeping_is (cpu_at s.machine i).stage p (wake_tells s p i m) in
    keeps_stage s i (record (cpu_at s.machine i) { stage = Frozen p }) h (staged s i (Frozen p) refl h)
    (record { owner = inr (owner_in s i (Sleeping p) h at); stay = stay_in s i (Sleeping p) h at; ran = (h.seats.each i).ran })

-- ---- Yield

yield_tells : (s : State) (p i : ℕ) → may_yield s p i ≡ true → is_frozen (cpu_at s.machine i).stage p ≡ true
unfolding may_yield
yield_tells s p i m = grind (arith, nat_tests, common_steps, and_parts)

pub keeps_yield : (s : State) (p i : ℕ) → IsSoundState s → may_yield s p i ≡ true → IsSoundState (after_yield s i)
unfolding after_yield
keeps_yield s p i h m =
    keeps_stage s i (record (cpu_at s.machine i) { stage = Idle }) h (staged s i Idle refl h)
    (record { owner = tt; stay = stay_in s i (Frozen p) h (frozen_is _ p (yield_tells s p i m)); ran = (h.seats.each i).ran })
