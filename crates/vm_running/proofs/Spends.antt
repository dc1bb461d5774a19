-- What a vCPU has for an instruction stays over an access to a window.
use Rattle.std.specs.Prelude.{IsTrue, nat_lt}
use Rattle.std.proofs.Common.{◌≡◌, ℕ, ◌+◌, ◌<◌, ◌≤◌, ◌^◌, true, List, length, get_or, sym, ap, subst, arith, ◌∙◌}
use Rattle.std.proofs.lemmas.Bool.{and_parts}
use Rattle.std.proofs.lemmas.Bool.Decides.{nat_tests}
use Rattle.std.proofs.lemmas.Grind.{common_steps}
use Rattle.vm_state.specs.declared.cpu.Seat.{Seat}
use Rattle.vm_state.specs.Machine.{cpu_count, is_cpu}
use Rattle.vm_state.specs.State.{State, empty_seat, seat_at}
use Rattle.vm_devices.proofs.Counts.{Leaves}
use Rattle.vm_state.specs.Sound.{IsSoundState}
use Rattle.vm_running.specs.Spending.{CanSpend}
use Rattle.vm_running.specs.Step.{has_step, is_allowed, may_step}

pub cpu_on : (s t : State) (i : ℕ) → Leaves s t → IsTrue (is_cpu s.machine i) → IsTrue (is_cpu t.machine i)
cpu_on s t i l h = ap (λ (n : ℕ). nat_lt i n) l.cpus ∙ h

pub spends_on : (s t : State) (i : ℕ) → Leaves s t → CanSpend s i → CanSpend t i
spends_on s t i l h = record {
  seat = subst (λ (xs : List Seat). i < length xs) (sym l.seats) h.seat;
  left = subst (λ (xs : List Seat). 1 ≤ (get_or xs i empty_seat).left) (sym l.seats) h.left;
  ran = subst (λ (xs : List Seat). (get_or xs i empty_seat).ran + 1 < 2 ^ 64) (sym l.seats) h.ran;
  executed = subst (λ (n : ℕ). n + 1 < 2 ^ 64) (sym l.executed) h.executed;
}

-- ---- whoever may run a Step has it

pub step_cpu : (s : State) (p i : ℕ) → has_step s p i ≡ true → IsTrue (is_cpu s.machine i)
unfolding has_step
step_cpu s p i h = grind (arith, common_steps, and_parts)

step_within : (s : State) (p i : ℕ) → has_step s p i ≡ true → i < cpu_count s.machine
unfolding has_step
step_within s p i h = grind (arith, nat_tests, common_steps, and_parts)

step_left : (s : State) (p i : ℕ) → has_step s p i ≡ true → 1 ≤ (seat_at s i).left
unfolding has_step
step_left s p i h = grind (arith, nat_tests, common_steps, and_parts)

pub step_spends : (s : State) (p i : ℕ) → IsSoundState s → has_step s p i ≡ true → CanSpend s i
step_spends s p i sound h =
    let within = step_within s p i h in
    let seats = sound.seats.count in
    let ran = (sound.seats.each i).ran in
    let granted = sound.counts.granted in
    let limit = sound.counts.limit in
    record {
      seat = omega arith;
      left = step_left s p i h;
      ran = omega arith;
      executed = omega arith;
    }

pub may_has : (s : State) (p i : ℕ) → may_step s p i ≡ true → has_step s p i ≡ true
unfolding may_step
may_has s p i h = (and_parts (has_step s p i) (is_allowed s i) h).0
