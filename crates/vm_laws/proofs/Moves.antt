-- Which entry is lawful where.
use Rattle.std.proofs.Common.{◌≡◌, ℕ, ◌+◌, ◌<◌, min, true, false, sym, inl, inr, ◌⊎◌, arith, Option, Some, None}
use Rattle.std.specs.Prelude.{nat_lt, nat_le, is_some}
use Rattle.std.proofs.lemmas.Bool.{or_right, true≢false, and_parts}
use Rattle.std.proofs.lemmas.Bool.Decides.{nat_tests}
use Rattle.std.proofs.lemmas.Grind.{common_steps}
use Rattle.vm_law.specs.declared.stage.Owned.TheVariants.{Idle, Frozen, Running, Sleeping}
use Rattle.x86_fetch.specs.Slices.{all_local}
use Rattle.x86_fetch.specs.Fetching.{is_local_next}
use Rattle.vm_meet.specs.Meeting.{awaits, names}
use Rattle.vm_meet.specs.declared.meeting.Meeting.{Meeting}
use Rattle.vm_state.specs.Machine.{cpu_at, cpu_count, is_cpu, is_eager, is_awake, code_of}
use Rattle.vm_state.specs.State.{State, seat_at, open_grants, room_of}
use Rattle.vm_owners.specs.Owners.{may_claim, may_start, may_exit, may_sleep, may_wake, may_yield}
use Rattle.vm_owners.specs.Turn.{may_turn}
use Rattle.vm_running.specs.Enter.{may_enter}
use Rattle.vm_running.specs.Slice.{has_slice, may_slice}
use Rattle.vm_running.specs.Step.{may_step, next_at, has_step}
use Rattle.vm_table.specs.Turns.{is_exit_due, grant_of}

-- ---- while a rendezvous is open

pub awaited_is_named : (m : Option Meeting) (i : ℕ) → awaits m i ≡ true → names m i ≡ true
awaited_is_named None i h = absurd (true≢false (sym h))
awaited_is_named (Some m) i h = (and_parts (names (Some m) i) _ h).0

pub claims_awaited : (s : State) (i : ℕ) → i < cpu_count s.machine → (cpu_at s.machine i).stage ≡ Idle → awaits s.machine.meet i ≡ true → may_claim s (1 + i) i ≡ true
unfolding may_claim
claims_awaited s i l st aw = grind (arith, nat_tests, common_steps)

pub turns_awaited : (s : State) (p i : ℕ) → i < cpu_count s.machine → (cpu_at s.machine i).stage ≡ Frozen p → awaits s.machine.meet i ≡ true → may_turn s p i ≡ true
unfolding may_turn
turns_awaited s p i l st aw = grind (arith, nat_tests, common_steps)

pub wakes_named : (s : State) (p i : ℕ) → i < cpu_count s.machine → (cpu_at s.machine i).stage ≡ Sleeping p → names s.machine.meet i ≡ true → may_wake s p i ≡ true
unfolding may_wake
wakes_named s p i l st nm = grind (arith, nat_tests, common_steps)

pub exits_met : (s : State) (p i : ℕ) → i < cpu_count s.machine → (cpu_at s.machine i).stage ≡ Running p → is_some s.machine.meet ≡ true → (is_exit_due s i ≡ true) × (may_exit s p i ≡ true)
unfolding may_exit is_exit_due
exits_met s p i l st nm = (grind (arith, nat_tests, common_steps), grind (arith, nat_tests, common_steps))

-- ---- after the end

pub yields_ended : (s : State) (p i : ℕ) → i < cpu_count s.machine → (cpu_at s.machine i).stage ≡ Frozen p → s.machine.meet ≡ None → is_some s.ended ≡ true → may_yield s p i ≡ true
unfolding may_yield
yields_ended s p i l st m e = grind (arith, nat_tests, common_steps)

pub wakes_ended : (s : State) (p i : ℕ) → i < cpu_count s.machine → (cpu_at s.machine i).stage ≡ Sleeping p → is_some s.ended ≡ true → may_wake s p i ≡ true
unfolding may_wake
wakes_ended s p i l st e = grind (arith, nat_tests, common_steps)

pub exits_ended : (s : State) (p i : ℕ) → i < cpu_count s.machine → (cpu_at s.machine i).stage ≡ Running p → is_some s.ended ≡ true → (is_exit_due s i ≡ true) × (may_exit s p i ≡ true)
unfolding may_exit is_exit_due
exits_ended s p i l st e = (grind (arith, nat_tests, common_steps), grind (arith, nat_tests, common_steps))

-- ---- while a pause is wished

pub claims_paused : (s : State) (i : ℕ) → i < cpu_count s.machine → (cpu_at s.machine i).stage ≡ Idle → s.machine.pause ≡ true → s.ended ≡ None → may_claim s 0 i ≡ true
unfolding may_claim
claims_paused s i l st w e = grind (arith, nat_tests, common_steps)

pub yields_paused : (s : State) (i : ℕ) → i < cpu_count s.machine → (cpu_at s.machine i).stage ≡ Frozen (1 + i) → s.machine.meet ≡ None → s.machine.pause ≡ true → may_yield s (1 + i) i ≡ true
unfolding may_yield
yields_paused s i l st m w = grind (arith, nat_tests, common_steps)

pub wakes_paused : (s : State) (p i : ℕ) → i < cpu_count s.machine → (cpu_at s.machine i).stage ≡ Sleeping p → s.machine.pause ≡ true → may_wake s p i ≡ true
unfolding may_wake
wakes_paused s p i l st w = grind (arith, nat_tests, common_steps)

pub exits_paused : (s : State) (p i : ℕ) → i < cpu_count s.machine → (cpu_at s.machine i).stage ≡ Running p → s.machine.pause ≡ true → (is_exit_due s i ≡ true) × (may_exit s p i ≡ true)
unfolding may_exit is_exit_due
exits_paused s p i l st w = (grind (arith, nat_tests, common_steps), grind (arith, nat_tests, common_steps))

-- ---- while the run goes on, with no pause wished and no rendezvous open

pub claims_going : (s : State) (i : ℕ) → i < cpu_count s.machine → (cpu_at s.machine i).stage ≡ Idle → s.machine.pause ≡ false → s.ended ≡ None → may_claim s (1 + i) i ≡ true
unfolding may_claim
claims_going s i l st w e = grind (arith, nat_tests, common_steps)

pub yields_going : (s : State) (i : ℕ) → i < cpu_count s.machine → (cpu_at s.machine i).stage ≡ Frozen 0 → s.machine.meet ≡ None → s.machine.pause ≡ false → may_yield s 0 i ≡ true
unfolding may_yield
yields_going s i l st m w = grind (arith, nat_tests, common_steps)

pub starts_going : (s : State) (i : ℕ) → i < cpu_count s.machine → (cpu_at s.machine i).stage ≡ Frozen (1 + i) → is_some (cpu_at s.machine i).startup ≡ true → s.machine.pause ≡ false → s.ended ≡ None → may_start s (1 + i) i ≡ true
unfolding may_start
starts_going s i l st u w e = grind (arith, nat_tests, common_steps)

pub sleeps_going : (s : State) (i : ℕ) → i < cpu_count s.machine → (cpu_at s.machine i).stage ≡ Frozen (1 + i) → is_eager (cpu_at s.machine i) ≡ false → s.machine.meet ≡ None → s.machine.pause ≡ false → s.ended ≡ None → may_sleep s (1 + i) i ≡ true
unfolding may_sleep
sleeps_going s i l st u m w e = grind (arith, nat_tests, common_steps)

pub wakes_going : (s : State) (p i : ℕ) → i < cpu_count s.machine → (cpu_at s.machine i).stage ≡ Sleeping p → is_eager (cpu_at s.machine i) ≡ true → may_wake s p i ≡ true
unfolding may_wake
wakes_going s p i l st u = grind (arith, nat_tests, common_steps)

pub enters_going : (s : State) (i : ℕ) → i < cpu_count s.machine → (cpu_at s.machine i).stage ≡ Frozen (1 + i) → (cpu_at s.machine i).started ≡ true → is_awake (cpu_at s.machine i) ≡ true
    → s.machine.meet ≡ None → s.machine.pause ≡ false → s.ended ≡ None → s.executed + open_grants s.seats < s.limit → may_enter s (1 + i) i (grant_of s) ≡ true
unfolding may_enter grant_of
enters_going s i l st u a m w e room =
    let one : nat_le 1 (min 1024 (room_of s)) ≡ true = grind (arith, nat_tests) in
    let most : nat_le (min 1024 (room_of s)) 1024 ≡ true = grind (arith, nat_tests) in
    let fit : nat_le (s.executed + open_grants s.seats + min 1024 (room_of s)) s.limit ≡ true = grind (arith, nat_tests) in
    let is : is_cpu s.machine i ≡ true = grind (arith, nat_tests) in
    rw (is, st, u, a, m, w, e, one, most, fit) (grind (arith, nat_tests))

pub exits_due : (s : State) (p i : ℕ) → i < cpu_count s.machine → (cpu_at s.machine i).stage ≡ Running p → (seat_at s i).stayed ≡ true → ((cpu_at s.machine i).halted ≡ true) ⊎ ((seat_at s i).left ≡ 0) → (is_exit_due s i ≡ true) × (may_exit s p i ≡ true)
unfolding may_exit is_exit_due
exits_due s p i l st y (inl h) = (grind (arith, nat_tests, common_steps), grind (arith, nat_tests, common_steps))
exits_due s p i l st y (inr h) = (grind (arith, nat_tests, common_steps), grind (arith, nat_tests, common_steps))

pub slices_going : (s : State) (p i : ℕ) → i < cpu_count s.machine → (cpu_at s.machine i).stage ≡ Running p → (cpu_at s.machine i).halted ≡ false → 0 < (seat_at s i).left → s.machine.meet ≡ None → all_local (code_of s.machine) (cpu_at s.machine i).ctx 1 ≡ true → may_slice s p i 1 ≡ true
unfolding may_slice has_slice
slices_going s p i l st h g m loc =
    let is : is_cpu s.machine i ≡ true = grind (arith, nat_tests) in
    let some : nat_le 1 (seat_at s i).left ≡ true = grind (arith, nat_tests) in
    rw (is, st, h, some, m, loc) (grind (arith, nat_tests))

pub steps_going : (s : State) (p i : ℕ) → i < cpu_count s.machine → (cpu_at s.machine i).stage ≡ Running p → (cpu_at s.machine i).halted ≡ false → 0 < (seat_at s i).left → s.machine.meet ≡ None → s.ended ≡ None → is_local_next (next_at s i) ≡ false → may_step s p i ≡ true
unfolding may_step has_step
steps_going s p i l st h g m e loc =
    let is : is_cpu s.machine i ≡ true = grind (arith, nat_tests) in
    let some : nat_lt 0 (seat_at s i).left ≡ true = grind (arith, nat_tests) in
    rw (is, st, h, some, m, e, loc) (grind (arith, nat_tests, or_right))
