-- Who owns a vCPU: Claim, Start, Exit, Sleep, Wake, Yield. Pass 0 is control, and pass 1 + i is the runner of vCPU i.
-- Source of the stages: FreeBSD's vmm(4) and sys/amd64/vmm/vmm.c; of a start-up: Intel SDM volume 3, section 8.4.3.
use Rattle.std.specs.Prelude.{ℕ, ◌+◌, ◌*◌, Bool, true, false, not, ◌&&◌, ◌||◌, ◌==◌, Option, Some, None, is_none, is_some}
use Rattle.vm_law.specs.declared.stage.Owned.TheVariants.{Idle, Frozen, Sleeping}
use Rattle.vm_meet.specs.Meeting.{names, awaits}
use Rattle.vm_state.specs.declared.cpu.Cpu.{Cpu}
use Rattle.vm_state.specs.Machine.{is_cpu, cpu_at, with_cpu, with_stage, ctx_from, is_idle, is_frozen, is_running, is_sleeping, is_eager}
use Rattle.vm_state.specs.State.{State, seat_at, with_machine, with_seat}

-- ---- Claim: an idle vCPU is taken by its runner, to run or for its turn in a meeting, or by control, for a pause

unfoldable pub may_claim : State → ℕ → ℕ → Bool
may_claim s p i =
    is_cpu s.machine i && is_idle (cpu_at s.machine i).stage
    && (((p == 1 + i) && not s.machine.pause && is_none s.ended)
    || ((p == 1 + i) && awaits s.machine.meet i)
    || ((p == 0) && s.machine.pause && is_none s.ended))

unfoldable pub after_claim : State → ℕ → ℕ → State
after_claim s p i = with_machine s (with_stage s.machine i (Frozen p))

-- ---- Start: a start-up that waits starts the vCPU at the page that its vector names

unfoldable pub may_start : State → ℕ → ℕ → Bool
may_start s p i =
    is_cpu s.machine i && is_frozen (cpu_at s.machine i).stage p && (p == 1 + i) && is_some (cpu_at s.machine i).startup
    && not s.machine.pause && is_none s.ended

abbrev pub page_of : Option ℕ → ℕ
page_of None = 0
page_of (Some vector) = 4096 * vector

abbrev pub started_at : Cpu → ℕ → Cpu
started_at cpu rip = record cpu { started = true; startup = None; ctx = ctx_from rip }

unfoldable pub after_start : State → ℕ → State
after_start s i = with_machine s (with_cpu s.machine i (started_at (cpu_at s.machine i) (page_of (cpu_at s.machine i).startup)))

-- ---- Exit: a running vCPU is frozen, once it did something in its stay or something waits for it

unfoldable pub may_exit : State → ℕ → ℕ → Bool
may_exit s p i =
    is_cpu s.machine i && is_running (cpu_at s.machine i).stage p
    && ((seat_at s i).stayed || is_some s.machine.meet || s.machine.pause || is_some s.ended)

-- what is left of its grant is given back, and its stay ends
unfoldable pub after_exit : State → ℕ → ℕ → State
after_exit s p i =
    with_seat (with_machine s (with_stage s.machine i (Frozen p))) i (record (seat_at s i) { left = 0; stayed = false })

-- ---- Sleep and Wake: a vCPU that has nothing to do sleeps until it has, or something waits for it

unfoldable pub may_sleep : State → ℕ → ℕ → Bool
may_sleep s p i =
    is_cpu s.machine i && is_frozen (cpu_at s.machine i).stage p && (p == 1 + i)
    && not (is_eager (cpu_at s.machine i)) && not (names s.machine.meet i) && not s.machine.pause && is_none s.ended

unfoldable pub after_sleep : State → ℕ → ℕ → State
after_sleep s p i = with_machine s (with_stage s.machine i (Sleeping p))

unfoldable pub may_wake : State → ℕ → ℕ → Bool
may_wake s p i =
    is_cpu s.machine i && is_sleeping (cpu_at s.machine i).stage p
    && (is_eager (cpu_at s.machine i) || names s.machine.meet i || s.machine.pause || is_some s.ended)

unfoldable pub after_wake : State → ℕ → ℕ → State
after_wake s p i = with_machine s (with_stage s.machine i (Frozen p))

-- ---- Yield: a frozen vCPU is given up at the end, by its runner for a pause, or by control after one

unfoldable pub may_yield : State → ℕ → ℕ → Bool
may_yield s p i =
    is_cpu s.machine i && is_frozen (cpu_at s.machine i).stage p && not (names s.machine.meet i)
    && (is_some s.ended || (not (p == 0) && s.machine.pause) || ((p == 0) && not s.machine.pause))

unfoldable pub after_yield : State → ℕ → State
after_yield s i = with_machine s (with_stage s.machine i Idle)
