-- Instructions of a running vCPU that touch its own registers alone: Slice.
use Rattle.std.specs.Prelude.{ℕ, ◌+◌, ◌-◌, Bool, not, ◌&&◌, nat_le, true}
use Rattle.x86_fetch.specs.Slices.{all_local, stepped_by}
use Rattle.vm_meet.specs.Meeting.{started_by}
use Rattle.vm_state.specs.Machine.{is_cpu, cpu_at, with_ctx, code_of, is_running}
use Rattle.vm_state.specs.State.{State, seat_at, with_machine, with_seat}

-- n instructions of vCPU i were executed
unfoldable pub spent : State → ℕ → ℕ → State
spent s i n =
    record (with_seat s i (record { left = (seat_at s i).left - n; stayed = true; ran = (seat_at s i).ran + n })) { executed = s.executed + n }

-- a running vCPU has n instructions left, and didn't open the meeting that is open
unfoldable pub has_slice : State → ℕ → ℕ → ℕ → Bool
has_slice s p i n =
    is_cpu s.machine i && is_running (cpu_at s.machine i).stage p && not (cpu_at s.machine i).halted
    && nat_le 1 n && nat_le n (seat_at s i).left && not (started_by s.machine.meet p)

-- each of them is local in the code as memory holds it
unfoldable pub may_slice : State → ℕ → ℕ → ℕ → Bool
may_slice s p i n = has_slice s p i n && all_local (code_of s.machine) (cpu_at s.machine i).ctx n

unfoldable pub after_slice : State → ℕ → ℕ → State
after_slice s i n =
    spent (with_machine s (with_ctx s.machine i (stepped_by (code_of s.machine) (cpu_at s.machine i).ctx n))) i n
