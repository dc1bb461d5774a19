use Rattle.std.proofs.Common.{◌≡◌, ◌<◌, ◌^◌, ℕ, get_or, length}
use Rattle.std.specs.List.{All}
use Rattle.vm_state.specs.Machine.{cpu_at}
use Rattle.vm_devices.specs.Timers as spec
use Rattle.vm_devices.proofs.timers.periods.Given as goal

abbrev pub invariant-loop-i : goal.invariant-loop-i
invariant-loop-i l =
    record {
      each : (k : ℕ) → k < l.i → get_or l.periods k 0 ≡ spec.period_of (cpu_at l.machine.state k).lapic;
      small : All (λ r. r < 2 ^ 40) l.periods;
      long : length l.periods ≡ 16;
    }
