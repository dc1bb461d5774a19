use Rattle.std.proofs.Common.{◌≡◌, ◌<◌, ◌^◌, ℕ, get_or, length}
use Rattle.std.specs.List.{All}
use Rattle.vm_timer.specs.Timers as spec
use Rattle.vm_timer.proofs.callouts.Callouts.advance.Given as goal

abbrev pub invariant-loop-cpu : goal.invariant-loop-cpu
invariant-loop-cpu l =
    record {
      each : (k : ℕ) → k < l.cpu → get_or l.after k 0 ≡ spec.left_after l.n (get_or l.spans k 0) (get_or l.self-inside.left k 0);
      small : All (λ r. r < 2 ^ 40) l.after;
      long : length l.after ≡ 16;
    }
