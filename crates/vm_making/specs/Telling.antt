-- What follows a run: the line of the total, where it finished.
use Rattle.std.specs.Prelude.{◌≡◌, ◌≢◌, ℕ, ◌≤◌, []}
use Rattle.vm_host.specs.Counts.{Rose}
use Rattle.vm_host.specs.Leaves.{Takes}
use Rattle.vm_host.specs.Views.{SinkView}
use Rattle.vm_making.specs.Line.{TakesUpTo, total_line}
use Rattle.vm_outcome.specs.declared.outcome.Ending.{Ending}
use Rattle.vm_outcome.specs.declared.outcome.Ending.TheVariants.{Refused}
use Rattle.vm_outcome.specs.Ends.{ending_status}
use Rattle.vm_status.specs.declared.refusal.Refusal.TheVariants.{Console}

-- how the command ends whose run ended as `before`
pub data TellsTotal {S : Type 0} (cpus number : ℕ) (before ending : Ending) (console console_now : S) (old new : SinkView) : Type 0 where
  -- the console took the line
  written : ending_status before ≡ 0 → Takes (total_line cpus number) old new → new.faults ≡ old.faults → ending ≡ before
      → TellsTotal cpus number before ending console console_now old new
  -- it refused some of it
  refused : ending_status before ≡ 0 → TakesUpTo [] (total_line cpus number) old new → Rose old.faults new.faults → old.faults ≤ new.faults → ending ≡ Refused Console
      → TellsTotal cpus number before ending console console_now old new
  -- there is none
  none : ending_status before ≢ 0 → console_now ≡ console → ending ≡ before → TellsTotal cpus number before ending console console_now old new
