-- Words on what a replay keeps.
use Rattle.std.specs.Prelude.{◌≡◌}
use Rattle.vm_outcome.specs.declared.outcome.Kept.{Kept}
use Rattle.vm_outcome.specs.Telling.{IsRun}
use Rattle.vm_state.specs.declared.start.Start.{Start}

-- it is a run from this start
pub record IsRunFrom (first : Start) (k : Kept) : Type 0 where
  pub start : k.start ≡ first
  pub run : IsRun k
