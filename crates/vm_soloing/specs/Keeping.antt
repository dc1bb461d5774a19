-- Words on what a run keeps.
use Rattle.std.specs.Prelude.{◌≡◌, ℕ, ◌<◌, true, false, List, length, Option}
use Rattle.vm_board.specs.Homes.{has_failed}
use Rattle.vm_host.specs.Counts.{Rose}
use Rattle.vm_host.specs.Leaves.{LeavesHost, TakesSome}
use Rattle.vm_host.specs.Told.{WhereTold}
use Rattle.vm_outcome.specs.declared.outcome.Ending.{Ending}
use Rattle.vm_outcome.specs.declared.outcome.Ending.TheVariants.{Refused}
use Rattle.vm_outcome.specs.declared.outcome.Kept.{Kept}
use Rattle.vm_outcome.specs.Causes.{HasCauses, IsNamed}
use Rattle.vm_outcome.specs.Ends.{ending_status}
use Rattle.vm_outcome.specs.Outside.{IsEnd, Outside, sent_in}
use Rattle.vm_outcome.specs.Telling.{IsRun}
use Rattle.vm_soloing.specs.Answers.{RunAnswers, Way}
use Rattle.vm_soloing.specs.Closing.{FollowAll}
use Rattle.vm_soloing.specs.Disks.{IsOwn}
use Rattle.vm_state.specs.declared.start.Start.{Start}
use Rattle.vm_status.specs.declared.refusal.Refusal.TheVariants.{HostFault}
use Rattle.vm_table.specs.Turns.{IsOrderly}

-- each call of a disk's image that the history tells of succeeded
abbrev pub NoneFailed : Kept → Type 0
NoneFailed k = (d : ℕ) → d < length k.start.plan.disks → has_failed d k.journal ≡ false

-- it is a run from this start
pub record IsRunFrom (first : Start) (k : Kept) : Type 0 where
  pub start : k.start ≡ first
  pub run : IsRun k
  pub orderly : IsOrderly k.start k.journal

-- what a run from this start does that is kept, where its journal is to be written to the file of this name
pub record RunsFrom (way : Way) (first : Start) (journal : Option (List ℕ)) (o : Outside) (ending : Ending) (k : Kept) : Type 0 where
  pub from : IsRunFrom first k
  pub answers : RunAnswers way o journal k ending
  pub causes : HasCauses (ending_status ending) o.host o.host_now o.console o.console_now
  pub named : (name : List ℕ) → ending ≡ Refused (HostFault name) → IsNamed name o.host_now
  pub host : LeavesHost (IsOwn first.plan journal) o.host o.host_now
  pub disks : IsEnd (ending_status ending) → WhereTold o.host.tells (FollowAll o.host_now.file k.start k.journal)
  pub failed : IsEnd (ending_status ending) → (d : ℕ) → d < length k.start.plan.disks → has_failed d k.journal ≡ true → Rose o.host.image_faults o.host_now.image_faults
  pub console : TakesSome (sent_in k) o.console o.console_now
