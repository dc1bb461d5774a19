-- How the end of a run is answered.
use Rattle.std.specs.Prelude.{◌≡◌, ◌≢◌, ◌⊎◌, ℕ, ◌<◌, ◌≤◌, List, length, Option, Some, None, Result, Ok, Err}
use Rattle.vm_host.specs.Counts.{Rose}
use Rattle.vm_host.specs.Leaves.{ReadsHost, WritesFile}
use Rattle.vm_host.specs.Views.{HostView}
use Rattle.vm_board.specs.Homes.{ReadsAs}
use Rattle.vm_control.specs.declared.control.OutFault.{OutFault}
use Rattle.vm_control.specs.declared.control.OutFault.TheVariants as fault
use Rattle.vm_law.specs.declared.journal.Signed.{Signed}
use Rattle.vm_law.specs.declared.plan.Plan.{Plan}
use Rattle.vm_outcome.specs.declared.outcome.Ending.{Ending}
use Rattle.vm_outcome.specs.declared.outcome.Ending.TheVariants.{Refused}
use Rattle.vm_outcome.specs.Causes.{IsNamed}
use Rattle.vm_outcome.specs.Ends.{ended_as}
use Rattle.vm_outcome.specs.Telling.{has_doubt}
use Rattle.vm_soloing.specs.Answers.{IsSaved}
use Rattle.vm_start.specs.Images.{IsDiskOf, path_of}
use Rattle.vm_state.specs.declared.start.Start.{Start}
use Rattle.vm_state.specs.State.{State, image_at}
use Rattle.vm_status.specs.declared.refusal.Refusal.{Refusal}
use Rattle.vm_status.specs.declared.refusal.Refusal.TheVariants.{HostFault, Console, Memory}
use Rattle.vm_table.specs.History.{last_state}

-- no file but the journal's changed
abbrev pub ChangesOnly : Option (List ℕ) → HostView → HostView → Type 0
ChangesOnly None old new = ReadsHost old new
ChangesOnly (Some name) old new = WritesFile name old new

-- the host refused the journal, at the file of its name, or memory did
abbrev pub IsUnsaved : Option (List ℕ) → HostView → Refusal → Type 0
IsUnsaved journal host refusal =
    ((name : List ℕ) × (journal ≡ Some name) × IsNamed name host × (refusal ≡ HostFault name)) ⊎ (refusal ≡ Memory)

-- after all was written, the journal is saved, or it isn't
pub data Saves (old new : HostView) (journal : Option (List ℕ)) (history : List Signed) (state : State) (ending : Ending) : Type 0 where
  saved : ending ≡ ended_as state.ended (has_doubt state) → IsSaved old new journal history → Saves old new journal history state ending
  unsaved : (refusal : Refusal) → ending ≡ Refused refusal → IsUnsaved journal new refusal → Saves old new journal history state ending

-- the ending of a run that came to its end so
abbrev pub Closes : HostView → HostView → Option (List ℕ) → List Signed → State → Result (Unit {0}) OutFault → Ending → Type 0
Closes old new journal history state (Ok x) ending = Saves old new journal history state ending
Closes old new journal history state (Err fault.Memory) ending = ending ≡ Refused Memory
Closes old new journal history state (Err other) ending = ending ≡ Refused Console

-- the counts of a host that may refuse a journal
pub record HasJournalCauses (status : ℕ) (old new : HostView) : Type 0 where
  pub failed : status ≡ 6 → Rose old.faults new.faults
  pub only_failed : old.faults < new.faults → (status ≡ 6) ⊎ (status ≡ 9)
  pub later : old.faults ≤ new.faults
  pub none_missing : (status ≢ 7) × (new.misses ≡ old.misses)

-- the journal is written to no disk's file
abbrev pub IsApart : Option (List ℕ) → Plan → Type 0
IsApart journal plan = (name : List ℕ) → journal ≡ Some name → IsDiskOf plan name → ⊥

-- each disk's file reads as the history's image of the disk, but in the sectors in doubt
abbrev pub FollowAll : (List ℕ → Option (List ℕ)) → Start → List Signed → Type 0
FollowAll file start history =
    (d : ℕ) → d < length start.plan.disks → (content : List ℕ) × (file (path_of start.plan d) ≡ Some content) × ReadsAs content (image_at (last_state start history) d)
