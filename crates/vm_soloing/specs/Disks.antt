-- The files of a start's disks after a run.
use Rattle.std.specs.Prelude.{◌≡◌, ◌⊎◌, ℕ, ◌<◌, Bool, true, false, List, length, slice_index_or, Option, Some}
use Rattle.vm_host.specs.Leaves.{LeavesHost, ReadsHost}
use Rattle.vm_host.specs.Views.{HostView}
use Rattle.vm_board.specs.Homes.{ReadsAs}
use Rattle.vm_cmd.specs.declared.command.RunWords.{RunWords}
use Rattle.vm_law.specs.declared.plan.Plan.{Plan}
use Rattle.vm_outcome.specs.declared.outcome.Kept.{Kept}
use Rattle.vm_start.specs.Images.{IsDiskOf, path_of}
use Rattle.vm_start.specs.Start.{IsStartOf}
use Rattle.vm_state.specs.declared.image.DiskImage.{DiskImage}
use Rattle.vm_state.specs.declared.start.Start.{Start}
use Rattle.vm_state.specs.Start.{no_plan}
use Rattle.vm_state.specs.State.{image_at}
use Rattle.vm_table.specs.History.{last_state}

-- a disk's file: a read-only one reads as before; another as the history's image of the disk, but in the sectors in doubt
abbrev pub Follows : Bool → Option (List ℕ) → Option (List ℕ) → DiskImage → Type 0
Follows true before now image = now ≡ before
Follows false before now image = (content : List ℕ) × (now ≡ Some content) × ReadsAs content image

-- each disk's file
abbrev pub HoldDisks : (List ℕ → Option (List ℕ)) → (List ℕ → Option (List ℕ)) → Kept → Type 0
HoldDisks before now k =
    (d : ℕ) → d < length k.start.plan.disks
    → Follows (slice_index_or k.start.plan.disks d no_plan).ro (before (path_of k.start.plan d)) (now (path_of k.start.plan d)) (image_at (last_state k.start k.journal) d)

-- a file that a run may change: a disk's or the journal's
abbrev pub IsOwn : Plan → Option (List ℕ) → List ℕ → Type 0
IsOwn plan journal q = IsDiskOf plan q ⊎ (journal ≡ Some q)

-- no file changed, or no other than those of a start that the words and the files give
abbrev pub ChangesOwn : RunWords → HostView → HostView → Type 0
ChangesOwn w old new =
    ReadsHost old new ⊎ ((start : Start) × IsStartOf old.tells old.file w w.journal start × LeavesHost (IsOwn start.plan w.journal) old new)
