-- What opening the images of the disks from one on comes to, and giving the first ones back.
use Rattle.std.specs.Prelude.{◌≡◌, ◌⊎◌, ℕ, ◌<◌, ◌≤◌, List, drop, length, slice_index_or, Option, Some, None, IsSome, Result, Ok, Err}
use Rattle.std.specs.List.{All}
use Rattle.vm_board.specs.Homes.{AreFresh}
use Rattle.vm_host.specs.Counts.{RoseExactly, SameCounts}
use Rattle.vm_host.specs.Leaves.{LeavesHost, WritesFiles}
use Rattle.vm_host.specs.Told.{WhereTold}
use Rattle.vm_host.specs.Views.{HostView, ImageView}
use Rattle.vm_law.specs.declared.plan.Plan.{Plan}
use Rattle.vm_state.specs.declared.start.Start.{Start}
use Rattle.vm_status.specs.declared.refusal.Refusal.{Refusal}
use Rattle.vm_status.specs.declared.refusal.Refusal.TheVariants.{HostFault, Memory}
use Rattle.vm_start.specs.Images.{path_of, IsGivenBack, HasFailed}

-- the name is that of the file of one of these disks
abbrev pub IsFrom : Plan → ℕ → List ℕ → Type 0
IsFrom plan first q = (d : ℕ) × (first ≤ d) × (d < length plan.disks) × (q ≡ path_of plan d)

module _ {I : Type 0} (seen : I → ImageView) (start : Start) (first : ℕ) where
  pub record IsOpen (images : List I) (old new : HostView) : Type 0 where
    pub fresh : AreFresh seen (drop first start.disks) images
    pub told : All (λ i. (seen i).tells ≡ old.tells) images
    pub stand : WhereTold old.tells ((d : ℕ) → first ≤ d → d < length start.plan.disks → IsSome (new.file (path_of start.plan d)))
    pub leaves : WritesFiles (IsFrom start.plan first) old new

  pub record IsShut (refusal : Refusal) (old new : HostView) : Type 0 where
    pub named : (refusal ≡ Memory) ⊎ ((d : ℕ) × (d < length start.plan.disks) × (refusal ≡ HostFault (path_of start.plan d)))
    pub files : WhereTold old.tells ((q : List ℕ) → new.file q ≡ old.file q)
    pub leaves : WritesFiles (IsFrom start.plan first) old new

  abbrev pub HasOpened : {V : Type 0} → (V → List I) → Result V Refusal → HostView → HostView → Type 0
  HasOpened items (Ok images) old new = IsOpen (items images) old new
  HasOpened items (Err refusal) old new = IsShut refusal old new

-- these images of the first disks were given back
pub record HasClosed {I : Type 0} (seen : I → ImageView) (plan : Plan) (homes : List (Option I)) (old new : HostView) : Type 0 where
  pub content : WhereTold old.tells ((d : ℕ) (image : I) → slice_index_or homes d None ≡ Some image
      → WhereTold (seen image).tells (new.file (path_of plan d) ≡ Some (seen image).content))
  pub image_faults : RoseExactly (HasFailed seen homes) old.image_faults new.image_faults
  pub counts : SameCounts old new
  pub leaves : LeavesHost (IsGivenBack plan homes) old new
