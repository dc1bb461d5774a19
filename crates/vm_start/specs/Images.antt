-- The disks of a start, as files of a host and as the images that it lends.
use Rattle.std.specs.Prelude.{◌≡◌, ◌≢◌, ℕ, ◌<◌, List, [], length, slice_index_or, Option, Some, None, IsSome}
use Rattle.vm_host.specs.Views.{ImageView}
use Rattle.vm_law.specs.declared.plan.Plan.{Plan}
use Rattle.vm_state.specs.declared.start.Start.{Start}
use Rattle.vm_state.specs.Start.{no_plan}

abbrev pub path_of : Plan → ℕ → List ℕ
path_of plan d = (slice_index_or plan.disks d no_plan).path

-- no two disks have one file
abbrev pub AreApart : Plan → Type 0
AreApart plan = (i j : ℕ) → i < j → j < length plan.disks → path_of plan i ≢ path_of plan j

-- each disk's file reads as the disk
abbrev pub AreFilesOf : (List ℕ → Option (List ℕ)) → Start → Type 0
AreFilesOf file start = (d : ℕ) → d < length start.plan.disks → file (path_of start.plan d) ≡ Some (slice_index_or start.disks d [])

-- each disk's file is there
abbrev pub AllStand : (List ℕ → Option (List ℕ)) → Plan → Type 0
AllStand file plan = (d : ℕ) → d < length plan.disks → IsSome (file (path_of plan d))

-- the name is that of a disk's file
abbrev pub IsDiskOf : Plan → List ℕ → Type 0
IsDiskOf plan q = (d : ℕ) × (d < length plan.disks) × (q ≡ path_of plan d)

module _ {I : Type 0} where
  -- the name is that of the file of an image that is at hand
  abbrev pub IsGivenBack : Plan → List (Option I) → List ℕ → Type 0
  IsGivenBack plan images q = (d : ℕ) × ((image : I) × (slice_index_or images d None ≡ Some image) × (q ≡ path_of plan d))

  -- an image that is at hand has failed
  abbrev pub HasFailed : (I → ImageView) → List (Option I) → Type 0
  HasFailed seen images = (d : ℕ) × ((image : I) × (slice_index_or images d None ≡ Some image) × (0 < (seen image).faults))
