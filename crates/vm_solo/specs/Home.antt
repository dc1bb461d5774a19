-- The images of a run in which none is out.
use Rattle.std.specs.Prelude.{◌≡◌, ℕ, ◌<◌, List, length, slice_index_or, Option, Some, None}
use Rattle.vm_law.specs.declared.journal.Signed.{Signed}
use Rattle.vm_host.specs.Views.{ImageView}
use Rattle.vm_state.specs.declared.start.Start.{Start}
use Rattle.vm_table.specs.History.{last_state}
use Rattle.vm_board.specs.Homes.{IsAtHome}

module _ {I : Type 0} (seen : I → ImageView) where
  -- the image of disk d is there, and is as one at home is
  abbrev pub IsHome : Start → List Signed → ℕ → Option I → Type 0
  IsHome start journal d None = ⊥
  IsHome start journal d (Some image) = IsAtHome start journal d (seen image)

  -- that of each disk is
  pub record AreAllHome (start : Start) (journal : List Signed) (images : List (Option I)) : Type 0 where
    pub count : length images ≡ length (last_state start journal).images
    pub each : (d : ℕ) → d < length images → IsHome start journal d (slice_index_or images d None)
