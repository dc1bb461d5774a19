-- A worker fits a history: what it has out is what the run after that history has out with its pass.
use Rattle.std.specs.Prelude.{◌≡◌, ℕ, Bool, true, false, List, [], ◌∷◌, ◌++◌, Option, Some, None}
use Rattle.vm_law.specs.declared.journal.Entry.TheVariants.{Put}
use Rattle.vm_law.specs.declared.journal.Signed.{Signed}
use Rattle.vm_host.specs.Views.{ImageView}
use Rattle.vm_state.specs.declared.start.Start.{Start}
use Rattle.vm_state.specs.Requests.{is_worker}
use Rattle.vm_state.specs.Start.{IsSound}
use Rattle.vm_state.specs.State.{image_at}
use Rattle.vm_table.specs.History.{IsLegal, last_state}
use Rattle.vm_table.specs.Rounds.{is_its}
use Rattle.vm_board.specs.Homes.{IsAtHome, held_sector}
use Rattle.vm_blkwork.specs.declared.outside.Out.{Out}
use Rattle.vm_blkwork.specs.declared.worker.Worker.{Worker}

-- the image is as one at home; once its call was made, it is so after the Put that is due
abbrev pub IsKept : Start → List Signed → ℕ → ℕ → ℕ → Option Bool → ImageView → Type 0
IsKept start journal p d id None image = IsAtHome start journal d image
IsKept start journal p d id (Some ok) image = IsAtHome start (journal ++ record { by = p; entry = Put d id ok } ∷ []) d image

module _ {I : Type 0} (seen : I → ImageView) where
  -- the run names the pass as holder for the request, and the sector is the one that the image is out for
  pub record IsOut (start : Start) (journal : List Signed) (p d : ℕ) (out : Out I) : Type 0 where
    pub holder : (image_at (last_state start journal) d).holder ≡ Some (record { by = p; id = out.id })
    pub sector : out.sector ≡ held_sector (last_state start journal) d out.id
    pub home : IsKept start journal p d out.id out.answer (seen out.image)

  -- it has an image exactly where the run says so
  abbrev pub HasOut : Start → List Signed → ℕ → ℕ → Option (Out I) → Type 0
  HasOut start journal p d None = is_its p (image_at (last_state start journal) d).holder ≡ false
  HasOut start journal p d (Some out) = IsOut start journal p d out

  pub record WorkerFits (start : Start) (journal : List Signed) (w : Worker I) : Type 0 where
    pub sound : IsSound start
    pub legal : IsLegal start journal
    pub number : is_worker (last_state start journal).machine w.by w.disk ≡ true
    pub has : HasOut start journal w.by w.disk w.out

  -- some history
  pub record FitsSome (w : Worker I) : Type 0 where
    pub start : Start
    pub journal : List Signed
    pub fits : WorkerFits start journal w
