-- A worker at the turnstile.
use Rattle.std.specs.Prelude.{◌≡◌, ℕ, Bool, false, List, Some}
use Rattle.vm_law.specs.declared.journal.Signed.{Signed}
use Rattle.vm_host.specs.Views.{ImageView}
use Rattle.vm_turn.specs.declared.view.View.{View}
use Rattle.vm_state.specs.declared.start.Start.{Start}
use Rattle.vm_state.specs.State.{State}
use Rattle.vm_board.specs.declared.actor.Did.{Did}
use Rattle.vm_board.specs.declared.actor.Did.TheVariants.{Starved}
use Rattle.vm_board.specs.declared.actor.Went.{Went}
use Rattle.vm_board.specs.Going.{HasGone, IsStay, place}
use Rattle.vm_blkwork.specs.declared.worker.Worker.{Worker}
use Rattle.vm_blkwork.specs.Fits.{WorkerFits}
use Rattle.vm_blkwork.specs.Outside.{GoneOutside, IsWaiting}
use Rattle.vm_blkwork.specs.Turn.{back_of, is_left}

module _ {I : Type 0} where
  abbrev pub leaves : State → Worker I → Bool
  leaves s w = is_left s w.by w.disk

  -- after a turn no call was made yet on what is out, and a turn that wanted memory changed nothing
  abbrev pub IsTurned : Did → Worker I → Worker I → Type 0
  IsTurned Starved before after = after ≡ before
  IsTurned did before after = IsWaiting after.out

module _ {I : Type 0} (seen : I → ImageView) where
  -- its pass has its number and holds nothing, and it fits the history that the pass has seen
  pub record WorkerSits (pass : View Start) (w : Worker I) : Type 0 where
    pub start : Start
    pub root : pass.root ≡ Some start
    pub number : pass.number ≡ w.by
    pub free : pass.holds ≡ false
    pub fits : WorkerFits seen start pass.seen w

  -- its turn, and then its work outside
  pub record TurnsAndCalls (now : State) (did : Did) (before after : Worker I) : Type 0 where
    pub mid : Worker I
    pub turned : IsTurned did before mid
    pub called : GoneOutside seen mid.out after.out
    pub numbers : (after.disk ≡ before.disk) × (after.by ≡ before.by)

  module _ (start : Start) (old : View Start) (w : Worker I) (new : View Start) (x : Worker I) where
    abbrev pub WorkerStays : Did → Type 0
    WorkerStays did = IsStay start w.by back_of leaves TurnsAndCalls (place old w) (place new x) did

    abbrev pub WorkerGoes : ℕ → Went → Type 0
    WorkerGoes most went = HasGone start w.by back_of leaves TurnsAndCalls most (place old w) (place new x) went
