-- The call on an image that is out: the sector for which it is out is written, or it is synced for a flush.
use Rattle.std.specs.Prelude.{◌≡◌, ℕ, ◌+◌, ◌*◌, ◌≤◌, Bool, true, false, List, length, Option, Some, None}
use Rattle.vm_host.specs.Counts.{Rose}
use Rattle.vm_host.specs.Files.{Holds}
use Rattle.vm_host.specs.Leaves.{LeavesImage, WritesSector}
use Rattle.vm_host.specs.Told.{WhereTold}
use Rattle.vm_host.specs.Views.{ImageView}
use Rattle.vm_blkwork.specs.declared.outside.Out.{Out}

-- a write of a sector: what the image holds then where it succeeded, and that nothing else of it changes
pub record IsWritten (k : ℕ) (bytes : List ℕ) (old new : ImageView) (ok : Bool) : Type 0 where
  pub written : WhereTold old.tells (ok ≡ true → Holds old.content (512 * k) bytes new.content)
  pub leaves : WritesSector k old new

-- a sync, which is counted where it succeeded
pub record IsSynced (old new : ImageView) (ok : Bool) : Type 0 where
  pub leaves : LeavesImage old new
  pub synced : ok ≡ true → Rose old.syncs new.syncs
  pub failed : ok ≡ false → new.syncs ≡ old.syncs

abbrev pub IsMade : Option (ℕ × List ℕ) → ImageView → ImageView → Bool → Type 0
IsMade None old new ok = IsSynced old new ok
IsMade (Some x) old new ok = IsWritten x.0 x.1 old new ok

-- the sector lies on the image
abbrev pub LiesOn : Option (ℕ × List ℕ) → ImageView → Type 0
LiesOn None image = Unit {0}
LiesOn (Some x) image = WhereTold image.tells (512 * x.0 + 512 ≤ length image.content)

module _ {I : Type 0} (seen : I → ImageView) where
  abbrev pub CanCall : Out I → Type 0
  CanCall out = LiesOn out.sector (seen out.image)

  -- the call was made and answered ok: a failure is counted by the image, and nothing else is
  pub record IsAnswered (old new : Out I) (ok : Bool) : Type 0 where
    pub id : new.id ≡ old.id
    pub sector : new.sector ≡ old.sector
    pub made : IsMade old.sector (seen old.image) (seen new.image) ok
    pub failed : ok ≡ false → Rose (seen old.image).faults (seen new.image).faults
    pub quiet : ok ≡ true → (seen new.image).faults ≡ (seen old.image).faults

  abbrev pub IsCalledAs : Out I → Out I → Option Bool → Type 0
  IsCalledAs old new None = ⊥
  IsCalledAs old new (Some ok) = IsAnswered old new ok

  abbrev pub IsCalled : Out I → Out I → Type 0
  IsCalled old new = IsCalledAs old new new.answer

  -- the work outside: it makes the call where that wasn't made yet, and else nothing
  abbrev pub CalledOnce : Out I → Out I → Option Bool → Type 0
  CalledOnce old new None = IsCalled old new
  CalledOnce old new (Some ok) = new ≡ old

  abbrev pub GoneOutside : Option (Out I) → Option (Out I) → Type 0
  GoneOutside None new = new ≡ None
  GoneOutside (Some old) None = ⊥
  GoneOutside (Some old) (Some new) = CalledOnce old new old.answer

-- no call was made yet
abbrev pub IsWaiting : {I : Type 0} → Option (Out I) → Type 0
IsWaiting None = Unit {0}
IsWaiting (Some out) = out.answer ≡ None
