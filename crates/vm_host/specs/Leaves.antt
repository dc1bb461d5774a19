-- What calls leave alone: of a host, of a disk image, of a sink.
use Rattle.std.specs.Prelude.{◌≡◌, ℕ, ◌*◌, List, ◌++◌, take}
use Rattle.vm_host.specs.Told.{WhereTold}
use Rattle.vm_host.specs.Files.{LeavesOthers, SameOutside}
use Rattle.vm_host.specs.Crash.{Passes, AddsNothing}
use Rattle.vm_host.specs.Views.{HostView, ImageView, SinkView}

-- A call that only reads: each file stays as it is, and a crash leaves nothing that it couldn't leave before.
pub record ReadsHost (old new : HostView) : Type 0 where
  pub told : new.tells ≡ old.tells
  pub files : WhereTold old.tells (new.file ≡ old.file)
  pub made : WhereTold old.tells (new.made ≡ old.made)
  pub crash : WhereTold old.tells (AddsNothing old.moment new.moment old.left new.left)
  pub image_faults : new.image_faults ≡ old.image_faults

-- A call that may write the files of these names: every other file stays as it is, and a crash leaves of it nothing that
-- it couldn't leave before.
pub record LeavesHost (Named : List ℕ → Type 0) (old new : HostView) : Type 0 where
  pub told : new.tells ≡ old.tells
  pub files : WhereTold old.tells (LeavesOthers Named old.file new.file)
  pub made : WhereTold old.tells (LeavesOthers Named old.made new.made)
  pub time : WhereTold old.tells (Passes Named old.moment new.moment old.left new.left)

-- The same of a call to which no image comes back.
pub record WritesFiles (Named : List ℕ → Type 0) (old new : HostView) : Type 0 where
  pub told : new.tells ≡ old.tells
  pub files : WhereTold old.tells (LeavesOthers Named old.file new.file)
  pub made : WhereTold old.tells (LeavesOthers Named old.made new.made)
  pub time : WhereTold old.tells (Passes Named old.moment new.moment old.left new.left)
  pub image_faults : new.image_faults ≡ old.image_faults

-- A call that may write one file.
abbrev pub WritesFile : List ℕ → HostView → HostView → Type 0
WritesFile name old new = WritesFiles (λ q. q ≡ name) old new

-- A call that writes one sector of an image at most.
pub record WritesSector (sector : ℕ) (old new : ImageView) : Type 0 where
  pub told : new.tells ≡ old.tells
  pub others : WhereTold old.tells (SameOutside (512 * sector) 512 old.content new.content)
  pub syncs : new.syncs ≡ old.syncs

-- A call that writes no byte of an image.
pub record LeavesImage (old new : ImageView) : Type 0 where
  pub told : new.tells ≡ old.tells
  pub content : WhereTold old.tells (new.content ≡ old.content)

-- A call that takes nothing.
pub record LeavesSink (old new : SinkView) : Type 0 where
  pub told : new.tells ≡ old.tells
  pub taken : WhereTold old.tells (new.taken ≡ old.taken)

-- A call that takes these bytes, and nothing else.
pub record Takes (sent : List ℕ) (old new : SinkView) : Type 0 where
  pub told : new.tells ≡ old.tells
  pub taken : WhereTold old.tells (new.taken ≡ old.taken ++ sent)

-- A call that takes a first part of these bytes, and nothing else.
pub record TakesSome (sent : List ℕ) (old new : SinkView) : Type 0 where
  pub told : new.tells ≡ old.tells
  pub taken : WhereTold old.tells ((k : ℕ) × (new.taken ≡ old.taken ++ take k sent))
