-- Disk images: each is at home on the board, or out with the worker that the run names.
use Rattle.std.specs.Prelude.{◌≡◌, ℕ, ◌+◌, ◌-◌, ◌^◌, ◌<◌, ◌≤◌, min, Bool, true, false, not, ◌&&◌, ◌==◌, List, [], ◌∷◌, length, slice_index_or, Option, Some, None, if◌then◌else◌}
use Rattle.std.specs.List.{list_any}
use Rattle.vm_law.specs.declared.journal.Entry.{Entry}
use Rattle.vm_law.specs.declared.journal.Entry.TheVariants.{Put}
use Rattle.vm_law.specs.declared.journal.Signed.{Signed}
use Rattle.vm_host.specs.Told.{WhereTold}
use Rattle.vm_host.specs.Views.{ImageView}
use Rattle.blk_queue.specs.Progress.{is_flush}
use Rattle.blk_queue.specs.Queue.{request_of}
use Rattle.blk_queue.specs.declared.progress.Unfinished.{Unfinished}
use Rattle.vm_state.specs.declared.image.DiskImage.{DiskImage}
use Rattle.vm_state.specs.declared.image.Holder.{Holder}
use Rattle.vm_state.specs.declared.start.Start.{Start}
use Rattle.vm_state.specs.Machine.{drive_at}
use Rattle.vm_state.specs.Requests.{sector_of, next_sector}
use Rattle.vm_state.specs.Start.{boot}
use Rattle.vm_state.specs.State.{State, image_at}
use Rattle.vm_table.specs.History.{last_state}
use Rattle.vm_table.specs.Table.{after}

-- ---- what an image reads as

-- as the run's image of the disk, but in the sectors in doubt
pub record ReadsAs (content : List ℕ) (image : DiskImage) : Type 0 where
  pub size : length content ≡ length image.bytes
  pub each : (k : ℕ) → slice_index_or image.doubt k false ≡ false → sector_of content k ≡ sector_of image.bytes k

-- ---- what the Puts of a disk said

-- the entry says that a call on the image of disk d failed
abbrev pub is_failed_put : ℕ → Entry → Bool
is_failed_put d (Put c id ok) = (c == d) && not ok
is_failed_put d e = false

abbrev pub has_failed : ℕ → List Signed → Bool
has_failed d journal = list_any (λ (x : Signed). is_failed_put d x.entry) journal

abbrev pub is_flush_of : Option Unfinished → Bool
is_flush_of None = false
is_flush_of (Some x) = is_flush x.request

-- the entry says that a flush of disk d succeeded
abbrev pub is_flushed_put : State → ℕ → Entry → Bool
is_flushed_put s d (Put c id ok) = (c == d) && ok && is_flush_of (request_of (drive_at s.machine d).queue id)
is_flushed_put s d e = false

-- how many flushes of disk d succeeded from a state on
abbrev pub flushes_from : State → ℕ → List Signed → ℕ
flushes_from s d [] = 0
flushes_from s d (x ∷ xs) = (if is_flushed_put s d x.entry then 1 else 0) + flushes_from (after s x) d xs

-- ---- at home

-- the image of disk d is as one at home is after this history: it reads, where it tells its bytes, as the run's image; it
-- has failed where a Put said so; and it was synced as often as a flush succeeded, up to the end of its count
pub record IsAtHome (start : Start) (journal : List Signed) (d : ℕ) (image : ImageView) : Type 0 where
  pub reads : WhereTold image.tells (ReadsAs image.content (image_at (last_state start journal) d))
  pub failed : has_failed d journal ≡ true → 0 < image.faults
  pub synced : min (flushes_from (boot start) d journal) (2 ^ 64 - 1) ≤ image.syncs

-- a new image, which reads as the disk
abbrev pub IsFresh : List ℕ → ImageView → Type 0
IsFresh disk image = WhereTold image.tells (image.content ≡ disk) × (image.faults ≡ 0) × (image.syncs ≡ 0)

module _ {I : Type 0} (seen : I → ImageView) where
  -- it is on the board exactly where the run names no holder
  abbrev pub IsHomeOrOut : Start → List Signed → ℕ → Option Holder → Option I → Type 0
  IsHomeOrOut start journal d None None = ⊥
  IsHomeOrOut start journal d None (Some image) = IsAtHome start journal d (seen image)
  IsHomeOrOut start journal d (Some holder) None = Unit {0}
  IsHomeOrOut start journal d (Some holder) (Some image) = ⊥

  -- one image for each disk
  pub record AreHomes (start : Start) (journal : List Signed) (images : List (Option I)) : Type 0 where
    pub count : length images ≡ length (last_state start journal).images
    pub each : (d : ℕ) → d < length images → IsHomeOrOut start journal d (image_at (last_state start journal) d).holder (slice_index_or images d None)

  -- one new image for each disk
  abbrev pub AreFresh : List (List ℕ) → List I → Type 0
  AreFresh [] [] = Unit {0}
  AreFresh [] (x ∷ xs) = ⊥
  AreFresh (disk ∷ disks) [] = ⊥
  AreFresh (disk ∷ disks) (x ∷ xs) = IsFresh disk (seen x) × AreFresh disks xs

-- ---- the sector for which an image goes out

abbrev pub held_of : List ℕ → Option Unfinished → Option (ℕ × List ℕ)
held_of bytes None = None
held_of bytes (Some x) = if is_flush x.request then None else Some (next_sector x, sector_of bytes (next_sector x))

-- its number and its bytes, which are those of the guest's disk; none for a flush
abbrev pub held_sector : State → ℕ → ℕ → Option (ℕ × List ℕ)
held_sector s d id = held_of (drive_at s.machine d).bytes (request_of (drive_at s.machine d).queue id)
