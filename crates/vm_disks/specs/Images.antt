-- A worker carries out a write or a flush at the disk's image: Hold, Put. Between the two the image is the worker's.
use Rattle.std.specs.Prelude.{ℕ, Bool, true, false, not, ◌&&◌, ◌==◌, List, slice_set, Option, Some, None, is_none, if◌then◌else◌}
use Rattle.vm_law.specs.Memory.{Memory, read_of}
use Rattle.blk_queue.specs.Progress.{is_dropped, is_flush, puts}
use Rattle.blk_queue.specs.Queue.{some_request, request_of}
use Rattle.blk_queue.specs.declared.progress.Unfinished.{Unfinished}
use Rattle.vm_state.specs.declared.image.DiskImage.{DiskImage}
use Rattle.vm_state.specs.declared.image.Holder.{Holder}
use Rattle.vm_state.specs.Machine.{MachineState, drive_at, with_drive, is_drive}
use Rattle.vm_state.specs.Requests.{is_busy_by, sector_of, with_sector, next_sector, next_address}
use Rattle.vm_state.specs.State.{State, image_at, with_image, with_machine}
use Rattle.vm_disks.specs.Moving.{moved_on}

-- ---- Hold: the image goes out; the next sector of a write goes from memory to the guest's disk

unfoldable pub may_hold : State → ℕ → ℕ → ℕ → Bool
may_hold s p d id =
    is_drive s.machine d && is_none (image_at s d).holder
    && some_request (drive_at s.machine d).queue id (λ x. is_busy_by p x && puts x && not (is_dropped x))

abbrev pub with_write : Memory → List ℕ → Option Unfinished → List ℕ
with_write ram bytes None = bytes
with_write ram bytes (Some x) =
    if is_flush x.request then bytes else with_sector bytes (next_sector x) (read_of ram (next_address x) 512)

abbrev pub written_out : MachineState → ℕ → ℕ → MachineState
written_out m d id =
    with_drive m d (record (drive_at m d) { bytes = with_write m.ram (drive_at m d).bytes (request_of (drive_at m d).queue id) })

unfoldable pub after_hold : State → ℕ → ℕ → ℕ → State
after_hold s p d id =
    with_image (with_machine s (written_out s.machine d id)) d
    (record (image_at s d) { holder = Some (record { by = p; id = id }) })

-- ---- Put: the image comes back, and what its call answered

abbrev pub is_holder : ℕ → ℕ → Option Holder → Bool
is_holder p id None = false
is_holder p id (Some h) = (h.by == p) && (h.id == id)

unfoldable pub may_put : State → ℕ → ℕ → ℕ → Bool
may_put s p d id = is_drive s.machine d && is_holder p id (image_at s d).holder

-- sector k of the disk stands on the image, or it is in doubt there
abbrev pub sector_put : DiskImage → List ℕ → ℕ → Bool → DiskImage
sector_put image bytes k true = record image { bytes = with_sector image.bytes k (sector_of bytes k); doubt = slice_set image.doubt k false }
sector_put image bytes k false = record image { doubt = slice_set image.doubt k true }

abbrev pub request_put : DiskImage → List ℕ → Option Unfinished → Bool → DiskImage
request_put image bytes None ok = image
request_put image bytes (Some x) ok = if is_flush x.request then image else sector_put image bytes (next_sector x) ok

abbrev pub come_back : DiskImage → DiskImage
come_back image = record image { holder = None }

unfoldable pub after_put : State → ℕ → ℕ → Bool → State
after_put s d id ok =
    with_image (with_machine s (moved_on s.machine d id ok)) d
    (come_back (request_put (image_at s d) (drive_at s.machine d).bytes (request_of (drive_at s.machine d).queue id) ok))
