-- A worker carries out a read, and completes a request: Move, Finish.
-- Source: OASIS virtio 1.2, sections 2.7.14 and 5.2.6; FreeBSD usr.sbin/bhyve/block_if.c.
use Rattle.std.specs.Prelude.{ℕ, ◌+◌, Bool, true, false, not, ◌&&◌, ◌==◌, List, Option, Some, None, if◌then◌else◌}
use Rattle.vm_law.specs.Memory.{Memory, written}
use Rattle.blk_queue.specs.Progress.{moves, ends, one_more, told}
use Rattle.blk_queue.specs.Queue.{some_request, request_of}
use Rattle.blk_queue.specs.Steps.{left, with_progress}
use Rattle.blk_queue.specs.declared.progress.Finished.{Finished}
use Rattle.blk_queue.specs.declared.progress.Unfinished.{Unfinished}
use Rattle.vm_vblk.specs.Queue.{completed, counted}
use Rattle.vm_devices.specs.Windows.{with_window}
use Rattle.vm_state.specs.declared.image.Holder.{Holder}
use Rattle.vm_state.specs.declared.drive.Drive.{Drive}
use Rattle.vm_state.specs.Machine.{MachineState, drive_at, is_drive}
use Rattle.vm_state.specs.Requests.{is_busy_by, sector_of, next_sector, next_address}
use Rattle.vm_state.specs.State.{State, image_at, with_image, with_machine}
use Rattle.vm_disks.specs.Queueing.{with_queue}

-- ---- Move: the next sector of a read goes from the disk to memory

unfoldable pub may_move : State → ℕ → ℕ → ℕ → Bool
may_move s p d id =
    is_drive s.machine d && some_request (drive_at s.machine d).queue id (λ x. is_busy_by p x && moves x)

abbrev pub with_read : Memory → List ℕ → Option Unfinished → Memory
with_read ram bytes None = ram
with_read ram bytes (Some x) = written ram (next_address x) (sector_of bytes (next_sector x))

abbrev pub read_in : MachineState → ℕ → ℕ → MachineState
read_in m d id = record m { ram = with_read m.ram (drive_at m d).bytes (request_of (drive_at m d).queue id) }

-- one more of its sectors is moved
abbrev pub moved_on : MachineState → ℕ → ℕ → Bool → MachineState
moved_on m d id ok = with_queue m d (with_progress (drive_at m d).queue id (one_more ok))

unfoldable pub after_move : State → ℕ → ℕ → State
after_move s d id = with_machine s (moved_on (read_in s.machine d id) d id true)

-- ---- Finish: nothing of a request is left to do, and the image isn't out for it

abbrev pub is_held_for : ℕ → Option Holder → Bool
is_held_for id None = false
is_held_for id (Some h) = h.id == id

unfoldable pub may_finish : State → ℕ → ℕ → ℕ → Bool
may_finish s p d id =
    is_drive s.machine d && not (is_held_for id (image_at s d).holder)
    && some_request (drive_at s.machine d).queue id (λ x. is_busy_by p x && ends x)

-- the driver is told: status byte, used ring, interrupt
unfoldable pub told_driver : MachineState → ℕ → Finished → MachineState
told_driver m d x =
    let ram = completed m.ram (drive_at m d).window x.head x.status_at x.status x.len in
    with_window (record m { ram = ram }) d (record (drive_at m d) { window = counted ram (drive_at m d).window })

-- but of a request that was dropped it is told nothing
abbrev pub finished_as : MachineState → ℕ → Option Unfinished → MachineState
finished_as m d None = m
finished_as m d (Some x) = if (told x).silent then m else told_driver m d (told x)

-- it leaves the queue, and is counted
unfoldable pub after_finish : State → ℕ → ℕ → State
after_finish s d id =
    let m = with_queue s.machine d (left (drive_at s.machine d).queue id) in
    with_image (with_machine s (finished_as m d (request_of (drive_at s.machine d).queue id))) d
    (record (image_at s d) { finished = (image_at s d).finished + 1 })
