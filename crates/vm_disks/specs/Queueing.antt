-- A worker takes a chain off a drive's ring, and begins a request: Pull, Begin.
-- Source: OASIS virtio 1.2, sections 2.7.13 and 5.2.6; FreeBSD usr.sbin/bhyve/block_if.c.
use Rattle.std.specs.Prelude.{ℕ, ◌-◌, ◌^◌, Bool, true, false, not, ◌&&◌, ◌==◌, nat_lt, length, Option, Some, None, is_none, if◌then◌else◌}
use Rattle.std.specs.List.{list_any}
use Rattle.vm_law.specs.Memory.{Memory}
use Rattle.blk_queue.specs.Queue.{Queue}
use Rattle.blk_queue.specs.Steps.{joined, begun, first_pending}
use Rattle.blk_queue.specs.declared.progress.Unfinished.{Unfinished}
use Rattle.vm_vblk.specs.Queue.{Pull, pull_of}
use Rattle.vm_vblk.specs.Window as window
use Rattle.vm_vblk.specs.declared.pulled.Pulled.{Pulled}
use Rattle.vm_vblk.specs.declared.pulled.Pulled.TheVariants as pulled
use Rattle.vm_devices.specs.Windows.{with_window}
use Rattle.vm_state.specs.declared.drive.Drive.{Drive}
use Rattle.vm_state.specs.Machine.{MachineState, drive_at, with_drive}
use Rattle.vm_state.specs.Requests.{is_worker, is_busy_by}
use Rattle.vm_state.specs.State.{State, with_machine}

-- ---- Pull

-- a chain waits that a worker may take
unfoldable pub can_pull : Memory → Drive → Bool
can_pull ram drive =
    drive.window.notified && window.waits ram drive.window
    && nat_lt (length drive.queue.requests) 64 && nat_lt drive.queue.next (2 ^ 32 - 1)

unfoldable pub may_pull : State → ℕ → ℕ → Bool
may_pull s p d =
    is_worker s.machine p d && can_pull s.machine.ram (drive_at s.machine d) && not s.machine.pause && is_none s.ended

-- what was accepted joins the queue
abbrev pub queue_with : Queue → Pulled → Queue
queue_with q (pulled.Request r) = joined q r
queue_with q pulled.Answered = q
queue_with q pulled.Broken = q

abbrev pub with_pulled : Drive → Pull → Drive
with_pulled drive x = record drive { window = x.window; queue = queue_with drive.queue x.answer }

unfoldable pub pulled_in : MachineState → ℕ → Pull → MachineState
pulled_in m d x = with_window (record m { ram = x.memory }) d (with_pulled (drive_at m d) x)

unfoldable pub after_pull : State → ℕ → State
after_pull s d = with_machine s (pulled_in s.machine d (pull_of s.machine.ram (drive_at s.machine d).window))

-- ---- Begin

-- it is the request of this id
abbrev pub has_id : ℕ → Option Unfinished → Bool
has_id id None = false
has_id id (Some x) = x.id == id

-- a worker that has no request takes the first that is pending
unfoldable pub may_begin : State → ℕ → ℕ → ℕ → Bool
may_begin s p d id =
    is_worker s.machine p d && not (list_any (is_busy_by p) (drive_at s.machine d).queue.requests)
    && has_id id (first_pending (drive_at s.machine d).queue) && not s.machine.pause && is_none s.ended

abbrev pub with_queue : MachineState → ℕ → Queue → MachineState
with_queue m d q = with_drive m d (record (drive_at m d) { queue = q })

unfoldable pub after_begin : State → ℕ → ℕ → State
after_begin s p d = with_machine s (with_queue s.machine d (begun (drive_at s.machine d).queue p))
