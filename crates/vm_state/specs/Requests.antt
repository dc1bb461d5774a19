-- Words on the block devices of a machine: their workers, their requests, and the sectors of their disks.
-- Source: FreeBSD usr.sbin/bhyve/block_if.c; OASIS virtio 1.2, section 5.2.6. Passes are this project's own.
use Rattle.std.specs.Prelude.{ℕ, ◌+◌, ◌-◌, ◌*◌, ◌/◌, Bool, false, not, ◌&&◌, ◌==◌, nat_lt, nat_le, List, [], ◌∷◌, ◌++◌, take, drop, length, if◌then◌else◌}
use Rattle.std.specs.List.{list_any, list_all, sum_by}
use Rattle.vm_law.specs.declared.block.Segment.{Segment}
use Rattle.blk_queue.specs.declared.progress.Progress.{Progress}
use Rattle.blk_queue.specs.declared.progress.Progress.TheVariants.{Pending, Blocked, Busy}
use Rattle.blk_queue.specs.declared.progress.Unfinished.{Unfinished}
use Rattle.blk_queue.specs.Progress.{is_busy, moved_of}
use Rattle.vm_state.specs.declared.drive.Drive.{Drive}
use Rattle.vm_state.specs.Machine.{MachineState, cpu_count, drive_at, is_drive}

-- ---- passes: control is 0, the runner of vCPU i is 1 + i, and then come the workers, drive after drive

abbrev pub workers_of : List Drive → ℕ
workers_of drives = sum_by (λ (x : Drive). x.workers) drives

-- the pass of the first worker of drive d
unfoldable pub first_worker : MachineState → ℕ → ℕ
first_worker m d = 1 + cpu_count m + workers_of (take d m.drives)

-- how many passes there are
unfoldable pub pass_count : MachineState → ℕ
pass_count m = 1 + cpu_count m + workers_of m.drives

-- p is a worker of drive d
unfoldable pub is_worker : MachineState → ℕ → ℕ → Bool
is_worker m p d = is_drive m d && nat_le (first_worker m d) p && nat_lt p (first_worker m d + (drive_at m d).workers)

-- ---- requests that a worker has

-- the pass p has it
abbrev pub has_worker : ℕ → Progress → Bool
has_worker p Pending = false
has_worker p Blocked = false
has_worker p (Busy w moved failed dropped) = w == p

abbrev pub is_busy_by : ℕ → Unfinished → Bool
is_busy_by p x = has_worker p x.progress

-- no drive has a request that is busy
abbrev pub none_busy : MachineState → Bool
none_busy m = list_all (λ (x : Drive). not (list_any is_busy x.queue.requests)) m.drives

-- some drive has an unfinished request
abbrev pub any_request : MachineState → Bool
any_request m = list_any (λ (x : Drive). nat_lt 0 (length x.queue.requests)) m.drives

-- ---- sectors, of 512 bytes

-- sector k of a disk
abbrev pub sector_of : List ℕ → ℕ → List ℕ
sector_of bytes k = take 512 (drop (512 * k) bytes)

-- the disk with another sector k
abbrev pub with_sector : List ℕ → ℕ → List ℕ → List ℕ
with_sector bytes k piece = take (512 * k) bytes ++ piece ++ drop (512 * k + 512) bytes

-- how many sectors a disk has
abbrev pub capacity_of : List ℕ → ℕ
capacity_of bytes = length bytes / 512

-- where in memory sector k of the segments is, which are laid end to end and are whole sectors each
abbrev pub address_in : List Segment → ℕ → ℕ
address_in [] k = 0
address_in (x ∷ xs) k = if nat_lt (512 * k) x.len then x.addr + 512 * k else address_in xs (k - x.len / 512)

-- the sector of the disk that a request comes to next, and where in memory it is
abbrev pub next_sector : Unfinished → ℕ
next_sector x = x.request.start + moved_of x.progress

abbrev pub next_address : Unfinished → ℕ
next_address x = address_in x.request.segments.items (moved_of x.progress)
