-- What a run still needs until Close, once it has ended.
use Rattle.std.specs.Prelude.{◌≡◌, ℕ, zero, suc, ◌+◌, ◌-◌, ◌*◌, ◌<◌, Bool, true, List, [], ◌∷◌, is_none, is_some, if◌then◌else◌}
use Rattle.vm_law.specs.declared.journal.Signed.{Signed}
use Rattle.vm_law.specs.declared.stage.Owned.{Owned}
use Rattle.vm_law.specs.declared.stage.Owned.TheVariants.{Idle, Frozen, Running, Sleeping}
use Rattle.blk_queue.specs.declared.progress.Progress.{Progress}
use Rattle.blk_queue.specs.declared.progress.Progress.TheVariants.{Pending, Blocked, Busy}
use Rattle.blk_queue.specs.declared.progress.Unfinished.{Unfinished}
use Rattle.vm_meet.specs.Meeting.{awaits}
use Rattle.vm_state.specs.Machine.{cpu_at, cpu_count, drive_at, drive_count}
use Rattle.vm_state.specs.Sound.{IsSoundState}
use Rattle.vm_state.specs.State.{State, image_at, seat_at}
use Rattle.vm_table.specs.Table.{after, lawful}

abbrev pub sum_below : (ℕ → ℕ) → ℕ → ℕ
sum_below f zero = 0
sum_below f (suc n) = sum_below f n + f n

-- a vCPU: to be frozen where it isn't, its turn where it is awaited, to be given up
abbrev pub need_of : Owned → Bool → ℕ
need_of Idle awaited = if awaited then 3 else 0
need_of (Frozen p) awaited = if awaited then 2 else 1
need_of (Running p) awaited = if awaited then 3 else 2
need_of (Sleeping p) awaited = if awaited then 3 else 2

-- and what its grant leaves, since a slice may be out
unfoldable pub cpu_need : State → ℕ → ℕ
cpu_need s i = need_of (cpu_at s.machine i).stage (awaits s.machine.meet i) + (seat_at s i).left

-- a busy request: two entries a sector, and its Finish
abbrev pub progress_need : ℕ → Progress → ℕ
progress_need count Pending = 0
progress_need count Blocked = 0
progress_need count (Busy w moved failed dropped) = 2 * (count - moved) + 1

abbrev pub request_need : Unfinished → ℕ
request_need x = progress_need x.request.count x.progress

abbrev pub requests_need : List Unfinished → ℕ
requests_need [] = 0
requests_need (x ∷ xs) = request_need x + requests_need xs

-- an image at home may be held once more
unfoldable pub disk_need : State → ℕ → ℕ
disk_need s d = requests_need (drive_at s.machine d).queue.requests + (if is_none (image_at s d).holder then 1 else 0)

unfoldable pub need : State → ℕ
need s = sum_below (cpu_need s) (cpu_count s.machine) + sum_below (disk_need s) (drive_count s.machine) + (if s.closed then 0 else 1)

-- once a run has ended each lawful entry makes it fall, so the run comes to Close
abbrev pub EachEntryBringsClose : Type 0
EachEntryBringsClose = (s : State) (x : Signed) → IsSoundState s → is_some s.ended ≡ true → lawful s x.by x.entry ≡ true → need (after s x) < need s
