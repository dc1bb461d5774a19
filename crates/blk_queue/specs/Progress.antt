-- An unfinished request and how far it is. Source: FreeBSD usr.sbin/bhyve/block_if.c, whose elements are BST_PEND,
-- BST_BLOCK or BST_BUSY; kinds and counts are those of OASIS virtio 1.2, section 5.2.6.
use Rattle.std.specs.Prelude.{◌≡◌, ℕ, ◌+◌, ◌*◌, ◌≤◌, Bool, true, false, not, ◌&&◌, ◌||◌, ◌==◌, nat_lt, if◌then◌else◌}
use Rattle.std.specs.List.{sum_by}
use Rattle.vm_law.specs.declared.block.Kind.{Kind}
use Rattle.vm_law.specs.declared.block.Kind.TheVariants.{Read, Write, Flush}
use Rattle.vm_law.specs.declared.block.Request.{Request}
use Rattle.vm_law.specs.declared.block.Segment.{Segment}
use Rattle.blk_queue.specs.declared.progress.Progress.{Progress}
use Rattle.blk_queue.specs.declared.progress.Progress.TheVariants.{Pending, Blocked, Busy}
use Rattle.blk_queue.specs.declared.progress.Unfinished.{Unfinished}
use Rattle.blk_queue.specs.declared.progress.Finished.{Finished}

-- ---- the request

abbrev pub is_flush_kind : Kind → Bool
is_flush_kind Read = false
is_flush_kind Write = false
is_flush_kind Flush = true

abbrev pub is_read_kind : Kind → Bool
is_read_kind Read = true
is_read_kind Write = false
is_read_kind Flush = false

abbrev pub is_flush : Request → Bool
is_flush r = is_flush_kind r.kind

abbrev pub is_read : Request → Bool
is_read r = is_read_kind r.kind

-- r starts where q ends; a flush has neither start nor end
abbrev pub is_behind : Request → Request → Bool
is_behind r q = not (is_flush r) && not (is_flush q) && (q.start + q.count == r.start)

-- how many bytes its segments have
abbrev pub segment_bytes : Request → ℕ
segment_bytes r = sum_by (λ (s : Segment). s.len) r.segments.items

-- a flush is one unit; the segments of another request hold its sectors of 512 bytes
abbrev pub HasItsData : Kind → Request → Type 0
HasItsData Read r = segment_bytes r ≡ 512 * r.count
HasItsData Write r = segment_bytes r ≡ 512 * r.count
HasItsData Flush r = r.count ≡ 1

-- a request that a queue takes: at most 8,192 sectors, and the segments for them
pub record IsRequest (r : Request) : Type 0 where
  pub sectors : r.count ≤ 8192
  pub bytes : HasItsData r.kind r

-- ---- how far it is

abbrev pub moved_of : Progress → ℕ
moved_of Pending = 0
moved_of Blocked = 0
moved_of (Busy w moved failed dropped) = moved

abbrev pub pends : Progress → Bool
pends Pending = true
pends Blocked = false
pends (Busy w moved failed dropped) = false

abbrev pub blocks : Progress → Bool
blocks Pending = false
blocks Blocked = true
blocks (Busy w moved failed dropped) = false

abbrev pub works : Progress → Bool
works Pending = false
works Blocked = false
works (Busy w moved failed dropped) = true

abbrev pub failed_of : Progress → Bool
failed_of Pending = false
failed_of Blocked = false
failed_of (Busy w moved failed dropped) = failed

abbrev pub dropped_of : Progress → Bool
dropped_of Pending = false
dropped_of Blocked = false
dropped_of (Busy w moved failed dropped) = dropped

abbrev pub is_pending : Unfinished → Bool
is_pending x = pends x.progress

abbrev pub is_blocked : Unfinished → Bool
is_blocked x = blocks x.progress

abbrev pub is_busy : Unfinished → Bool
is_busy x = works x.progress

-- no worker has it
abbrev pub is_waiting : Unfinished → Bool
is_waiting x = not (is_busy x)

abbrev pub has_failed : Unfinished → Bool
has_failed x = failed_of x.progress

abbrev pub is_dropped : Unfinished → Bool
is_dropped x = dropped_of x.progress

-- a worker takes it: nothing is moved yet
abbrev pub begun_by : ℕ → Progress → Progress
begun_by worker p = Busy worker 0 false false

-- one unit more was moved, or failed
abbrev pub one_more : Bool → Progress → Progress
one_more ok Pending = Pending
one_more ok Blocked = Blocked
one_more ok (Busy w moved failed dropped) = Busy w (moved + 1) (failed || not ok) dropped

-- its device was reset: what it does is told to nobody
abbrev pub dropped : Progress → Progress
dropped Pending = Pending
dropped Blocked = Blocked
dropped (Busy w moved failed gone) = Busy w moved failed true

-- a worker has it, and units of it are left to move
abbrev pub has_more : ℕ → Progress → Bool
has_more count Pending = false
has_more count Blocked = false
has_more count (Busy w moved failed gone) = nat_lt moved count

-- a worker has it and has no more to do: all units are moved, one failed, or it is dropped
abbrev pub is_over : ℕ → Progress → Bool
is_over count Pending = false
is_over count Blocked = false
is_over count (Busy w moved failed gone) = (moved == count) || failed || gone

-- a worker moves a sector of this read
abbrev pub moves : Unfinished → Bool
moves x = is_read x.request && has_more x.request.count x.progress && not (is_dropped x)

-- a worker puts a sector of this write on the disk, or does this flush
abbrev pub puts : Unfinished → Bool
puts x = not (is_read x.request) && has_more x.request.count x.progress && not (has_failed x)

-- nothing of it is left to do
abbrev pub ends : Unfinished → Bool
ends x = is_over x.request.count x.progress

-- the used length that the driver is told: the status byte, and the data of a read that did not fail
abbrev pub used_length : Unfinished → ℕ
used_length x = if is_read x.request && not (has_failed x) then 1 + 512 * x.request.count else 1

-- what is told of it when it leaves
abbrev pub told : Unfinished → Finished
told x = record {
  status = if has_failed x then 1 else 0;
  head = x.request.head;
  status_at = x.request.status_at;
  len = used_length x;
  silent = is_dropped x;
}
