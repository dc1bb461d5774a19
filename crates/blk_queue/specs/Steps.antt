-- What each call does to the queue. Source: FreeBSD usr.sbin/bhyve/block_if.c: blockif_enqueue, blockif_dequeue,
-- blockif_complete, blockif_cancel.
use Rattle.std.specs.Prelude.{ℕ, ◌+◌, Bool, not, ◌&&◌, ◌==◌, List, [], ◌∷◌, ◌++◌, map, filter, Option, Some, None, if◌then◌else◌}
use Rattle.std.specs.List.{find}
use Rattle.vm_law.specs.declared.block.Request.{Request}
use Rattle.blk_queue.specs.declared.progress.Progress.{Progress}
use Rattle.blk_queue.specs.declared.progress.Progress.TheVariants.{Pending, Blocked}
use Rattle.blk_queue.specs.declared.progress.Unfinished.{Unfinished}
use Rattle.blk_queue.specs.Progress.{is_pending, is_blocked, is_busy, is_waiting, begun_by, dropped, moves, puts, ends}
use Rattle.blk_queue.specs.Queue.{Queue, some_request, stands_behind}

-- a queue in which every request is finished
abbrev pub empty : ℕ → Queue
empty next = record { next = next; requests = [] }

-- a request stands last from now on
abbrev pub added : Queue → ℕ → Request → Progress → Queue
added q id r p = record q { requests = q.requests ++ record { id = id; request = r; progress = p } ∷ [] }

-- a request joins under the next id: it is blocked where it starts at the end of another
unfoldable pub joined : Queue → Request → Queue
joined q r = record (added q q.next r (if stands_behind q.requests r then Blocked else Pending)) { next = q.next + 1 }

-- a saved request stands again where it stood
unfoldable pub restored : Queue → ℕ → Bool → Request → Queue
restored q id is_blocked_one r = added q id r (if is_blocked_one then Blocked else Pending)

-- the request of this id, with another progress
abbrev pub change_one : ℕ → (Progress → Progress) → Unfinished → Unfinished
change_one id change x = if x.id == id then record x { progress = change x.progress } else x

unfoldable pub changed : List Unfinished → ℕ → (Progress → Progress) → List Unfinished
changed xs id change = map (change_one id change) xs

abbrev pub with_progress : Queue → ℕ → (Progress → Progress) → Queue
with_progress q id change = record q { requests = changed q.requests id change }

-- the first that waits for a worker and is not blocked
abbrev pub first_pending : Queue → Option Unfinished
first_pending q = find is_pending q.requests

abbrev pub begun_at : Queue → ℕ → Option Unfinished → Queue
begun_at q worker None = q
begun_at q worker (Some x) = with_progress q x.id (begun_by worker)

-- a worker takes the first that is pending
unfoldable pub begun : Queue → ℕ → Queue
begun q worker = begun_at q worker (first_pending q)

-- a blocked one is pending from now on where it starts at the end of one that leaves
unfoldable pub freed : List Unfinished → Unfinished → Unfinished
freed leaving x = if is_blocked x && stands_behind leaving x.request then record x { progress = Pending } else x

-- some requests leave
unfoldable pub without : (Unfinished → Bool) → List Unfinished → List Unfinished
without leaves xs = map (freed (filter leaves xs)) (filter (λ x. not (leaves x)) xs)

-- the request of this id leaves
unfoldable pub left : Queue → ℕ → Queue
left q id = record q { requests = without (λ x. x.id == id) q.requests }

-- it leaves where no worker has it
unfoldable pub cancelled : Queue → ℕ → Queue
cancelled q id = if some_request q id is_waiting then left q id else q

abbrev pub mark_dropped : Unfinished → Unfinished
mark_dropped x = record x { progress = dropped x.progress }

-- those that no worker has leave, and the others are dropped
unfoldable pub emptied : Queue → Queue
emptied q = record q { requests = map mark_dropped (filter is_busy q.requests) }

-- ---- when a worker may go on with the request of this id

-- it is a read of which a sector is left to move, and it isn't dropped
abbrev pub can_move : Queue → ℕ → Bool
can_move q id = some_request q id moves

-- it is a write or a flush of which a unit is left, and none failed
abbrev pub can_put : Queue → ℕ → Bool
can_put q id = some_request q id puts

-- nothing of it is left to do
abbrev pub can_finish : Queue → ℕ → Bool
can_finish q id = some_request q id ends
