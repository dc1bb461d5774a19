-- The index that a queue keeps beside its list: a mark for each request that has a start, by ascending start.
use Rattle.std.specs.Prelude.{◌≡◌, ℕ, ◌+◌, Bool, not, ◌&&◌, ◌==◌, List, if◌then◌else◌}
use Rattle.std.specs.List.{count_by, list_any}
use Rattle.blk_queue.specs.declared.progress.Progress.{Progress}
use Rattle.blk_queue.specs.declared.progress.Progress.TheVariants.{Pending, Blocked, Busy}
use Rattle.blk_queue.specs.declared.progress.Unfinished.{Unfinished}
use Rattle.blk_queue.specs.declared.starts.Mark.{Mark}
use Rattle.blk_queue.specs.Progress.{is_flush}
use Rattle.blk_queue.specs.Sound.{Ascend}

-- a flush has no start
abbrev pub has_start : Unfinished → Bool
has_start x = not (is_flush x.request)

abbrev pub mark_of : Unfinished → Mark
mark_of x = record { start = x.request.start; count = x.request.count; id = x.id }

-- the marks are those of the requests that have a start: each test passes as many of both
abbrev pub Indexes : List Unfinished → List Mark → Type 0
Indexes xs marks = (p : Mark → Bool) → count_by p marks ≡ count_by (λ x. has_start x && p (mark_of x)) xs

abbrev pub ends_at : ℕ → Mark → Bool
ends_at sector m = m.start + m.count == sector

abbrev pub starts_at : ℕ → Mark → Bool
starts_at sector m = m.start == sector

-- it waits for no other request any more
abbrev pub unblocked : Progress → Progress
unblocked Pending = Pending
unblocked Blocked = Pending
unblocked (Busy w moved failed dropped) = Busy w moved failed dropped

-- one of the marks is its own, so it waits no more
abbrev pub woken : List Mark → Unfinished → Unfinished
woken marks x = if list_any (λ (m : Mark). x.id == m.id) marks then record x { progress = unblocked x.progress } else x

-- the ids ascend
abbrev pub AreAscending : List Unfinished → Type 0
AreAscending xs = (next : ℕ) × Ascend 0 xs next
