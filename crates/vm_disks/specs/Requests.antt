-- What a worker looks up in a drive's list of unfinished requests.
use Rattle.std.specs.Prelude.{◌≡◌, ℕ, ◌<◌, ◌==◌, Bool, false, List, length, slice_get, Option, Some, None, option_map}
use Rattle.std.specs.List.{find}
use Rattle.blk_queue.specs.Queue.{Queue}
use Rattle.blk_queue.specs.Steps as steps
use Rattle.blk_queue.specs.declared.progress.Progress.{Progress}
use Rattle.blk_queue.specs.declared.progress.Unfinished.{Unfinished}
use Rattle.vm_state.specs.Requests.{is_busy_by}

-- the place, counted from 0, of the first request that passes a test, where one does
abbrev pub IsFirst : (Unfinished → Bool) → List Unfinished → Option ℕ → Type 0
IsFirst test xs None = find test xs ≡ None
IsFirst test xs (Some k) = (k < length xs) × (find test xs ≡ slice_get xs k)

-- there is a request, and how far it is passes a test
abbrev pub is_so : (Progress → Bool) → Option Progress → Bool
is_so test None = false
is_so test (Some p) = test p

-- there is an id, this one
abbrev pub is_id : ℕ → Option ℕ → Bool
is_id id None = false
is_id id (Some n) = n == id

abbrev pub id_of : Option Unfinished → Option ℕ
id_of x = option_map (λ (y : Unfinished). y.id) x

-- the request that pass p has, if any
abbrev pub busy_of : Queue → ℕ → Option ℕ
busy_of q p = id_of (find (is_busy_by p) q.requests)

-- the one that a worker may begin, if any
abbrev pub first_pending : Queue → Option ℕ
first_pending q = id_of (steps.first_pending q)
