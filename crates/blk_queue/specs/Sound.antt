-- What holds of every queue.
use Rattle.std.specs.Prelude.{◌≡◌, ℕ, ◌+◌, ◌<◌, ◌≤◌, ◌^◌, Bool, true, false, List, [], ◌∷◌, ◌++◌, length, slice_get, Option, Some, None}
use Rattle.blk_queue.specs.declared.progress.Progress.{Progress}
use Rattle.blk_queue.specs.declared.progress.Progress.TheVariants.{Pending, Blocked, Busy}
use Rattle.blk_queue.specs.declared.progress.Unfinished.{Unfinished}
use Rattle.blk_queue.specs.Progress.{IsRequest, is_blocked}
use Rattle.blk_queue.specs.Queue.{Queue, request_of, some_request, stands_behind}

-- the ids ascend strictly, from `low` on and below `next`
abbrev pub Ascend : ℕ → List Unfinished → ℕ → Type 0
Ascend low [] next = low ≤ next
Ascend low (x ∷ xs) next = (low ≤ x.id) × Ascend (x.id + 1) xs next

-- beside those before it: a blocked one stands behind one of them, and of a busy one no more units are moved than it has
abbrev pub ProgressFits : List Unfinished → Unfinished → Progress → Type 0
ProgressFits before x Pending = Unit {0}
ProgressFits before x Blocked = stands_behind before x.request ≡ true
ProgressFits before x (Busy w moved failed dropped) = moved ≤ x.request.count

-- the request is one that a queue takes, and its progress fits those before it
abbrev pub Fits : List Unfinished → Unfinished → Type 0
Fits before x = IsRequest x.request × ProgressFits before x x.progress

-- each fits, beside those before it
abbrev pub AllFit : List Unfinished → List Unfinished → Type 0
AllFit before [] = Unit {0}
AllFit before (x ∷ xs) = Fits before x × AllFit (before ++ x ∷ []) xs

-- at most 64 requests, by ascending id below the next one, and each blocked one stands behind an earlier one
pub record IsSound (q : Queue) : Type 0 where
  pub few : length q.requests ≤ 64
  pub next : q.next < 2 ^ 32
  pub ids : Ascend 0 q.requests q.next
  pub requests : AllFit [] q.requests

-- the first request is never blocked: there is none that it could stand behind
abbrev pub FirstIsFree : Type 0
FirstIsFree = (q : Queue) (x : Unfinished) (xs : List Unfinished) → IsSound q → q.requests ≡ x ∷ xs → is_blocked x ≡ false

-- whether there is a request that passes the test
abbrev pub passes : (Unfinished → Bool) → Option Unfinished → Bool
passes test None = false
passes test (Some x) = test x

-- an id names at most one request: what some request of this id passes, that one passes, and a request is the one of its id
pub record NamesOne (q : Queue) : Type 0 where
  pub test : (id : ℕ) (test : Unfinished → Bool) → some_request q id test ≡ passes test (request_of q id)
  pub place : (k : ℕ) (x : Unfinished) → slice_get q.requests k ≡ Some x → request_of q x.id ≡ Some x

abbrev pub AnIdNamesOne : Type 0
AnIdNamesOne = (q : Queue) → IsSound q → NamesOne q
