-- The unfinished requests of a block device. Source: FreeBSD usr.sbin/bhyve/block_if.c, whose blockif_enqueue blocks a
-- request that starts where an unfinished one ends, and whose blockif_complete lets it go.
use Rattle.std.specs.Prelude.{◌≡◌, ℕ, Bool, true, false, ◌&&◌, ◌==◌, not, List, Option, refl}
use Rattle.std.specs.List.{list_any, find}
use Rattle.std.specs.Coded.{Coded, code_by, coded×, coded_ℕ, coded_list}
use Rattle.vm_law.specs.declared.block.Request.{Request}
use Rattle.blk_queue.specs.declared.progress.Unfinished.{Unfinished}
use Rattle.blk_queue.specs.contracts.progress.Unfinished as unfinished
use Rattle.blk_queue.specs.declared.progress.Progress.{Progress}
use Rattle.blk_queue.specs.Progress.{is_behind, is_waiting, is_busy, works}

-- the id that the next request gets, and the unfinished requests by ascending id
pub record Queue : Type 0 where
  pub next : ℕ
  pub requests : List Unfinished

abbrev pub queue_code : Coded Queue
queue_code =
    code_by (ℕ × List Unfinished) (coded× coded_ℕ (coded_list unfinished.the_row.coded)) (λ q. (q.next, q.requests)) (λ p. record { next = p.0; requests = p.1 }) (λ _. refl)

-- the unfinished request of this id
abbrev pub request_of : Queue → ℕ → Option Unfinished
request_of q id = find (λ (x : Unfinished). x.id == id) q.requests

-- there is one of this id
abbrev pub has_request : Queue → ℕ → Bool
has_request q id = list_any (λ (x : Unfinished). x.id == id) q.requests

-- the one of this id passes a test
abbrev pub some_request : Queue → ℕ → (Unfinished → Bool) → Bool
some_request q id test = list_any (λ (x : Unfinished). (x.id == id) && test x) q.requests

-- the request stands behind one of these
abbrev pub stands_behind : List Unfinished → Request → Bool
stands_behind xs r = list_any (λ (x : Unfinished). is_behind r x.request) xs

-- no unfinished request has this id, so none of it passes a test
pub record IsAbsent (q : Queue) (id : ℕ) : Type 0 where
  pub absent : has_request q id ≡ false
  pub waiting : some_request q id is_waiting ≡ false
  pub busy : some_request q id is_busy ≡ false

-- the unfinished request of this id is so far, and there is no other
pub record IsThere (q : Queue) (id : ℕ) (p : Progress) : Type 0 where
  pub there : has_request q id ≡ true
  pub waiting : some_request q id is_waiting ≡ not (works p)
  pub busy : some_request q id is_busy ≡ works p
