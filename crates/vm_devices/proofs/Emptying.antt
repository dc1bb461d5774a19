-- How many requests a reset cancels.
use Rattle.std.proofs.Common.{◌≡◌, ℕ, ◌+◌, Bool, true, false, not, List, [], ◌∷◌, length, refl, ap, arith, ◌∙◌}
use Rattle.std.specs.Prelude.{if◌then◌else◌}
use Rattle.std.specs.List.{filter, count_by}
use Rattle.std.proofs.lemmas.List.{length-map}
use Rattle.std.proofs.lemmas.List.Sums.{length-filter, sum_by-cons}
use Rattle.blk_queue.specs.declared.progress.Unfinished.{Unfinished}
use Rattle.blk_queue.specs.Progress.{is_busy, is_waiting}
use Rattle.blk_queue.specs.Queue.{Queue}
use Rattle.blk_queue.specs.Steps.{emptied, mark_dropped}

one_of : (b : Bool) → (if not b then 1 else 0) + (if b then 1 else 0) ≡ 1
one_of true = refl
one_of false = refl

waiting_and_busy : (xs : List Unfinished) → count_by is_waiting xs + count_by is_busy xs ≡ length xs
waiting_and_busy [] = refl
waiting_and_busy (x ∷ xs) =
    let w = sum_by-cons (λ (y : Unfinished). if is_waiting y then 1 else 0) x xs in
    let b = sum_by-cons (λ (y : Unfinished). if is_busy y then 1 else 0) x xs in
    let so_far = waiting_and_busy xs in
    omega (arith, w, b, so_far, one_of (is_busy x))

pub emptied_counts : (q : Queue) → count_by is_waiting q.requests + length (emptied q).requests ≡ length q.requests
unfolding emptied
emptied_counts q =
    ap (λ (n : ℕ). count_by is_waiting q.requests + n) (length-map (filter is_busy q.requests) mark_dropped ∙ length-filter is_busy q.requests)
    ∙ waiting_and_busy q.requests
