-- An id names at most one unfinished request.
use Rattle.std.proofs.Common.{◌≡◌, ℕ, ◌+◌, Bool, true, false, cond, List, [], ◌∷◌, Some, None, refl, ap, ◌∙◌, inl, inr, arith}
use Rattle.std.specs.Prelude.{◌&&◌, ◌||◌, slice_get}
use Rattle.std.specs.List.{list_any, find}
use Rattle.std.proofs.lemmas.Bool.{eqb-true}
use Rattle.std.proofs.lemmas.Option.{get_or_from_slice_get, slice_get_cases}
use Rattle.blk_queue.specs.declared.progress.Unfinished.{Unfinished}
use Rattle.blk_queue.specs.Sound.{Ascend, AnIdNamesOne, passes}
use Rattle.blk_queue.proofs.Ids.{named, none_below, none_with, or_nothing, find_at}

tests_at : (low next id : ℕ) (test : Unfinished → Bool) (x : Unfinished) (xs : List Unfinished) (b : Bool) → named id x ≡ b → Ascend low (x ∷ xs) next
    → list_any (λ y. named id y && test y) xs ≡ passes test (find (named id) xs)
    → ((b && test x) || list_any (λ y. named id y && test y) xs) ≡ passes test (cond b (Some x) (find (named id) xs))
tests_at low next id test x xs true e h rest =
    let same = eqb-true x.id id e in
    ap (λ b. test x || b) (none_with id test xs (none_below (x.id + 1) next id xs (omega (arith, same)) h.1)) ∙ or_nothing (test x)
tests_at low next id test x xs false e h rest = rest

tests_one : (low next id : ℕ) (test : Unfinished → Bool) (xs : List Unfinished) → Ascend low xs next → list_any (λ x. named id x && test x) xs ≡ passes test (find (named id) xs)
tests_one low next id test [] h = refl
tests_one low next id test (x ∷ xs) h = tests_at low next id test x xs (named id x) refl h (tests_one (x.id + 1) next id test xs h.1)

pub place_one : (low next : ℕ) (xs : List Unfinished) (k : ℕ) (x : Unfinished) → Ascend low xs next → slice_get xs k ≡ Some x → find (named x.id) xs ≡ Some x
place_one low next xs k x h e =
    let same = get_or_from_slice_get xs k x x e in
    elim (slice_get_cases xs k).1 [
      | inl found ↦ find_at low next x.id xs k x h found.1 (ap (λ (y : Unfinished). y.id) same) ∙ ap (λ (y : Unfinished). Some y) same
      | inr past ↦ let none : slice_get xs k ≡ None = past.1 in cc
    ]

pub names_one : AnIdNamesOne
names_one q h = record {
  test = λ id test. tests_one 0 q.next id test q.requests h.ids;
  place = λ k x e. place_one 0 q.next q.requests k x h.ids e;
}
