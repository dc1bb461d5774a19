-- Versions that never go back are equal where their sums are.
use Rattle.std.specs.List.{sum, sum_by}
use Rattle.std.specs.Prelude.{slice_index}
use Rattle.std.proofs.Common.{◌≡◌, ℕ, zero, suc, ◌+◌, ◌*◌, ◌/◌, ◌-◌, ◌%◌, ◌^◌, ◌≤◌, ◌<◌, List, [], ◌∷◌, length, refl, sym, ap, ◌∙◌, arith}
use Rattle.std.proofs.lemmas.List.Sums.{sum_by-cons}
use Rattle.vm_state.specs.Sound.{IsSoundState}
use Rattle.vm_state.specs.State.{State, page_count}

sum_cons : (x : ℕ) (xs : List ℕ) → sum (x ∷ xs) ≡ x + sum xs
sum_cons x xs = sum_by-cons (λ n. n) x xs

-- each is at most so much
sum_most : (xs : List ℕ) → ((k : ℕ) → slice_index xs k ≤ 20000000) → sum xs ≤ 20000000 * length xs
sum_most [] most = omega arith
sum_most (x ∷ xs) most =
    let rest = sum_most xs (λ k. most (suc k)) in
    let first = most 0 in
    let e = sum_cons x xs in
    omega (arith, rest, first, e)

sum_less : (xs ys : List ℕ) → length xs ≡ length ys → ((k : ℕ) → slice_index xs k ≤ slice_index ys k) → sum xs ≤ sum ys
sum_less [] [] long less = omega arith
sum_less [] (y ∷ ys) long less = absurd (omega (arith, long))
sum_less (x ∷ xs) [] long less = absurd (omega (arith, long))
sum_less (x ∷ xs) (y ∷ ys) long less =
    let rest = sum_less xs ys (omega (arith, long)) (λ k. less (suc k)) in
    let first = less 0 in
    let e = sum_cons x xs in
    let f = sum_cons y ys in
    omega (arith, rest, first, e, f)

pub equal_by_sums : (xs ys : List ℕ) → length xs ≡ length ys → ((k : ℕ) → slice_index xs k ≤ slice_index ys k) → sum xs ≡ sum ys → (k : ℕ) → slice_index ys k ≡ slice_index xs k
equal_by_sums [] [] long less same k = refl
equal_by_sums [] (y ∷ ys) long less same k = absurd (omega (arith, long))
equal_by_sums (x ∷ xs) [] long less same k = absurd (omega (arith, long))
equal_by_sums (x ∷ xs) (y ∷ ys) long less same zero =
    let rest = sum_less xs ys (omega (arith, long)) (λ k. less (suc k)) in
    let first = less 0 in
    let e = sum_cons x xs in
    let f = sum_cons y ys in
    omega (arith, rest, first, e, f, same)
equal_by_sums (x ∷ xs) (y ∷ ys) long less same (suc k) =
    let rest = sum_less xs ys (omega (arith, long)) (λ k. less (suc k)) in
    let first = less 0 in
    let e = sum_cons x xs in
    let f = sum_cons y ys in
    equal_by_sums xs ys (omega (arith, long)) (λ k. less (suc k)) (omega (arith, rest, first, e, f, same)) k

-- those of a run, and earlier ones, of a code part of at most 16 MiB
pub equal_by_totals : (s : State) (earlier : List ℕ) (code : ℕ) → IsSoundState s → length earlier ≡ length s.versions → length earlier ≡ page_count code → code ≤ 16777216
    → ((k : ℕ) → slice_index earlier k ≤ slice_index s.versions k) → sum s.versions % 2 ^ 64 ≡ sum earlier % 2 ^ 64 → (k : ℕ) → slice_index s.versions k ≡ slice_index earlier k
equal_by_totals s earlier code h long pages short less same =
    let granted = h.counts.granted in
    let limit = h.counts.limit in
    let most = sum_most s.versions (λ k. let v = h.counts.versions k in omega (arith, v, granted, limit)) in
    let few = sum_less earlier s.versions long less in
    let count : length s.versions ≤ 4096 = omega (arith, long, pages, short) in
    equal_by_sums earlier s.versions long less (omega (arith, most, few, count, same))
