-- The counts one after the other, and how large their sum is.
use Rattle.std.specs.List.{range_with_len}
use Rattle.std.proofs.Common.{◌≡◌, ℕ, zero, suc, ◌+◌, ◌*◌, ◌%◌, ◌<◌, ◌≤◌, ◌^◌, [], ◌∷◌, ◌++◌, map, length, sum, refl, sym, ap, ◌∙◌, add-one, arith}
use Rattle.std.proofs.lemmas.List.FromFn.{length-map-range_with_len, map-range_with_len_more}
use Rattle.std.proofs.lemmas.List.Sums.{sum_by-cons}
use Rattle.vm_making.specs.Counts.{counts, count_of, drawn, next}

pub drawn_first : (number : ℕ) → drawn number 0 ≡ number % 2147483648
unfolding drawn
drawn_first number = refl

pub drawn_more : (number i : ℕ) → drawn number (i + 1) ≡ next (drawn number i)
unfolding drawn
drawn_more number i = ap (drawn number) (add-one i)

pub counts_more : (cpus number x : ℕ) → x ≡ drawn number (cpus + 1) → counts (cpus + 1) number ≡ counts cpus number ++ (1 + x % 10000) ∷ []
counts_more cpus number x e =
    map-range_with_len_more (count_of number) 0 cpus cpus (omega arith)
    ∙ ap (λ (n : ℕ). counts cpus number ++ (1 + n % 10000) ∷ []) (ap (drawn number) (sym (add-one cpus)) ∙ sym e)

pub counts_length : (cpus number : ℕ) → length (counts cpus number) ≡ cpus
counts_length cpus number = length-map-range_with_len (count_of number) 0 cpus

small : (x n : ℕ) → n ≡ 1 + x % 10000 → n ≤ 10000
small x n e = omega (arith, e)

sum_from : (number a n : ℕ) → sum (map (count_of number) (range_with_len a n)) ≤ 10000 * n
sum_from number a zero = omega arith
sum_from number a (suc n) =
    let one : count_of number a ≤ 10000 = small (drawn number (suc a)) (count_of number a) refl in
    let more : sum (map (count_of number) (range_with_len (a + 1) n)) ≤ 10000 * n = sum_from number (a + 1) n in
    let both = sum_by-cons (λ (x : ℕ). x) (count_of number a) (map (count_of number) (range_with_len (a + 1) n)) in
    omega (arith, one, more, both)

pub sum_fits : (cpus number : ℕ) → cpus ≤ 16 → sum (counts cpus number) < 2 ^ 32
sum_fits cpus number few = let h = sum_from number 0 cpus in omega (arith, h, few)
