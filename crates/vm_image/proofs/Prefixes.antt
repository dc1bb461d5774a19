-- What two lists begin with in common, from a place on.
use Rattle.std.proofs.Common.{◌≡◌, ℕ, ◌≤◌, nat_eq, List, length, drop, arith}
use Rattle.std.specs.List.{common_prefix_len}
use Rattle.std.proofs.lemmas.List.Sums.{common_prefix_len-le}
use Rattle.std.proofs.lemmas.List.{length-drop}

-- nothing is in common behind the end of one of them
pub past_end : (xs ys : List ℕ) (n : ℕ) → (length xs ≤ n) → common_prefix_len nat_eq (drop n xs) (drop n ys) ≡ 0
past_end xs ys n le =
    let bound = common_prefix_len-le nat_eq (drop n xs) (drop n ys) in
    omega (arith, bound.0, length-drop n xs)

pub past_other_end : (xs ys : List ℕ) (n : ℕ) → (length ys ≤ n) → common_prefix_len nat_eq (drop n xs) (drop n ys) ≡ 0
past_other_end xs ys n le =
    let bound = common_prefix_len-le nat_eq (drop n xs) (drop n ys) in
    omega (arith, bound.1, length-drop n ys)

pub ruleset prefixes = (past_end, past_other_end)
