-- Marks by ascending start.
use Rattle.std.proofs.Common.{◌≡◌, ℕ, ◌+◌, ◌-◌, ◌<◌, ◌≤◌, Bool, true, false, cond, List, [], ◌∷◌, ◌++◌, length, take, drop, filter, get_or, refl, sym, ap, ◌∙◌, arith}
use Rattle.std.specs.Prelude.{◌||◌, nat_lt, nat_le, insert}
use Rattle.std.specs.List.{list_any, count_by, All}
use Rattle.std.specs.List.Sorted.{IsNonDecreasingBy, IsPartitionPoint}
use Rattle.std.proofs.lemmas.Bool.{ne_eqb, eq-eqb, ltb-true, ltb-false, leb-true, leb-false, or_from}
use Rattle.std.proofs.lemmas.List.{append-nil, take-append-drop, get_or-take, get_or-drop, length-take, length-drop, get_or_default}
use Rattle.std.proofs.lemmas.List.Elements.{filter-append, All-head, All-tail}
use Rattle.std.proofs.lemmas.List.Folds.{list_any-append, list_any_none}
use Rattle.std.proofs.lemmas.List.Sums.{sum_by-cons, sum_by-insert}
use Rattle.std.proofs.lemmas.List.Sorted.{IsNonDecreasingBy-insert}
use Rattle.blk_queue.specs.declared.starts.Mark.{Mark}
use Rattle.blk_queue.specs.Starts.{ends_at, starts_at}
use Rattle.blk_queue.proofs.Ids.{filter_none}

abbrev pub start_of : Mark → ℕ
start_of m = m.start

filter_all : {X : Type 0} (p : X → Bool) (xs : List X) → All (λ x. p x ≡ true) xs → filter p xs ≡ xs
filter_all p [] h = refl
filter_all p (x ∷ xs) h =
    ap (λ b. cond b (x ∷ filter p xs) (filter p xs)) (All-head (λ y. p y ≡ true) x xs h) ∙ ap (λ ys. x ∷ ys) (filter_all p xs (All-tail (λ y. p y ≡ true) x xs h))

parts : {X : Type 0} (p : X → Bool) (a b c : List X) → filter p a ≡ [] → filter p b ≡ b → filter p c ≡ [] → filter p (a ++ (b ++ c)) ≡ b
parts p a b c ea eb ec =
    filter-append p a (b ++ c) ∙ ap (λ ys. ys ++ filter p (b ++ c)) ea ∙ filter-append p b c ∙ ap (λ ys. ys ++ filter p c) eb ∙ ap (λ ys. b ++ ys) ec ∙ append-nil b

-- those that start at a sector stand together
pub run_is : (marks : List Mark) (sector from count : ℕ) → from ≤ length marks → count ≤ length (drop from marks)
    → IsPartitionPoint (λ (m : Mark). nat_lt m.start sector ≡ true) (λ (m : Mark). nat_lt m.start sector ≡ false) marks from
    → IsPartitionPoint (λ (m : Mark). nat_le m.start sector ≡ true) (λ (m : Mark). nat_le m.start sector ≡ false) (drop from marks) count → take count (drop from marks) ≡ filter (starts_at sector) marks
run_is marks sector from count within fits low high =
    let p : Mark → Bool = starts_at sector in
    let front = take from marks in
    let rest = drop from marks in
    let mid = take count rest in
    let tail = drop count rest in
    let shorter = length-drop from marks in
    let none_front : All (λ m. p m ≡ false) front = λ k d l.
    let short = length-take from marks in
    let at = get_or-take from marks k d (omega (arith, short)) in
    let less = ltb-true (get_or marks k d).start sector (low.0 k d (omega arith) (omega (arith, short))) in
    ap p at ∙ ne_eqb (get_or marks k d).start sector (λ e. omega (arith, less, e)) in
    let all_mid : All (λ m. p m ≡ true) mid = λ k d l.
    let short = length-take count rest in
    let at = get_or-take count rest k d (omega (arith, short)) in
    let there = ap start_of (get_or-drop from marks k d) in
    let less = leb-true (get_or rest k d).start sector (high.0 k d (omega arith) (omega (arith, short))) in
    let more = ltb-false (get_or marks (from + k) d).start sector (low.1 (from + k) d (omega arith) (omega (arith, short, shorter))) in
    ap p at ∙ eq-eqb (get_or rest k d).start sector (omega (arith, less, more, there)) in
    let none_tail : All (λ m. p m ≡ false) tail = λ k d l.
    let short = length-drop count rest in
    let at = get_or-drop count rest k d in
    let more = leb-false (get_or rest (count + k) d).start sector (high.1 (count + k) d (omega arith) (omega (arith, short))) in
    ap p at ∙ ne_eqb (get_or rest (count + k) d).start sector (λ e. omega (arith, more, e)) in
    sym (parts p front mid tail (filter_none p front (list_any_none p front none_front)) (filter_all p mid all_mid) (filter_none p tail (list_any_none p tail none_tail)))
    ∙ ap (λ ys. filter p (front ++ ys)) (take-append-drop count rest)
    ∙ ap (λ ys. filter p ys) (take-append-drop from marks)

-- none of those that start too far before a sector ends at it
pub far_front : (marks : List Mark) (sector from : ℕ) → All (λ (m : Mark). m.count ≤ 8192) marks → from ≤ length marks
    → IsPartitionPoint (λ (m : Mark). nat_lt m.start (sector - 8192) ≡ true) (λ (m : Mark). nat_lt m.start (sector - 8192) ≡ false) marks from
    → list_any (ends_at sector) (drop from marks) ≡ list_any (ends_at sector) marks
far_front marks sector from fit within low =
    let p : Mark → Bool = ends_at sector in
    let front = take from marks in
    let none : All (λ m. p m ≡ false) front = λ k d l.
    let short = length-take from marks in
    let at = get_or-take from marks k d (omega (arith, short)) in
    let less = ltb-true (get_or marks k d).start (sector - 8192) (low.0 k d (omega arith) (omega (arith, short))) in
    let few = fit k d (omega (arith, short)) in
    ap p at ∙ ne_eqb ((get_or marks k d).start + (get_or marks k d).count) sector (λ e. omega (arith, less, few, e)) in
    sym (sym (ap (λ ys. list_any p ys) (take-append-drop from marks)) ∙ list_any-append p front (drop from marks) ∙ ap (λ b. b || list_any p (drop from marks)) (list_any_none p front none))

-- from one on that starts behind a sector none ends at it
pub stops_at : (marks : List Mark) (sector i : ℕ) (d : Mark) → IsNonDecreasingBy start_of marks → list_any (ends_at sector) (take i marks) ≡ false → i < length marks → sector < (get_or marks i d).start
    → list_any (ends_at sector) marks ≡ false
stops_at marks sector i d up before within behind =
    let p : Mark → Bool = ends_at sector in
    let rest = drop i marks in
    let none : All (λ m. p m ≡ false) rest = λ k e l.
    let short = length-drop i marks in
    let at = get_or-drop i marks k e in
    let first = get_or_default marks i d e within in
    let more = up i (i + k) e (omega arith) (omega (arith, short)) in
    let here = ap start_of first in
    ap p at ∙ ne_eqb ((get_or marks (i + k) e).start + (get_or marks (i + k) e).count) sector (λ q. omega (arith, more, here, behind, q)) in
    sym (ap (λ ys. list_any p ys) (take-append-drop i marks)) ∙ list_any-append p (take i marks) rest ∙ or_from (list_any p (take i marks)) (list_any p rest) before (list_any_none p rest none)

-- a mark goes in before the first that starts at its sector or behind it
pub insert_sorted : (marks : List Mark) (i : ℕ) (m : Mark) → IsNonDecreasingBy start_of marks → i ≤ length marks → IsPartitionPoint (λ (y : Mark). nat_lt y.start m.start ≡ true) (λ (y : Mark). nat_lt y.start m.start ≡ false) marks i
    → IsNonDecreasingBy start_of (insert marks i m)
insert_sorted marks i m up within at =
    IsNonDecreasingBy-insert start_of marks i m up within
    (λ k d l. let less = ltb-true (get_or marks k d).start m.start (at.0 k d (omega arith) l) in omega (arith, less))
    (λ k d l h. ltb-false (get_or marks k d).start m.start (at.1 k d l h))

pub insert_counts : (marks : List Mark) (i : ℕ) (m : Mark) (p : Mark → Bool) → count_by p (insert marks i m) ≡ count_by p (m ∷ marks)
insert_counts marks i m p =
    let a = sum_by-insert (λ (y : Mark). cond (p y) 1 0) marks i m in
    let b = sum_by-cons (λ (y : Mark). cond (p y) 1 0) m marks in
    a ∙ omega arith ∙ sym b
