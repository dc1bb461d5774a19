-- A list of tests as the set of the places that pass.
use Rattle.std.specs.Prelude.{if◌then◌else◌}
use Rattle.std.proofs.Common.{◌≡◌, ℕ, zero, suc, ◌<◌, ◌≤◌, Bool, true, false, ◌&&◌, ◌||◌, eqb, ltb, List, [], ◌∷◌, length, get_or, set, replicate, refl, sym, ap, arith, inl, inr, ◌∙◌}
use Rattle.std.proofs.lemmas.Bool.{cases_lt, and_parts}
use mathlib.Core.Bool.{beq}
use lib.Pointwise.{pointwise}
use Rattle.std.proofs.lemmas.Bool.Decides.{nat_tests}
use Rattle.std.proofs.lemmas.List.{ext_get_or, get_or_past, get_or-replicate}
use Rattle.std.proofs.lemmas.Grind.{common_steps}
use Rattle.std.specs.Ordering.{nat_cmp}
use Rattle.std.specs.Cmp.{nat_cmp_total}
use Rattle.std.specs.FinSet.{contains, insert, remove, empty, same_set, members, nat_cmp-IsAntisymmetric, contains-empty}
use Rattle.vm_law.specs.BitSet.{Numbers, set_below, set_of}

has_if : (b : Bool) (s : Numbers) (n q : ℕ) → contains (if b then insert s n else s) q ≡ ((eqb q n && b) || contains s q)
has_if true s n q = grind (arith, members, nat_tests, common_steps)
has_if false s n q = grind (arith, members, nat_tests, common_steps)

has_below : (bits : List Bool) (n q : ℕ) → contains (set_below bits n) q ≡ (ltb q n && get_or bits q false)
has_below bits zero q = grind (arith, members, nat_tests)
has_below bits (suc n) q = has_if (get_or bits n false) (set_below bits n) n q ∙ (rw (has_below bits n q) (grind (arith, nat_tests, common_steps)))

-- v is in the set where the list has true at v
pub has_set_of : (bits : List Bool) (q : ℕ) → contains (set_of bits) q ≡ get_or bits q false
unfolding set_of
has_set_of bits q = elim (cases_lt q (length bits)) [
  | inl l ↦ has_below bits (length bits) q ∙ grind (arith, nat_tests)
  | inr l ↦ has_below bits (length bits) q ∙ (let e = get_or_past bits q false l in grind (arith, nat_tests))
]

has_with : (bits : List Bool) (v q : ℕ) (b : Bool) → v < length bits → get_or (set bits v b) q false ≡ (if eqb q v then b else get_or bits q false)
has_with bits v q b l = grind (arith, nat_tests, common_steps)

pub set_of_with : (bits : List Bool) (v : ℕ) → v < length bits → set_of (set bits v true) ≡ insert (set_of bits) v
set_of_with bits v l = same_set nat_cmp_total nat_cmp-IsAntisymmetric _ _ (λ q. has_set_of (set bits v true) q ∙ (has_with bits v q true l ∙ (let e = has_set_of bits q in grind (arith, members, nat_tests, common_steps))))

pub set_of_without : (bits : List Bool) (v : ℕ) → v < length bits → set_of (set bits v false) ≡ remove (set_of bits) v
set_of_without bits v l = same_set nat_cmp_total nat_cmp-IsAntisymmetric _ _ (λ q. has_set_of (set bits v false) q ∙ (has_with bits v q false l ∙ (let e = has_set_of bits q in grind (arith, members, nat_tests, common_steps))))

none_has : (n q : ℕ) → get_or (replicate n false) q false ≡ false
none_has n q = elim (cases_lt q n) [ inl l ↦ get_or-replicate n q false false l | inr l ↦ grind (arith, common_steps) ]

pub set_of_none : (n : ℕ) → set_of (replicate n false) ≡ empty
set_of_none n = same_set nat_cmp_total nat_cmp-IsAntisymmetric _ _ (λ q. has_set_of (replicate n false) q ∙ (none_has n q ∙ sym (contains-empty nat_cmp q)))

pub past_the_end : (bits : List Bool) (q : ℕ) → length bits ≤ q → contains (set_of bits) q ≡ false
past_the_end bits q le = has_set_of bits q ∙ get_or_past bits q false le

-- lists of one length that give the same set are the same
pub same_bits : (xs ys : List Bool) → length xs ≡ length ys → set_of xs ≡ set_of ys → xs ≡ ys
same_bits xs ys len same = ext_get_or false xs ys len (λ i _. sym (has_set_of xs i) ∙ ap (λ (s : Numbers). contains s i) same ∙ has_set_of ys i)

bools_same : (a b : Bool) → beq a b ≡ true → a ≡ b
bools_same true true h = refl
bools_same true false h = absurd cc
bools_same false true h = absurd cc
bools_same false false h = refl

bool_itself : (a : Bool) → beq a a ≡ true
bool_itself true = refl
bool_itself false = refl

-- what a test of two lists of truths tells
pub lists_same : (xs ys : List Bool) → pointwise beq xs ys ≡ true → xs ≡ ys
lists_same [] [] h = refl
lists_same [] (y ∷ ys) h = absurd cc
lists_same (x ∷ xs) [] h = absurd cc
lists_same (x ∷ xs) (y ∷ ys) h =
    let parts = and_parts (beq x y) (pointwise beq xs ys) h in
    ap (λ (b : Bool). b ∷ xs) (bools_same x y parts.0) ∙ ap (λ (bs : List Bool). y ∷ bs) (lists_same xs ys parts.1)

pub list_itself : (xs : List Bool) → pointwise beq xs xs ≡ true
list_itself [] = refl
list_itself (x ∷ xs) = rw (bool_itself x) (list_itself xs)
