-- Trees of numbers, and whether two are the same.
use Rattle.std.proofs.Common.{◌≡◌, ◌∙◌, ◌==◌, ◌&&◌, ℕ, Bool, true, false, refl, ap, eqb-true, eq-eqb}

pub data Tree : Type 0 where
  leaf : Tree
  node : ℕ → Tree → Tree → Tree

abbrev pub same : Tree → Tree → Bool
same leaf leaf = true
same leaf (node n a b) = false
same (node n a b) leaf = false
same (node n a b) (node m c d) = (n == m) && (same a c && same b d)

pub and_left : (x y : Bool) → x && y ≡ true → x ≡ true
and_left true y h = refl
and_left false y h = h

pub and_right : (x y : Bool) → x && y ≡ true → y ≡ true
and_right true y h = h
and_right false y h = absurd (let no : ⊥ = cc in no)

pub same_true : (s t : Tree) → same s t ≡ true → s ≡ t
same_true leaf leaf h = refl
same_true leaf (node n a b) h = absurd (let no : ⊥ = cc in no)
same_true (node n a b) leaf h = absurd (let no : ⊥ = cc in no)
same_true (node n a b) (node m c d) h =
    let p : n ≡ m = eqb-true n m (and_left (n == m) (same a c && same b d) h) in
    let r : same a c && same b d ≡ true = and_right (n == m) (same a c && same b d) h in
    let q : a ≡ c = same_true a c (and_left (same a c) (same b d) r) in
    let s : b ≡ d = same_true b d (and_right (same a c) (same b d) r) in
    cc

pub same_refl : (s : Tree) → same s s ≡ true
same_refl leaf = refl
same_refl (node n a b) = ap (λ (t : Bool). t && (same a a && same b b)) (eq-eqb n n refl) ∙ ap (λ (t : Bool). t && same b b) (same_refl a) ∙ same_refl b
