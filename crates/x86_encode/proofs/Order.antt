-- The order of spellings: shorter first, and then byte by byte.
use Rattle.std.proofs.Common.{◌≡◌, ℕ, ◌<◌, true, false, List, [], ◌∷◌, length, refl, sym, ◌∙◌, arith, ◌⊎◌, inl, inr}
use Rattle.std.proofs.lemmas.Bool.{cases_order, and_parts, and_from, or_cases, or_left, or_right, lt-ltb, ltb-true, eqb-true, eq-eqb}
use Rattle.x86_encode.specs.Order.{lex_le, before}

pub lex_refl : (a : List ℕ) → lex_le a a ≡ true
lex_refl [] = refl
lex_refl (x ∷ a) = or_right _ _ (and_from _ _ (eq-eqb x x refl) (lex_refl a))

lex_total : (a b : List ℕ) → length a ≡ length b → (lex_le a b ≡ true) ⊎ (lex_le b a ≡ true)
lex_total [] b e = inl refl
lex_total (x ∷ a) [] e = absurd (omega arith)
lex_total (x ∷ a) (y ∷ b) e =
    elim (cases_order x y) [
      | inl same ↦ elim (lex_total a b (omega arith)) [
        | inl t ↦ inl (or_right _ _ (and_from _ _ (eq-eqb x y same) t))
        | inr t ↦ inr (or_right _ _ (and_from _ _ (eq-eqb y x (sym same)) t))
      ]
      | inr o ↦ elim o [
        | inl lt ↦ inl (or_left _ _ (lt-ltb x y lt))
        | inr lt ↦ inr (or_left _ _ (lt-ltb y x lt))
      ]
    ]

lex_trans : (a b c : List ℕ) → length a ≡ length b → length b ≡ length c → lex_le a b ≡ true → lex_le b c ≡ true → lex_le a c ≡ true
lex_trans [] b c e f p q = refl
lex_trans (x ∷ a) [] c e f p q = absurd (omega arith)
lex_trans (x ∷ a) (y ∷ b) [] e f p q = absurd (omega arith)
lex_trans (x ∷ a) (y ∷ b) (z ∷ c) e f p q =
    elim (or_cases _ _ p) [
      | inl l ↦ let xy : x < y = ltb-true _ _ l in elim (or_cases _ _ q) [
        | inl m ↦ let yz : y < z = ltb-true _ _ m in or_left _ _ (lt-ltb x z (omega arith))
        | inr m ↦ let k = and_parts _ _ m in let yz : y ≡ z = eqb-true _ _ k.0 in or_left _ _ (lt-ltb x z (omega arith))
      ]
      | inr l ↦ let j = and_parts _ _ l in let xy : x ≡ y = eqb-true _ _ j.0 in elim (or_cases _ _ q) [
        | inl m ↦ let yz : y < z = ltb-true _ _ m in or_left _ _ (lt-ltb x z (omega arith))
        | inr m ↦ let k = and_parts _ _ m in let yz : y ≡ z = eqb-true _ _ k.0 in or_right _ _ (and_from _ _ (eq-eqb x z (xy ∙ yz)) (lex_trans a b c (omega arith) (omega arith) j.1 k.1))
      ]
    ]

-- what a test says
before_cases : (a b : List ℕ) → before a b ≡ true → (length a < length b) ⊎ ((length a ≡ length b) × (lex_le a b ≡ true))
before_cases a b e =
    elim (or_cases _ _ e) [
      | inl l ↦ inl (ltb-true _ _ l)
      | inr r ↦ let k = and_parts _ _ r in inr (eqb-true _ _ k.0, k.1)
    ]

before_shorter : (a b : List ℕ) → length a < length b → before a b ≡ true
before_shorter a b l = or_left _ _ (lt-ltb _ _ l)

pub before_same : (a b : List ℕ) → length a ≡ length b → lex_le a b ≡ true → before a b ≡ true
before_same a b e l = or_right _ _ (and_from _ _ (eq-eqb _ _ e) l)

pub before_refl : (a : List ℕ) → before a a ≡ true
before_refl a = before_same a a refl (lex_refl a)

pub before_other : (a b : List ℕ) → before a b ≡ false → before b a ≡ true
before_other a b e =
    elim (cases_order (length a) (length b)) [
      | inl same ↦ elim (lex_total a b same) [
        | inl t ↦ absurd (let bad : true ≡ false = sym (before_same a b same t) ∙ e in cc bad)
        | inr t ↦ before_same b a (sym same) t
      ]
      | inr o ↦ elim o [
        | inl lt ↦ absurd (let bad : true ≡ false = sym (before_shorter a b lt) ∙ e in cc bad)
        | inr lt ↦ before_shorter b a lt
      ]
    ]

pub before_trans : (a b c : List ℕ) → before a b ≡ true → before b c ≡ true → before a c ≡ true
before_trans a b c p q =
    elim (before_cases a b p) [
      | inl l ↦ elim (before_cases b c q) [
        | inl m ↦ before_shorter a c (omega arith)
        | inr m ↦ before_shorter a c (omega (arith, m.0))
      ]
      | inr l ↦ elim (before_cases b c q) [
        | inl m ↦ before_shorter a c (omega (arith, l.0))
        | inr m ↦ before_same a c (l.0 ∙ m.0) (lex_trans a b c l.0 m.0 l.1 m.1)
      ]
    ]
