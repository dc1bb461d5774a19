-- An instruction has one canonical spelling, which each speller gives.
use Rattle.std.proofs.Common.{◌≡◌, ◌==◌, ◌&&◌, ◌||◌, ◌≤◌, ℕ, Bool, true, false, nat_lt, List, [], ◌∷◌, ◌++◌, length, take, Option, Some, None, refl, sym, ap, ◌∙◌, ◌⊎◌, inl, inr, arith, eqb-true, ltb-true}
use Rattle.std.specs.Prelude.{MatchOption}
use Rattle.std.specs.Option.{option_map}
use Rattle.std.proofs.lemmas.List.{length-take-le}
use Rattle.vm_law.specs.declared.insn.Insn.{Insn}
use Rattle.x86_encode.specs.declared.labels.Labels.{Labels}
use Rattle.x86_encode.specs.Order.{lex_le, before}
use Rattle.x86_encode.specs.Canonical.{HasLabelled, IsCanonicalWith}
use Rattle.asm_insn.specs.Spelling.{Speller, IsSpeller}
use Rattle.asm_insn.proofs.Trees.{and_left, and_right}

or_cases : (s t : Bool) → s || t ≡ true → (s ≡ true) ⊎ (t ≡ true)
or_cases true t h = inl refl
or_cases false t h = inr h

lex_both : (a b : List ℕ) → length a ≡ length b → lex_le a b ≡ true → lex_le b a ≡ true → a ≡ b
lex_both [] [] n h k = refl
lex_both [] (y ∷ ys) n h k = absurd (omega arith)
lex_both (x ∷ xs) [] n h k = absurd (omega arith)
lex_both (x ∷ xs) (y ∷ ys) n h k =
    elim (or_cases (nat_lt x y) ((x == y) && lex_le xs ys) h) [
      | inl a ↦ elim (or_cases (nat_lt y x) ((y == x) && lex_le ys xs) k) [
        | inl b ↦ absurd (omega (arith, ltb-true x y a, ltb-true y x b))
        | inr b ↦ absurd (omega (arith, ltb-true x y a, eqb-true y x (and_left (y == x) (lex_le ys xs) b)))
      ]
      | inr a ↦ elim (or_cases (nat_lt y x) ((y == x) && lex_le ys xs) k) [
        | inl b ↦ absurd (omega (arith, ltb-true y x b, eqb-true x y (and_left (x == y) (lex_le xs ys) a)))
        | inr b ↦
            let e : x ≡ y = eqb-true x y (and_left (x == y) (lex_le xs ys) a) in
            let r : xs ≡ ys = lex_both xs ys (omega arith) (and_right (x == y) (lex_le xs ys) a) (and_right (y == x) (lex_le ys xs) b) in
            cc
      ]
    ]

pub before_both : (a b : List ℕ) → before a b ≡ true → before b a ≡ true → a ≡ b
before_both a b h k =
    elim (or_cases (nat_lt (length a) (length b)) ((length a == length b) && lex_le a b) h) [
      | inl p ↦ elim (or_cases (nat_lt (length b) (length a)) ((length b == length a) && lex_le b a) k) [
        | inl q ↦ absurd (omega (arith, ltb-true (length a) (length b) p, ltb-true (length b) (length a) q))
        | inr q ↦ absurd (omega (arith, ltb-true (length a) (length b) p, eqb-true (length b) (length a) (and_left (length b == length a) (lex_le b a) q)))
      ]
      | inr p ↦ elim (or_cases (nat_lt (length b) (length a)) ((length b == length a) && lex_le b a) k) [
        | inl q ↦ absurd (omega (arith, ltb-true (length b) (length a) q, eqb-true (length a) (length b) (and_left (length a == length b) (lex_le a b) p)))
        | inr q ↦ lex_both a b (eqb-true (length a) (length b) (and_left (length a == length b) (lex_le a b) p)) (and_right (length a == length b) (lex_le a b) p) (and_right (length b == length a) (lex_le b a) q)
      ]
    ]

pub canonical_one : (labels : Labels) (insn : Insn) (a b : List ℕ) → IsCanonicalWith labels insn a → IsCanonicalWith labels insn b → a ≡ b
canonical_one labels insn a b k l = before_both a b (k.least b l.labelled) (l.least a k.labelled)

some_is : (labels : Labels) (insn : Insn) (o : Option (List ℕ)) (b : List ℕ) → MatchOption o (HasLabelled labels insn → ⊥) (λ a. IsCanonicalWith labels insn a) → IsCanonicalWith labels insn b → o ≡ Some b
some_is labels insn None b m k = absurd (m (b, k.labelled))
some_is labels insn (Some a) b m k = ap (λ (x : List ℕ). Some x) (canonical_one labels insn a b m k)

none_is : (labels : Labels) (insn : Insn) (o : Option (List ℕ)) → MatchOption o (HasLabelled labels insn → ⊥) (λ a. IsCanonicalWith labels insn a) → (HasLabelled labels insn → ⊥) → o ≡ None
none_is labels insn None m k = refl
none_is labels insn (Some a) m k = absurd (k (a, m.labelled))

-- the canonical spelling is what a speller gives
pub spelled_some : (spell : Speller) → IsSpeller spell → (labels : Labels) (insn : Insn) (b : List ℕ) → IsCanonicalWith labels insn b → spell labels insn ≡ Some b
spelled_some spell is labels insn b k = some_is labels insn (spell labels insn) b (is labels insn) k

-- and nothing where there is none
pub spelled_none : (spell : Speller) → IsSpeller spell → (labels : Labels) (insn : Insn) → (HasLabelled labels insn → ⊥) → spell labels insn ≡ None
spelled_none spell is labels insn k = none_is labels insn (spell labels insn) (is labels insn) k

-- ---- what the encoder wrote

pub len_some : (spell : Speller) → IsSpeller spell → (labels : Labels) (insn : Insn) (n : ℕ) (into : List ℕ) → n ≤ length into → IsCanonicalWith labels insn (take n into) → Some n ≡ option_map length (spell labels insn)
len_some spell is labels insn n into le k =
    let size : length (take n into) ≡ n = length-take-le n into le in
    ap Some (sym size) ∙ sym (ap (option_map length) (spelled_some spell is labels insn (take n into) k))

pub len_none : (spell : Speller) → IsSpeller spell → (labels : Labels) (insn : Insn) → (HasLabelled labels insn → ⊥) → None ≡ option_map length (spell labels insn)
len_none spell is labels insn k = sym (ap (option_map length) (spelled_none spell is labels insn k))

pub adds_some : (spell : Speller) → IsSpeller spell → (labels : Labels) (insn : Insn) (old new : List ℕ) (n : ℕ) (into : List ℕ) → IsCanonicalWith labels insn (take n into) → new ≡ old ++ take n into
    → option_map (λ more. old ++ more) (spell labels insn) ≡ Some new
adds_some spell is labels insn old new n into k e = ap (option_map (λ more. old ++ more)) (spelled_some spell is labels insn (take n into) k) ∙ ap Some (sym e)
