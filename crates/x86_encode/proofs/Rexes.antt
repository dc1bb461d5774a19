-- The REX byte and the prefixes of a plain spelling.
use Rattle.std.proofs.Common.{◌≡◌, ℕ, ◌+◌, ◌*◌, ◌/◌, ◌%◌, ◌<◌, ◌≤◌, Bool, true, false, cond, List, [], ◌∷◌, length, Option, Some, None, refl, sym, ap, subst, ◌∙◌, arith, inl, inr}
use Rattle.std.specs.Prelude.{◌||◌}
use Rattle.std.proofs.lemmas.Bool.{cases_Bool, and_parts, leb-true, ltb-true, eqb-true, or_from, false_from_ne_true}
use Rattle.x86_grammar.specs.declared.head.Rex.{Rex}
use Rattle.x86_grammar.specs.Rows.{no_prefix, add_prefix, is_rex, rex_of}
use Rattle.x86_grammar.specs.Fields.{rex_w}
use Rattle.x86_encode.proofs.Total.{eight, rex_r, rex_x, rex_base}
use Rattle.x86_grammar.specs.Grammar.{IsRex, ArePrefixes}
use Rattle.x86_encode.specs.Order.{lex_le}
use Rattle.x86_encode.specs.Inside.Plain.{rex_for, rex_bytes, weight, prefix_bytes}
use Rattle.x86_encode.proofs.Places.{lex_one}

abbrev pub rex_bits : Bool → Bool → Bool → Bool → Rex
rex_bits w r x b = record { w = w; r = r; x = x; b = b }

abbrev pub any_of : Bool → Bool → Bool → Bool → Bool → Bool
any_of must w r x b = must || (w || (r || (x || b)))

abbrev pub byte_for : Bool → Bool → Bool → Bool → ℕ
byte_for w r x b = 64 + weight w 8 + weight r 4 + weight x 2 + weight b 1

byte_is : (w r x b : Bool) → (is_rex (byte_for w r x b) ≡ true) × (rex_of (byte_for w r x b) ≡ rex_bits w r x b)
unfolding rex_of
byte_is true true true true = (refl, refl)
byte_is true true true false = (refl, refl)
byte_is true true false true = (refl, refl)
byte_is true true false false = (refl, refl)
byte_is true false true true = (refl, refl)
byte_is true false true false = (refl, refl)
byte_is true false false true = (refl, refl)
byte_is true false false false = (refl, refl)
byte_is false true true true = (refl, refl)
byte_is false true true false = (refl, refl)
byte_is false true false true = (refl, refl)
byte_is false true false false = (refl, refl)
byte_is false false true true = (refl, refl)
byte_is false false true false = (refl, refl)
byte_is false false false true = (refl, refl)
byte_is false false false false = (refl, refl)

-- the REX byte that is written is read back
pub is_rex_for : (rex : Option Rex) → IsRex rex (rex_bytes rex)
unfolding rex_bytes
is_rex_for None = refl
is_rex_for (Some r) = let k = byte_is r.w r.r r.x r.b in (byte_for r.w r.r r.x r.b, refl, k.0, k.1)

pub record Bits (must w r x b : Bool) (rex : Option Rex) : Type 0 where
  pub has_must : must ≡ true → rex ≡ None → ⊥
  pub has_w : w ≡ true → rex_w rex ≡ true
  pub has_r : r ≡ true → 8 ≤ rex_r rex
  pub has_x : x ≡ true → 8 ≤ rex_x rex
  pub has_b : b ≡ true → 8 ≤ rex_base rex

pub none_for : (must w r x b : Bool) (rex : Option Rex) → Bits must w r x b rex → rex ≡ None → any_of must w r x b ≡ false
none_for must w r x b rex k e =
    let f1 : must ≡ false = false_from_ne_true must (λ t. k.has_must t e) in
    let f2 : w ≡ false = false_from_ne_true w (λ t. absurd (let bad : true ≡ false = sym (k.has_w t) ∙ ap rex_w e in cc bad)) in
    let f3 : r ≡ false = false_from_ne_true r (λ t. absurd (let le : 8 ≤ 0 = subst (λ (q : Option Rex). 8 ≤ rex_r q) e (k.has_r t) in omega arith)) in
    let f4 : x ≡ false = false_from_ne_true x (λ t. absurd (let le : 8 ≤ 0 = subst (λ (q : Option Rex). 8 ≤ rex_x q) e (k.has_x t) in omega arith)) in
    let f5 : b ≡ false = false_from_ne_true b (λ t. absurd (let le : 8 ≤ 0 = subst (λ (q : Option Rex). 8 ≤ rex_base q) e (k.has_b t) in omega arith)) in
    or_from _ _ f1 (or_from _ _ f2 (or_from _ _ f3 (or_from _ _ f4 f5)))

eight_true : (t : Bool) → 8 ≤ eight t → t ≡ true
eight_true true l = refl
eight_true false l = absurd (omega arith)

weight_le : (t : Bool) (n k : ℕ) → (t ≡ true → k ≡ 1) → weight t n ≤ n * k
weight_le true n k f = subst (λ (z : ℕ). n ≤ n * z) (sym (f refl)) (omega arith)
weight_le false n k f = omega arith

-- no REX byte that has the needed bits is below the plain one
pub rex_below : (must w r x b : Bool) (rex : Option Rex) (l : List ℕ) → Bits must w r x b rex → IsRex rex l → (length (rex_bytes (rex_for must w r x b)) ≤ length l) × (length (rex_bytes (rex_for must w r x b)) ≡ length l → lex_le (rex_bytes (rex_for must w r x b)) l ≡ true)
unfolding rex_bytes rex_of
rex_below must w r x b None l k i =
    let f = none_for must w r x b None k refl in
    let e : rex_bytes (rex_for must w r x b) ≡ [] = ap (λ (q : Bool). rex_bytes (cond q (Some (rex_bits w r x b)) None)) f in
    (omega (arith, ap length e), λ q. ap (λ (t : List ℕ). lex_le t l) e)
rex_below must w r x b (Some rx) l k i =
    elim (cases_Bool (any_of must w r x b)) [
      | inr f ↦
          let e : rex_bytes (rex_for must w r x b) ≡ [] = ap (λ (q : Bool). rex_bytes (cond q (Some (rex_bits w r x b)) None)) f in
          (omega (arith, ap length e), λ q. ap (λ (t : List ℕ). lex_le t l) e)
      | inl t ↦
          let e : rex_bytes (rex_for must w r x b) ≡ byte_for w r x b ∷ [] = ap (λ (q : Bool). rex_bytes (cond q (Some (rex_bits w r x b)) None)) t in
          let c = i.0 in
          let range = and_parts _ _ i.2 in
          let low : 64 ≤ c = leb-true _ _ range.0 in
          let high : c < 80 = ltb-true _ _ range.1 in
          let w1 = weight_le w 8 (c / 8 % 2) (λ z. eqb-true _ _ (ap (λ (q : Rex). q.w) i.3 ∙ k.has_w z)) in
          let r1 = weight_le r 4 (c / 4 % 2) (λ z. eqb-true _ _ (ap (λ (q : Rex). q.r) i.3 ∙ eight_true rx.r (k.has_r z))) in
          let x1 = weight_le x 2 (c / 2 % 2) (λ z. eqb-true _ _ (ap (λ (q : Rex). q.x) i.3 ∙ eight_true rx.x (k.has_x z))) in
          let b1 = weight_le b 1 (c % 2) (λ z. eqb-true _ _ (ap (λ (q : Rex). q.b) i.3 ∙ eight_true rx.b (k.has_b z))) in
          let le : byte_for w r x b ≤ c = omega arith in
          (omega (arith, ap length e, ap length i.1), λ q. subst (λ (u : List ℕ). lex_le u l ≡ true) (sym e) (subst (λ (u : List ℕ). lex_le (byte_for w r x b ∷ []) u ≡ true) (sym i.1) (lex_one (byte_for w r x b) c le)))
    ]

-- ---- prefixes

pub prefixes_are : (size lock rep : Bool) → ArePrefixes no_prefix (prefix_bytes size lock rep) (record { size = size; lock = lock; rep = rep })
unfolding prefix_bytes add_prefix
prefixes_are true true true = (_, refl, (_, refl, (_, refl, refl)))
prefixes_are true true false = (_, refl, (_, refl, refl))
prefixes_are true false true = (_, refl, (_, refl, refl))
prefixes_are true false false = (_, refl, refl)
prefixes_are false true true = (_, refl, (_, refl, refl))
prefixes_are false true false = (_, refl, refl)
prefixes_are false false true = (_, refl, refl)
prefixes_are false false false = refl
