-- Cuts, and the loop over a value.
use Rattle.std.proofs.Common.{◌≡◌, ◌==◌, ◌∙◌, ℕ, zero, suc, ◌+◌, ◌<◌, ◌≤◌, Bool, true, false, cond, ltb, List, [], ◌∷◌, ◌++◌, length, drop, Option, Some, None, ◌⊎◌, inl, inr, refl, sym, ap, arith, append_assoc, eqb-true, ltb-true}
use Rattle.std.specs.Prelude.{option_map, option_and_then, unwrap_or}
use Rattle.std.specs.Str.{bytes_eq}
use Rattle.std.specs.Map.{lookup}
use Rattle.std.specs.List.{position_or_len, before_first, after_first}
use Rattle.std.specs.Borrow.{Bor}
use Rattle.std.proofs.lemmas.Bool.{le-ltb, lt-ltb}
use Rattle.std.proofs.lemmas.List.{length-drop, length-append}
use Rattle.cfg_text.specs.declared.expand.Written.{Written}
use Rattle.cfg_text.specs.declared.expand.Refusal.{Refusal}
use Rattle.cfg_text.specs.declared.expand.Refusal.TheVariants as refusal
use Rattle.cfg_text.specs.Lines.{Variable, variables_of}
use Rattle.text_reader.specs.Word.{cut_at}
use Rattle.cfg_text.specs.Values.{IsDue, value_of, reference, behind, at_cut, expanded_in, expanded, first_beyond}

pub looked_up : (es : List (Bor (List ℕ) × Written)) (name : List ℕ) → value_of (variables_of es) name ≡ unwrap_or (option_map (λ w. w.value.now) (lookup (λ k. bytes_eq name k.now) es)) []
looked_up [] name = refl
looked_up (e ∷ es) name = go (bytes_eq name e.0.now) (looked_up es name)
  where
    go : (b : Bool) → value_of (variables_of es) name ≡ unwrap_or (option_map (λ w. w.value.now) (lookup (λ k. bytes_eq name k.now) es)) []
        → cond b e.1.value.now (value_of (variables_of es) name) ≡ unwrap_or (option_map (λ w. w.value.now) (cond b (Some e.1) (lookup (λ k. bytes_eq name k.now) es))) []
    go true later = refl
    go false later = later

-- ---- the steps

cut_len : (c : ℕ) (text : List ℕ) (p : List ℕ × List ℕ) → cut_at c text ≡ Some p → length p.1 < length text
cut_len c text p e = go (ltb (position_or_len (λ b. b == c) text) (length text)) refl e
  where
    go : (t : Bool) → ltb (position_or_len (λ b. b == c) text) (length text) ≡ t → cond t (Some (before_first (λ b. b == c) text, after_first (λ b. b == c) text)) None ≡ Some p → length p.1 < length text
    go true is e =
        let lt = ltb-true _ _ is in
        let pair : (before_first (λ b. b == c) text, after_first (λ b. b == c) text) ≡ p = cc in
        let rest : drop (position_or_len (λ b. b == c) text + 1) text ≡ p.1 = ap (λ (q : List ℕ × List ℕ). q.1) pair in
        rw (← rest) (omega (arith, lt, length-drop (position_or_len (λ b. b == c) text + 1) text))
    go false is e = absurd cc

reference_len : (text : List ℕ) (q : List ℕ × List ℕ) → reference text ≡ Some q → length q.1 < length text
reference_len [] q e = absurd cc
reference_len (b ∷ bs) q e = go (b == 40) e
  where
    go : (t : Bool) → option_and_then (cut_at 41) (cond t (Some bs) None) ≡ Some q → length q.1 < length (b ∷ bs)
    go true e = let h = cut_len 41 bs q e in omega arith
    go false e = absurd cc

cases : {X : Type 0} (o : Option X) → (o ≡ None) ⊎ ((x : X) × (o ≡ Some x))
cases None = inl refl
cases (Some x) = inr (x, refl)

-- any number of steps that is enough gives the same
enough : (ps : List Variable) (j k : ℕ) (text : List ℕ) → length text ≤ j → length text ≤ k → expanded_in j ps text ≡ expanded_in k ps text
unfolding expanded_in
enough ps zero zero text hj hk = refl
enough ps zero (suc k) [] hj hk = refl
enough ps zero (suc k) (b ∷ text) hj hk = absurd (omega arith)
enough ps (suc j) zero [] hj hk = refl
enough ps (suc j) zero (b ∷ text) hj hk = absurd (omega arith)
enough ps (suc j) (suc k) text hj hk = elim (cases (cut_at 37 text)) [
  | inl none ↦ rw none refl
  | inr some ↦
      let less = cut_len 37 text some.0 some.1 in
      elim (cases (reference some.0.1)) [
        | inl none ↦ rw (some.1, none, enough ps j k some.0.1 (omega arith) (omega arith)) refl
        | inr named ↦
            let shorter = reference_len some.0.1 named.0 named.1 in
            rw (some.1, named.1, enough ps j k named.0.1 (omega arith) (omega arith)) refl
      ]
]

first_step : (ps : List Variable) (text : List ℕ) → expanded ps text ≡ at_cut ps text (cut_at 37 text) (expanded_in (length text) ps)
unfolding expanded_in
first_step ps text = enough ps (length text) (suc (length text)) text (omega arith) (omega arith)

pub ends_here : (ps : List Variable) (text : List ℕ) → cut_at 37 text ≡ None → expanded ps text ≡ text
ends_here ps text none = first_step ps text ∙ rw none refl

pub goes_plain : (ps : List Variable) (text before after : List ℕ) → cut_at 37 text ≡ Some (before, after) → reference after ≡ None → expanded ps text ≡ before ++ (37 ∷ expanded ps after)
goes_plain ps text before after cut none =
    let less = cut_len 37 text (before, after) cut in
    first_step ps text ∙ rw (cut, none, enough ps (length text) (length after) after (omega arith) (omega arith)) refl

pub goes_named : (ps : List Variable) (text before after name tail : List ℕ) → cut_at 37 text ≡ Some (before, after) → reference after ≡ Some (name, tail) → expanded ps text ≡ before ++ (value_of ps name ++ expanded ps tail)
goes_named ps text before after name tail cut named =
    let less = cut_len 37 text (before, after) cut in
    let shorter = reference_len after (name, tail) named in
    first_step ps text ∙ rw (cut, named, enough ps (length text) (length tail) tail (omega arith) (omega arith)) refl

-- a part that is too long makes the whole too long
pub longer : (e : Refusal) (most : ℕ) (part rest whole : List ℕ) → part ++ rest ≡ whole → IsDue most part e → IsDue most whole e
longer refusal.Memory most part rest whole is h = tt
longer refusal.Long most part rest whole is h = rw (← is) (omega (arith, h, length-append part rest))

pub longer_by : (e : Refusal) (most : ℕ) (out piece more rest whole : List ℕ) → out ++ rest ≡ whole → rest ≡ piece ++ more → IsDue most (out ++ piece) e → IsDue most whole e
longer_by e most out piece more rest whole told step h =
    longer e most (out ++ piece) more whole (append_assoc out piece more ∙ ap (λ (t : List ℕ). out ++ t) (sym step) ∙ told) h

-- a value begins with what stands before its first `%`
pub begins : (ps : List Variable) (text before after : List ℕ) → cut_at 37 text ≡ Some (before, after) → (more : List ℕ) × (expanded ps text ≡ before ++ more)
begins ps text before after cut = (behind ps (reference after) after (expanded_in (length text) ps), first_step ps text ∙ rw cut refl)

-- ---- the values one after the other

pub keeps_within : (vs : List Variable) (total : ℕ) (v : Variable) (some : List Variable) → total + length (expanded vs v.value) ≤ 16777216 → first_beyond vs total (v ∷ some) ≡ first_beyond vs (total + length (expanded vs v.value)) some
keeps_within vs total v some h = let e : ltb 16777216 (total + length (expanded vs v.value)) ≡ false = le-ltb _ _ h in rw e refl

pub goes_beyond : (vs : List Variable) (total : ℕ) (v : Variable) (some : List Variable) → 16777216 < total + length (expanded vs v.value) → first_beyond vs total (v ∷ some) ≡ Some v
goes_beyond vs total v some h = let e : ltb 16777216 (total + length (expanded vs v.value)) ≡ true = lt-ltb _ _ h in rw e refl
