-- The best of the rows so far, and of one more.
use Rattle.std.proofs.Common.{◌≡◌, ℕ, ◌+◌, ◌<◌, Bool, true, cond, List, [], ◌∷◌, ◌++◌, length, take, get_or, Option, Some, None, sym, ap, subst, inl, inr}
use Rattle.std.specs.Prelude.{MatchOption, Contains}
use Rattle.std.specs.Option.{option_map}
use Rattle.std.proofs.lemmas.Bool.{cases_Bool}
use Rattle.std.proofs.lemmas.List.{take_more}
use Rattle.std.proofs.lemmas.List.Elements.{Contains-push_cases, Contains-append_left, Contains-push}
use Rattle.vm_law.specs.declared.insn.Insn.{Insn}
use Rattle.x86_grammar.specs.declared.table.Row.{Row}
use Rattle.x86_encode.specs.declared.labels.Labels.{Labels}
use Rattle.x86_encode.specs.Order.{before}
use Rattle.x86_encode.specs.Inside.Plain.{written}
use Rattle.x86_encode.specs.Inside.Selecting.{plain_by, Fits, IsLeast, NoneFits, better_of, lesser}
use Rattle.x86_encode.proofs.Order.{before_refl, before_other, before_trans}

abbrev pub Best : Labels → Insn → List Row → Option (List ℕ) → Type 0
Best labels insn rows o = MatchOption o (NoneFits labels insn rows) (IsLeast labels insn rows)

abbrev pub ByRow : Labels → Insn → Row → Option (List ℕ) → Type 0
ByRow labels insn row o = MatchOption o (Fits labels insn row → ⊥) (λ t. (t ≡ written (plain_by labels row insn)) × Fits labels insn row)

pub to_list : {X : Type 0} (f : X → List ℕ) (P : Type 0) (Q : List ℕ → Type 0) (o : Option X) → MatchOption o P (λ t. Q (f t)) → MatchOption (option_map f o) P Q
to_list f P Q None m = m
to_list f P Q (Some t) m = m

pub from_list : {X : Type 0} (f : X → List ℕ) (P : Type 0) (Q : List ℕ → Type 0) (o : Option X) → MatchOption (option_map f o) P Q → MatchOption o P (λ t. Q (f t))
from_list f P Q None m = m
from_list f P Q (Some t) m = m

module _ (labels : Labels) (insn : Insn) (rows : List Row) (row : Row) where
  -- an old one stays the least where it is below the new one
  with_old : (b : List ℕ) → IsLeast labels insn rows b → (Fits labels insn row → before b (written (plain_by labels row insn)) ≡ true) → IsLeast labels insn (rows ++ row ∷ []) b
  with_old b l own = record {
    row = l.row;
    among = Contains-append_left rows (row ∷ []) l.row l.among;
    fits = l.fits;
    is = l.is;
    least = λ r c k. elim (Contains-push_cases rows row r c) [
      | inl old ↦ l.least r old k
      | inr e ↦ subst (λ (q : Row). before b (written (plain_by labels q insn)) ≡ true) e (own (subst (λ (q : Row). Fits labels insn q) (sym e) k))
    ];
  }

  -- the new one is the least where it is below the old ones
  with_new : (b : List ℕ) → b ≡ written (plain_by labels row insn) → Fits labels insn row → ((r : Row) → Contains rows r → Fits labels insn r → before b (written (plain_by labels r insn)) ≡ true) → IsLeast labels insn (rows ++ row ∷ []) b
  with_new b is fits all = record {
    row = row;
    among = Contains-push rows row;
    fits = fits;
    is = is;
    least = λ r c k. elim (Contains-push_cases rows row r c) [
      | inl old ↦ all r old k
      | inr e ↦ subst (λ (q : Row). before b (written (plain_by labels q insn)) ≡ true) e (subst (λ (q : List ℕ). before b q ≡ true) is (before_refl b))
    ];
  }

  lesser_least : (a b : List ℕ) → IsLeast labels insn rows a → b ≡ written (plain_by labels row insn) → Fits labels insn row → IsLeast labels insn (rows ++ row ∷ []) (lesser a b)
  lesser_least a b l e s =
      elim (cases_Bool (before a b)) [
        | inl t ↦ subst (IsLeast labels insn (rows ++ row ∷ [])) (sym (ap (λ (q : Bool). cond q a b) t)) (with_old a l (λ k. subst (λ (q : List ℕ). before a q ≡ true) e t))
        | inr f ↦
            let ba = before_other a b f in
            subst (IsLeast labels insn (rows ++ row ∷ [])) (sym (ap (λ (q : Bool). cond q a b) f)) (with_new b e s (λ r c k. before_trans b a (written (plain_by labels r insn)) ba (l.least r c k)))
      ]

  pub step : (a b : Option (List ℕ)) → Best labels insn rows a → ByRow labels insn row b → Best labels insn (rows ++ row ∷ []) (better_of a b)
  step None None n m = λ r c k. elim (Contains-push_cases rows row r c) [
    | inl old ↦ n r old k
    | inr e ↦ m (subst (λ (q : Row). Fits labels insn q) (sym e) k)
  ]
  step None (Some t) n m = with_new t m.0 m.1 (λ r c k. absurd (n r c k))
  step (Some a) None l m = with_old a l (λ k. absurd (m k))
  step (Some a) (Some t) l m = lesser_least a t l m.0 m.1

abbrev pub BestText : {X : Type 0} → (X → List ℕ) → Labels → Insn → List Row → Option X → Type 0
BestText f labels insn rows o = MatchOption o (NoneFits labels insn rows) (λ t. IsLeast labels insn rows (f t))

-- one turn of the loop
pub turn : {X : Type 0} (f : X → List ℕ) (labels : Labels) (insn : Insn) (rows : List Row) (i : ℕ) (d : Row) (best next result : Option X) → i < length rows
    → BestText f labels insn (take i rows) best
    → MatchOption next (Fits labels insn (get_or rows i d) → ⊥) (λ t. (f t ≡ written (plain_by labels (get_or rows i d) insn)) × Fits labels insn (get_or rows i d))
    → option_map f result ≡ better_of (option_map f best) (option_map f next)
    → BestText f labels insn (take (i + 1) rows) result
turn f labels insn rows i d best next result lt b n e =
    let row = get_or rows i d in
    let more = step labels insn (take i rows) row (option_map f best) (option_map f next)
    (to_list f (NoneFits labels insn (take i rows)) (IsLeast labels insn (take i rows)) best b)
    (to_list f (Fits labels insn row → ⊥) (λ t. (t ≡ written (plain_by labels row insn)) × Fits labels insn row) next n) in
    let whole : Best labels insn (take (i + 1) rows) (option_map f result) =
    subst (λ (o : Option (List ℕ)). Best labels insn (take (i + 1) rows) o) (sym e) (subst (λ (rs : List Row). Best labels insn rs (better_of (option_map f best) (option_map f next))) (sym (take_more rows i d lt)) more) in
    from_list f (NoneFits labels insn (take (i + 1) rows)) (IsLeast labels insn (take (i + 1) rows)) result whole
