-- Names, and lines one after the other.
use Rattle.std.proofs.Common.{◌≡◌, ◌==◌, ℕ, Bool, true, false, cond, List, [], ◌∷◌, refl, ap, arith}
use Rattle.std.specs.Prelude.{Result, Option, Some, nat_eq}
use Rattle.std.proofs.lemmas.Bool.Decides.{nat_tests}
use Rattle.std.specs.Borrow.{Bor}
use Rattle.std.specs.List.{list_all, slice_split, onto_first}
use Rattle.std.specs.Str.{bytes_eq}
use Rattle.std.specs.Cmp.Lexicographic.{pointwise}
use Rattle.indexmap.specs.IndexMap.{insert_entry}
use Rattle.text_reader.specs.Line.{Fault, lines, lines_after, read_lines}
use Rattle.text_reader.specs.Word.{is_nonempty}
use Rattle.text_reader.proofs.Lines.{stops}
use Rattle.cfg_text.specs.declared.expand.Written.{Written}
use Rattle.cfg_text.specs.declared.error.CfgError.{CfgError}
use Rattle.cfg_text.specs.declared.error.CfgError.TheVariants as error
use Rattle.cfg_text.specs.declared.error.CfgKind.{CfgKind}
use Rattle.cfg_text.specs.Line.{is_dot, read_line}
use Rattle.cfg_text.specs.Lines.{Variable, Refuses, read_one, line_step, put, variable_of, variables_of}

abbrev pub past_first : List (List ℕ) → List (List ℕ)
past_first [] = []
past_first (p ∷ ps) = ps

-- the parts from a place on, of which the first has begun where `is_empty` is false
abbrev pub is_name_from : Bool → List ℕ → Bool
is_name_from true text = list_all is_nonempty (slice_split is_dot text)
is_name_from false text = list_all is_nonempty (past_first (slice_split is_dot text))

onto_first-nonempty : (b : ℕ) (ps : List (List ℕ)) → list_all is_nonempty (onto_first b ps) ≡ list_all is_nonempty (past_first ps)
onto_first-nonempty b [] = refl
onto_first-nonempty b (p ∷ ps) = let some : is_nonempty (b ∷ p) ≡ true = grind (arith, nat_tests) in rw some refl

onto_first-past : (b : ℕ) (ps : List (List ℕ)) → past_first (onto_first b ps) ≡ past_first ps
onto_first-past b [] = refl
onto_first-past b (p ∷ ps) = refl

pub name_dot : (b : ℕ) (text : List ℕ) → (b == 46) ≡ true → (is_name_from true (b ∷ text) ≡ false) × (is_name_from false (b ∷ text) ≡ is_name_from true text)
name_dot b text e = (rw e refl, rw e refl)

pub name_other : (e : Bool) (b : ℕ) (text : List ℕ) → (b == 46) ≡ false → is_name_from e (b ∷ text) ≡ is_name_from false text
name_other true b text e = rw e (onto_first-nonempty b (slice_split is_dot text))
name_other false b text e = rw e (ap (list_all is_nonempty) (onto_first-past b (slice_split is_dot text)))

pub put_view : (es : List (Bor (List ℕ) × Written)) (name : Bor (List ℕ)) (written : Written) → variables_of (insert_entry (λ x y. pointwise nat_eq x.now y.now) es name written) ≡ put (variables_of es) (variable_of (name, written))
put_view [] name written = refl
put_view (e ∷ es) name written = go (bytes_eq name.now e.0.now) (put_view es name written)
  where
    go : (b : Bool) → variables_of (insert_entry (λ x y. pointwise nat_eq x.now y.now) es name written) ≡ put (variables_of es) (variable_of (name, written))
        → variables_of (cond b ((e.0, written) ∷ es) (e ∷ insert_entry (λ x y. pointwise nat_eq x.now y.now) es name written)) ≡ cond b (variable_of (e.0, written) ∷ variables_of es) (variable_of e ∷ put (variables_of es) (variable_of (name, written)))
    go true later = refl
    go false later = ap (λ (vs : List Variable). variable_of e ∷ vs) later

-- ---- the loop over lines

module _ (n : ℕ) (ps : List Variable) (rest : Option (Bor (List ℕ))) (text : Bor (List ℕ)) (line : List ℕ) (after : Option (Bor (List ℕ))) (total : Result (List Variable) (Fault CfgKind))
    (is : rest ≡ Some text) (cut : lines text.now ≡ line ∷ lines_after after) (so_far : read_lines line_step n ps (lines_after rest) ≡ total) where
  pub line_stops : (e : CfgError) → Refuses e (read_one (read_line line) n ps) → Refuses e total
  line_stops error.Memory h = tt
  line_stops (error.Fault at kind) h = stops line_step n ps rest text line after total is cut so_far (record { line = at; kind = kind }) h
