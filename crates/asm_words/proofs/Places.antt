-- A look-up in a list of names, from a place on.
use Rattle.std.proofs.Common.{◌≡◌, ◌∙◌, ℕ, ◌+◌, ◌<◌, ◌≤◌, Bool, true, false, cond, List, length, get_or, drop, Option, Some, None, sym, ap}
use Rattle.std.specs.Borrow.{Bor}
use Rattle.std.specs.Str.{bytes_eq}
use Rattle.std.proofs.lemmas.List.{at_drop_more, at_drop_all}
use Rattle.text_reader.specs.Word.{texts}
use Rattle.asm_words.specs.Register.{place_from}

module _ (names : List (Bor (List ℕ))) (name : List ℕ) (i : ℕ) (d : Bor (List ℕ)) (total : Option ℕ) (lt : i < length names)
    (so_far : place_from i (texts (drop i names)) name ≡ total) where
  now : cond (bytes_eq name (get_or names i d).now) (Some i) (place_from (i + 1) (texts (drop (i + 1) names)) name) ≡ total
  now = sym (at_drop_more (λ (l : List (Bor (List ℕ))). place_from i (texts l) name) names i d lt) ∙ so_far

  pub place_on : bytes_eq name (get_or names i d).now ≡ false → place_from (i + 1) (texts (drop (i + 1) names)) name ≡ total
  place_on e = ap (λ (t : Bool). cond t (Some i) (place_from (i + 1) (texts (drop (i + 1) names)) name)) (sym e) ∙ now

  pub place_found : bytes_eq name (get_or names i d).now ≡ true → total ≡ Some i
  place_found e = sym now ∙ ap (λ (t : Bool). cond t (Some i) (place_from (i + 1) (texts (drop (i + 1) names)) name)) e

pub place_none : (names : List (Bor (List ℕ))) (name : List ℕ) (i : ℕ) (total : Option ℕ) → length names ≤ i → place_from i (texts (drop i names)) name ≡ total → total ≡ None
place_none names name i total le so_far = sym so_far ∙ at_drop_all (λ (l : List (Bor (List ℕ))). place_from i (texts l) name) names i le
