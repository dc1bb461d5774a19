-- Lines: where the first one ends, and the loop over them.
use Rattle.std.proofs.Common.{◌≡◌, ◌∙◌, ℕ, suc, ◌+◌, ◌<◌, Bool, true, false, cond, List, [], ◌∷◌, length, drop, get_or, take, ◌++◌, refl, sym, ap, arith, add-one, drop-cons}
use Rattle.std.specs.Prelude.{Result, Ok, Err, Option, Some, None}
use Rattle.std.specs.Borrow.{Bor}
use Rattle.std.specs.List.{All, slice_split, onto_first}
use Rattle.std.specs.Str.Lines.{strip_carriage_return}
use Rattle.std.proofs.lemmas.Bool.Decides.{nat_tests}
use Rattle.std.proofs.lemmas.List.{length-take, get_or-take, get_or_default, take-append-drop}
use Rattle.std.proofs.lemmas.List.Splits.{slice_split_at, slice_split_none}
use Rattle.text_reader.specs.Line.{lines, lines_after, left, is_feed, read_lines, and_on}

pub split_some : (p : ℕ → Bool) (text : List ℕ) → (x : List ℕ) × (xs : List (List ℕ)) × (slice_split p text ≡ x ∷ xs)
split_some p [] = ([], [], refl)
split_some p (b ∷ text) = go (p b) (split_some p text)
  where
    go : (t : Bool) → ((x : List ℕ) × (xs : List (List ℕ)) × (slice_split p text ≡ x ∷ xs))
        → (x : List ℕ) × (xs : List (List ℕ)) × (cond t ([] ∷ slice_split p text) (onto_first b (slice_split p text)) ≡ x ∷ xs)
    go true s = ([], slice_split p text, refl)
    go false s = (b ∷ s.0, s.1, ap (onto_first b) s.2)

not_feed : (b : ℕ) → (b ≡ 10 → ⊥) → is_feed b ≡ false
not_feed b h = grind (arith, nat_tests)

pub first_is : (text line rest : List ℕ) (i : ℕ) → i < length text → ((k : ℕ) → k < i → get_or text k 0 ≡ 10 → ⊥) → get_or text i 0 ≡ 10
    → line ≡ strip_carriage_return (take i text) → rest ≡ drop (i + 1) text → lines text ≡ line ∷ lines rest
unfolding lines
first_is text line rest i lt before at line-is rest-is =
    let none : All (λ (b : ℕ). is_feed b ≡ false) (take i text) = λ k d h. let inside : k < i = omega (arith, length-take {A = ℕ}) in not_feed (get_or (take i text) k d) (λ e. before k inside (sym (get_or-take i text k 0 inside) ∙ get_or_default (take i text) k 0 d h ∙ e)) in
    let feed : is_feed 10 ≡ true = refl in
    let parts : text ≡ take i text ++ 10 ∷ drop (suc i) text = sym (take-append-drop i text) ∙ ap (λ (r : List ℕ). take i text ++ r) (drop-cons text i 0 lt ∙ ap (λ (b : ℕ). b ∷ drop (suc i) text) at) in
    let cut : slice_split is_feed text ≡ take i text ∷ slice_split is_feed (drop (suc i) text) = ap (slice_split is_feed) parts ∙ slice_split_at is_feed (take i text) 10 (drop (suc i) text) none feed in
    let more = split_some is_feed (drop (suc i) text) in
    rw (cut, line-is, rest-is, add-one, more.2) refl

pub only_line : (text : List ℕ) → ((k : ℕ) → k < length text → get_or text k 0 ≡ 10 → ⊥) → lines text ≡ text ∷ []
unfolding lines
only_line text none =
    let each : All (λ (b : ℕ). is_feed b ≡ false) text = λ k d h. not_feed (get_or text k d) (λ e. none k h (get_or_default text k 0 d h ∙ e)) in
    rw (slice_split_none is_feed text each) refl

-- ---- the loop over lines

module _ {S F : Type 0} (step : ℕ → S → List ℕ → Result S F) (n : ℕ) (s : S) (rest : Option (Bor (List ℕ))) (text : Bor (List ℕ)) (line : List ℕ) (after : Option (Bor (List ℕ))) (total : Result S F)
    (is : rest ≡ Some text) (cut : lines text.now ≡ line ∷ lines_after after) (so_far : read_lines step n s (lines_after rest) ≡ total) where
  now : and_on (step n s line) (λ more. read_lines step (n + 1) more (lines_after after)) ≡ total
  unfolding read_lines
  now = let e = ap (λ (r : Option (Bor (List ℕ))). read_lines step n s (lines_after r)) (sym is) ∙ so_far in rw cut at e

  -- a line that is no fault leaves the rest to be read
  pub goes_on : (new : S) → step n s line ≡ Ok new → read_lines step (n + 1) new (lines_after after) ≡ total
  goes_on new e = ap (λ (r : Result S F). and_on r (λ more. read_lines step (n + 1) more (lines_after after))) (sym e) ∙ now

  -- a faulty line decides
  pub stops : (fault : F) → step n s line ≡ Err fault → total ≡ Err fault
  stops fault h = sym now ∙ ap (λ (r : Result S F). and_on r (λ more. read_lines step (n + 1) more (lines_after after))) h

-- no line is left
pub is_done : {S F : Type 0} (step : ℕ → S → List ℕ → Result S F) (n : ℕ) (s : S) (rest : Option (Bor (List ℕ))) (total : Result S F) → ((x : Bor (List ℕ)) → rest ≡ Some x → ⊥) → read_lines step n s (lines_after rest) ≡ total → total ≡ Ok s
unfolding read_lines
is_done step n s None total none so_far = sym so_far
is_done step n s (Some x) total none so_far = absurd (none x refl)

pub fits_left : (rest : Option (Bor (List ℕ))) (text : Bor (List ℕ)) → rest ≡ Some text → left rest ≡ length text.now + 1
fits_left rest text is = ap left is
