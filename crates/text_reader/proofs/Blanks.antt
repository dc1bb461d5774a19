-- Words that spaces and tabs separate are what tabs separate in the words that spaces separate.
use Rattle.std.proofs.Common.{◌≡◌, ◌==◌, ◌∙◌, ◌<◌, ℕ, suc, Bool, true, false, cond, List, [], ◌∷◌, ◌++◌, length, refl, sym, ap, arith, append_assoc}
use Rattle.std.specs.Prelude.{◌||◌}
use Rattle.std.specs.List.{slice_split, onto_first, filter, flat_map}
use Rattle.text_reader.specs.Line.{is_blank}
use Rattle.text_reader.specs.Word.{is_space, is_nonempty, words_by}
use Rattle.text_reader.proofs.Cut.{kept}
use Rattle.text_reader.proofs.Lines.{split_some}

abbrev pub is_tab : ℕ → Bool
is_tab b = b == 9

-- a part before others
onto_more : (b : ℕ) (x : List ℕ) (xs ys : List (List ℕ)) → onto_first b ((x ∷ xs) ++ ys) ≡ onto_first b (x ∷ xs) ++ ys
onto_more b x xs ys = refl

split_again : (text : List ℕ) → slice_split is_blank text ≡ flat_map (slice_split is_tab) (slice_split is_space text)
split_again [] = refl
split_again (b ∷ bs) = go (is_space b) (is_tab b) refl (split_some is_space bs) (split_again bs)
  where
    onto : (t : Bool) → is_tab b ≡ t → (p : List ℕ) (ps : List (List ℕ)) → slice_split is_blank bs ≡ slice_split is_tab p ++ flat_map (slice_split is_tab) ps
        → cond t ([] ∷ slice_split is_blank bs) (onto_first b (slice_split is_blank bs)) ≡ slice_split is_tab (b ∷ p) ++ flat_map (slice_split is_tab) ps
    onto true is p ps later = rw (is, later) refl
    onto false is p ps later =
        let part = split_some is_tab p in
        rw (is, later, part.2) refl

    go : (s t : Bool) → is_tab b ≡ t → ((p : List ℕ) × (ps : List (List ℕ)) × (slice_split is_space bs ≡ p ∷ ps))
        → slice_split is_blank bs ≡ flat_map (slice_split is_tab) (slice_split is_space bs)
        → cond (s || t) ([] ∷ slice_split is_blank bs) (onto_first b (slice_split is_blank bs)) ≡ flat_map (slice_split is_tab) (cond s ([] ∷ slice_split is_space bs) (onto_first b (slice_split is_space bs)))
    go true t is parts later = ap (λ (ps : List (List ℕ)). [] ∷ ps) later
    go false t is parts later = rw parts.2 (onto t is parts.0 parts.1 (later ∙ ap (flat_map (slice_split is_tab)) parts.2))

filter-append : (xs ys : List (List ℕ)) → filter is_nonempty (xs ++ ys) ≡ filter is_nonempty xs ++ filter is_nonempty ys
filter-append [] ys = refl
filter-append (x ∷ xs) ys = go (is_nonempty x) (filter-append xs ys)
  where
    go : (t : Bool) → filter is_nonempty (xs ++ ys) ≡ filter is_nonempty xs ++ filter is_nonempty ys
        → cond t (x ∷ filter is_nonempty (xs ++ ys)) (filter is_nonempty (xs ++ ys)) ≡ cond t (x ∷ filter is_nonempty xs) (filter is_nonempty xs) ++ filter is_nonempty ys
    go true later = ap (λ (ws : List (List ℕ)). x ∷ ws) later
    go false later = later

words_each : (parts : List (List ℕ)) → filter is_nonempty (flat_map (slice_split is_tab) parts) ≡ flat_map (words_by is_tab) (filter is_nonempty parts)
words_each [] = refl
words_each ([] ∷ parts) = words_each parts
words_each ((b ∷ bs) ∷ parts) =
    let some : 0 < length (b ∷ bs) = omega arith in
    filter-append (slice_split is_tab (b ∷ bs)) (flat_map (slice_split is_tab) parts) ∙ ap (λ (ws : List (List ℕ)). words_by is_tab (b ∷ bs) ++ ws) (words_each parts)
    ∙ ap (flat_map (words_by is_tab)) (sym (kept (b ∷ bs) parts some))

pub words_again : (text : List ℕ) → words_by is_blank text ≡ flat_map (words_by is_tab) (words_by is_space text)
words_again text = ap (filter is_nonempty) (split_again text) ∙ words_each (slice_split is_space text)
