-- Spaces and tabs at the ends of a text.
use Rattle.std.proofs.Common.{◌≡◌, ◌≢◌, ◌∙◌, ℕ, ◌<◌, Bool, true, false, cond, ◌&&◌, ◌||◌, List, [], ◌∷◌, ◌++◌, length, refl, sym, ap, subst, arith, eqb-true}
use Rattle.std.specs.Borrow.{Bor}
use Rattle.std.specs.Prelude.{Option, Some, None, ◌==◌, MatchOption}
use Rattle.std.specs.Option.{option_or}
use Rattle.std.specs.List.{list_all}
use Rattle.text_reader.specs.Line.{is_blank, without_indent}
use Rattle.asm_words.specs.Blank.{after_blank, EndsBlank, EndsFull, without_end}

-- one blank less at the begin changes nothing
pub indent_step : (text rest : List ℕ) → after_blank text ≡ Some rest → (without_indent text ≡ without_indent rest) × (length rest < length text)
indent_step [] rest h = absurd (let no : ⊥ = cc in no)
indent_step (b ∷ bs) rest h = go (b == 32) (b == 9) h
  where
    same : bs ≡ rest → (without_indent bs ≡ without_indent rest) × (length rest < length (b ∷ bs))
    same e = (ap without_indent e, subst (λ (r : List ℕ). length r < length (b ∷ bs)) e (omega arith))

    go : (s t : Bool) → option_or (cond s (Some bs) None) (cond t (Some bs) None) ≡ Some rest → (cond (s || t) (without_indent bs) (b ∷ bs) ≡ without_indent rest) × (length rest < length (b ∷ bs))
    go true t e = same (let i : bs ≡ rest = cc in i)
    go false true e = same (let i : bs ≡ rest = cc in i)
    go false false e = absurd (let no : ⊥ = cc in no)

-- without one, nothing is dropped
pub indent_done : (text : List ℕ) → after_blank text ≡ None → without_indent text ≡ text
indent_done [] h = refl
indent_done (b ∷ bs) h = go (b == 32) (b == 9) h
  where
    go : (s t : Bool) → option_or (cond s (Some bs) None) (cond t (Some bs) None) ≡ None → cond (s || t) (without_indent bs) (b ∷ bs) ≡ b ∷ bs
    go true t e = absurd (let no : ⊥ = cc in no)
    go false true e = absurd (let no : ⊥ = cc in no)
    go false false e = refl

-- a blank at the end changes nothing of whether all are blank
all_with : (xs : List ℕ) (c : ℕ) → is_blank c ≡ true → list_all is_blank (xs ++ c ∷ []) ≡ list_all is_blank xs
all_with [] c h = rw h refl
all_with (x ∷ xs) c h = ap (λ (r : Bool). is_blank x && r) (all_with xs c h)

end_with : (front : List ℕ) (c : ℕ) → is_blank c ≡ true → without_end (front ++ c ∷ []) ≡ without_end front
end_with [] c h = rw h refl
end_with (b ∷ bs) c h =
    ap (λ (t : Bool). cond t [] (b ∷ without_end (bs ++ c ∷ []))) (all_with (b ∷ bs) c h)
    ∙ ap (λ (r : List ℕ). cond (list_all is_blank (b ∷ bs)) [] (b ∷ r)) (end_with bs c h)

length_with : (front : List ℕ) (c : ℕ) → length front < length (front ++ c ∷ [])
length_with [] c = omega arith
length_with (b ∷ bs) c = let h = length_with bs c in omega arith

-- one blank less at the end changes nothing
pub end_step : (text front : List ℕ) → EndsBlank text front → (without_end text ≡ without_end front) × (length front < length text)
end_step text front (c, blank, is) = (ap without_end is ∙ end_with front c blank, subst (λ (t : List ℕ). length front < length t) (sym is) (length_with front c))

tail_full : (b : ℕ) (bs : List ℕ) → EndsFull (b ∷ bs) → EndsFull bs
tail_full b bs full = λ front d blank is. full (b ∷ front) d blank (ap (λ (r : List ℕ). b ∷ r) is)

and_false : (t : Bool) → t && false ≡ false
and_false true = refl
and_false false = refl

one_full : (t : Bool) → (t ≡ true → ⊥) → t && true ≡ false
one_full true f = absurd (f refl)
one_full false f = refl

-- a text that ends with no blank isn't all blank
all_full : (x : ℕ) (xs : List ℕ) → EndsFull (x ∷ xs) → list_all is_blank (x ∷ xs) ≡ false
all_full x [] full = one_full (is_blank x) (λ e. full [] x e refl)
all_full x (y ∷ ys) full = ap (λ (t : Bool). is_blank x && t) (all_full y ys (tail_full x (y ∷ ys) full)) ∙ and_false (is_blank x)

-- without one, nothing is dropped
pub end_done : (text : List ℕ) → EndsFull text → without_end text ≡ text
end_done [] full = refl
end_done (b ∷ []) full = ap (λ (t : Bool). cond t [] (b ∷ [])) (all_full b [] full)
end_done (b ∷ c ∷ cs) full =
    ap (λ (t : Bool). cond t [] (b ∷ without_end (c ∷ cs))) (all_full b (c ∷ cs) full)
    ∙ ap (λ (r : List ℕ). b ∷ r) (end_done (c ∷ cs) (tail_full b (c ∷ cs) full))

-- what is found at the end of a text that ends with no space
pub ends_at_tab : (text : List ℕ) (r : Option (Bor (List ℕ))) → ((front : List ℕ) → text ≢ front ++ (32 ∷ []))
    → MatchOption r ((front : List ℕ) → text ≢ front ++ (9 ∷ [])) (λ x. text ≡ x.now ++ (9 ∷ [])) → MatchOption r (EndsFull text) (λ s. EndsBlank text s.now)
ends_at_tab text None space tab = λ front c blank is. go front c is (c == 32) (c == 9) refl refl blank
  where
    go : (front : List ℕ) (c : ℕ) → text ≡ front ++ c ∷ [] → (s t : Bool) → (c == 32) ≡ s → (c == 9) ≡ t → s || t ≡ true → ⊥
    go front c is true t e f h = space front (is ∙ ap (λ (n : ℕ). front ++ (n ∷ [])) (eqb-true c 32 e))
    go front c is false true e f h = tab front (is ∙ ap (λ (n : ℕ). front ++ (n ∷ [])) (eqb-true c 9 f))
    go front c is false false e f h = let no : ⊥ = cc in no
ends_at_tab text (Some x) space tab = (9, refl, tab)
