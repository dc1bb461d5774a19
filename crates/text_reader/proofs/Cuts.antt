-- What a call that cuts a text, or takes a first byte off, gives.
use Rattle.std.proofs.Common.{◌≡◌, ◌≢◌, ◌==◌, ◌∙◌, ℕ, ◌+◌, ◌<◌, Bool, true, false, ltb, List, [], ◌∷◌, length, Option, Some, None, refl, sym, ap, arith}
use Rattle.std.specs.Prelude.{MatchOption, option_map, IfSome}
use Rattle.std.specs.List.{position_or_len, before_first, after_first}
use Rattle.std.specs.Borrow.{Bor}
use Rattle.std.proofs.lemmas.Bool.{le-ltb, lt-ltb}
use Rattle.std.proofs.lemmas.Bool.Decides.{nat_tests}
use Rattle.std.proofs.lemmas.List.{length-drop}
use Rattle.text_reader.specs.Word.{cut_at, after_byte}

abbrev pub IsCut : ℕ → List ℕ → Option (Bor (List ℕ) × Bor (List ℕ)) → Type 0
IsCut c text r = MatchOption r (position_or_len (λ b. b == c) text ≡ length text)
    (λ x. (position_or_len (λ b. b == c) text < length text) × (x.0.now ≡ before_first (λ b. b == c) text) × (x.1.now ≡ after_first (λ b. b == c) text))

pub cut_is : (c : ℕ) (text : List ℕ) (r : Option (Bor (List ℕ) × Bor (List ℕ))) → IsCut c text r → option_map (λ p. (p.0.now, p.1.now)) r ≡ cut_at c text
cut_is c text None h = let e : ltb (position_or_len (λ b. b == c) text) (length text) ≡ false = le-ltb _ _ (omega arith) in rw e refl
cut_is c text (Some x) h = let e : ltb (position_or_len (λ b. b == c) text) (length text) ≡ true = lt-ltb _ _ h.0 in rw (e, h.1, h.2) refl

pub cut_shorter : (c : ℕ) (text : List ℕ) (r : Option (Bor (List ℕ) × Bor (List ℕ))) → IsCut c text r → IfSome r (λ p. length p.1.now < length text)
cut_shorter c text None h = tt
cut_shorter c text (Some x) h = rw h.2 (omega (arith, h.0, length-drop (position_or_len (λ b. b == c) text + 1) text))

pub after_byte_is : (c : ℕ) (bs : List ℕ) (r : Option (Bor (List ℕ)))
    → MatchOption r ((rest : List ℕ) → bs ≢ c ∷ rest) (λ x. bs ≡ c ∷ x.now) → option_map (λ s. s.now) r ≡ after_byte c bs
after_byte_is c [] None h = refl
after_byte_is c [] (Some x) h = cc
after_byte_is c (b ∷ bs) None h = go (b == c) refl
  where
    go : (t : Bool) → (b == c) ≡ t → None ≡ after_byte c (b ∷ bs)
    go true e = absurd (h bs (ap (λ n. n ∷ bs) (grind (arith, nat_tests))))
    go false e = rw e refl
after_byte_is c (b ∷ bs) (Some x) h =
    let same : (c == c) ≡ true = grind (arith, nat_tests) in
    let met : after_byte c (c ∷ x.now) ≡ Some x.now = rw same refl in
    sym (ap (after_byte c) h ∙ met)
