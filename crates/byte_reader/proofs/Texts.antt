-- The laws of a fixed text, and the loop that reads one.
use Rattle.std.proofs.Common.{◌≡◌, ℕ, zero, suc, length, drop, get_or, cond, ltb, Bool, ◌==◌, true, false, add-one, eq-eqb, eqb-true, ◌+◌, ◌≤◌, ◌<◌, List, [], ◌∷◌, ◌++◌, Ok, Err, refl, sym, ap, ◌∙◌, arith}
use Rattle.std.proofs.lemmas.List.{drop_all, length-drop, length-append}
use Rattle.std.proofs.lemmas.Bool.{le-ltb}
use Rattle.std.proofs.lemmas.Bool.Decides.{nat_tests}
use Rattle.byte_reader.specs.declared.reading.Refusal.{Refusal}
use Rattle.byte_reader.specs.Reader.{Read, fault_at}
use Rattle.vm_law.proofs.Numbers.{IsBytes}
use Rattle.byte_reader.proofs.Readers.{Takes, Reads, done_is}
use Rattle.byte_reader.specs.Fixed.{differs_at_once, same, text_at}

-- ---- a loop over the text's bytes

same_step : {K : Type 0} (short other : K) (text bytes : List ℕ) (i : ℕ) → i < length text → i < length bytes
    → same short other (drop i text) (drop i bytes) ≡ cond (get_or bytes i 0 == get_or text i 0) (same short other (drop (suc i) text) (drop (suc i) bytes)) (fault_at other (drop i bytes))
unfolding same
same_step short other [] bytes i lt lb = absurd (omega arith)
same_step short other (x ∷ text) [] i lt lb = absurd (omega arith)
same_step short other (x ∷ text) (y ∷ bytes) zero lt lb = refl
same_step short other (x ∷ text) (y ∷ bytes) (suc i) lt lb = same_step short other text bytes i (omega arith) (omega arith)

pub same_on : {K : Type 0} (short other : K) (text bytes : List ℕ) (i : ℕ) (total : Read (Refusal K) (Unit {0})) → i < length text → length text ≤ length bytes → get_or bytes i 0 ≡ get_or text i 0
    → same short other (drop i text) (drop i bytes) ≡ total → same short other (drop (i + 1) text) (drop (i + 1) bytes) ≡ total
same_on short other text bytes i total lt le eq so_far =
    let e : (get_or bytes i 0 == get_or text i 0) ≡ true = eq-eqb _ _ eq in
    rw add-one (sym (same_step short other text bytes i lt (omega arith) ∙ rw e refl) ∙ so_far)

pub same_faults : {K : Type 0} (short other : K) (text bytes : List ℕ) (i left : ℕ) → i < length text → length text ≤ length bytes → (get_or bytes i 0 ≡ get_or text i 0 → ⊥)
    → same short other (drop i text) (drop i bytes) ≡ same short other text bytes → left + i ≡ length bytes → text_at short other text bytes ≡ Err (record { left = left; kind = other })
unfolding text_at
same_faults short other text bytes i left lt le ne so_far at =
    let e : (get_or bytes i 0 == get_or text i 0) ≡ false = grind (arith, nat_tests) in
    let long : ltb (length bytes) (length text) ≡ false = le-ltb _ _ le in
    let left-is : left ≡ length (drop i bytes) = omega (arith, length-drop {A = ℕ}) in
    rw (long, ← so_far, same_step short other text bytes i lt (omega arith), e, left-is) refl

pub same_ends : {K : Type 0} (short other : K) (text bytes rest : List ℕ) (i : ℕ) → length text ≤ length bytes → length text ≡ i
    → same short other (drop i text) (drop i bytes) ≡ same short other text bytes → rest ≡ drop i bytes → text_at short other text bytes ≡ Ok (tt, rest)
unfolding same text_at
same_ends short other text bytes rest i le at so_far is =
    let long : ltb (length bytes) (length text) ≡ false = le-ltb _ _ le in
    let e : drop i text ≡ [] = drop_all i text (omega arith) in
    rw (long, ← so_far, e, is) refl

-- ---- what it reads

abbrev pub Any : Unit {0} → Type 0
Any u = Unit {0}

same_takes : {K : Type 0} (short other : K) (text bytes rest : List ℕ) (u : Unit {0}) → IsBytes bytes → same short other text bytes ≡ Ok (u, rest) → Takes bytes text rest
unfolding same
same_takes short other [] bytes rest u fits e = let d = done_is tt u bytes rest e in record { parts = d.1; rest_fits = rw (← d.1) fits }
same_takes short other (c ∷ cs) [] rest u fits e = absurd cc
same_takes {K} short other (c ∷ cs) (b ∷ bytes) rest u fits e = go (b == c) refl e (same_takes short other cs bytes rest u (λ i. fits (suc i)))
  where
    go : (t : Bool) → (b == c) ≡ t → cond t (same short other cs bytes) (fault_at other (b ∷ bytes)) ≡ Ok (u, rest) → (same short other cs bytes ≡ Ok (u, rest) → Takes bytes cs rest) → Takes (b ∷ bytes) (c ∷ cs) rest
    go true is e later = let t = later e in record { parts = rw (eqb-true b c is) (ap (λ (x : List ℕ). c ∷ x) t.parts); rest_fits = t.rest_fits }
    go false is e later = absurd cc

same_again : {K : Type 0} (short other : K) (text rest : List ℕ) → same short other text (text ++ rest) ≡ Ok (tt, rest)
unfolding same
same_again short other [] rest = refl
same_again short other (c ∷ cs) rest = let e : (c == c) ≡ true = eq-eqb c c refl in rw e (same_again short other cs rest)

text_takes : {K : Type 0} (short other : K) (text bytes rest : List ℕ) (u : Unit {0}) → IsBytes bytes → text_at short other text bytes ≡ Ok (u, rest) → Takes bytes text rest
unfolding text_at
text_takes short other text bytes rest u fits e = go (ltb (length bytes) (length text)) e
  where
    go : (b : Bool) → cond b (fault_at (cond (differs_at_once text bytes) other short) bytes) (same short other text bytes) ≡ Ok (u, rest) → Takes bytes text rest
    go true e = absurd cc
    go false e = same_takes short other text bytes rest u fits e

text_again : {K : Type 0} (short other : K) (text rest : List ℕ) → text_at short other text (text ++ rest) ≡ Ok (tt, rest)
unfolding text_at
text_again short other text rest =
    let long : ltb (length (text ++ rest)) (length text) ≡ false = le-ltb _ _ (omega (arith, length-append text rest)) in
    rw long (same_again short other text rest)

pub text_reads : {K : Type 0} (short other : K) (text : List ℕ) → Reads (text_at short other text) (λ _. text) Any
text_reads short other text = record {
  takes = λ bytes u rest fits e. (text_takes short other text bytes rest u fits e, tt);
  again = λ u rest any. text_again short other text rest;
}
