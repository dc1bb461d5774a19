-- The entries of one number, and prefixes.
use Rattle.std.proofs.Common.{◌≡◌, ◌≢◌, ℕ, ◌≤◌, ◌<◌, ◌⊎◌, inl, inr, Bool, false, cond, List, [], ◌∷◌, ◌++◌, length, sym, refl, ap, subst, ◌∙◌, arith, ne_eqb, eqb, length-append, drop, append-nil, append_assoc}
use Rattle.std.proofs.Math.Seq.{drop-append_seam}
use Rattle.std.proofs.lemmas.Bool.{cases_lt}
use Rattle.std.proofs.lemmas.List.{drop_all}
use Rattle.std.proofs.lemmas.List.Elements.{filter-append, All-head, All-tail}
use Rattle.vm_law.specs.declared.journal.Signed.{Signed}
use Rattle.vm_turn.specs.History.{signed_by, AllBy, StartsWith, longer}

-- the entries of a number in two parts
pub signed_append : (n : ℕ) (xs ys : List Signed) → signed_by n (xs ++ ys) ≡ signed_by n xs ++ signed_by n ys
signed_append n xs ys = filter-append (λ (s : Signed). eqb s.by n) xs ys

-- entries of one number are of no other
pub signed_other : (n m : ℕ) (l : List Signed) → AllBy m l → n ≢ m → signed_by n l ≡ []
signed_other n m [] all other = refl
signed_other n m (x ∷ xs) all other =
    let P : Signed → Type 0 = λ (s : Signed). s.by ≡ m in
    let head : x.by ≡ m = All-head P x xs all in
    let miss : eqb x.by n ≡ false = ne_eqb x.by n (λ e. other (sym e ∙ head)) in
    ap (λ (b : Bool). cond b (x ∷ signed_by n xs) (signed_by n xs)) miss ∙ signed_other n m xs (All-tail P x xs all) other

-- nothing of n comes after what was seen, where the whole has as much of n
pub nothing_more : (n : ℕ) (xs ys : List Signed) → signed_by n (xs ++ ys) ≡ signed_by n xs → signed_by n ys ≡ []
nothing_more n xs ys e = empty_end (signed_by n xs) (signed_by n ys) (sym (signed_append n xs ys) ∙ e)
  where
    empty_end : (us bs : List Signed) → us ++ bs ≡ us → bs ≡ []
    empty_end us [] e = refl
    empty_end us (b ∷ bs) e = let h = ap length e in let k = length-append us (b ∷ bs) in absurd (omega arith)

-- a front of what has none of n has none of n
pub none_before : (n : ℕ) (xs ys : List Signed) → signed_by n (xs ++ ys) ≡ [] → signed_by n xs ≡ []
none_before n xs ys e = empty_front (signed_by n xs) (signed_by n ys) (sym (signed_append n xs ys) ∙ e)
  where
    empty_front : (us bs : List Signed) → us ++ bs ≡ [] → us ≡ []
    empty_front [] bs e = refl
    empty_front (u ∷ us) bs e = let h = ap length e in absurd (omega arith)

-- entries of another number add none of j
pub grown : (j n : ℕ) (log new : List Signed) → AllBy n new → j ≢ n → signed_by j (log ++ new) ≡ signed_by j log
grown j n log new all other = signed_append j log new ∙ (ap (λ (l : List Signed). signed_by j log ++ l) (signed_other j n new all other) ∙ append-nil (signed_by j log))

-- of two beginnings of one list, the longer goes on from the shorter
goes_on : (xs ys p q : List Signed) → xs ++ p ≡ ys ++ q → length xs ≤ length ys → (r : List Signed) × (ys ≡ xs ++ r)
goes_on [] ys p q e le = (ys, refl)
goes_on (x ∷ xs) [] p q e le = absurd (omega arith)
goes_on (x ∷ xs) (y ∷ ys) p q e le =
    let t = goes_on xs ys p q (ap (λ (l : List Signed). drop 1 l) e) (omega arith) in
    let h : y ≡ x = sym (ap (λ (l : List Signed). first_or x l) e) in
    (t.0, (λ i. h i ∷ t.1 i))
  where
    first_or : Signed → List Signed → Signed
    first_or d [] = d
    first_or d (z ∷ zs) = z

-- the longer of two beginnings is a beginning, and has as much of n as the first, where that has all of n
pub longer_begins : (n : ℕ) (log xs ys : List Signed) → StartsWith log xs → StartsWith log ys → signed_by n log ≡ signed_by n xs → StartsWith log (longer xs ys) × (signed_by n log ≡ signed_by n (longer xs ys))
longer_begins n log xs ys a b e = by_length (cases_lt (length ys) (length xs))
  where
    by_length : (length ys < length xs) ⊎ (length xs ≤ length ys) → StartsWith log (longer xs ys) × (signed_by n log ≡ signed_by n (longer xs ys))
    by_length (inl less) =
        let none = drop_all (length xs) ys (omega (arith, less)) in
        let same : longer xs ys ≡ xs = ap (λ (l : List Signed). xs ++ l) none ∙ append-nil xs in
        (subst (λ (l : List Signed). StartsWith log l) (sym same) a, e ∙ ap (signed_by n) (sym same))
    by_length (inr le) =
        let t = goes_on xs ys a.0 b.0 (sym a.1 ∙ b.1) le in
        let behind : drop (length xs) ys ≡ t.0 = ap (λ (l : List Signed). drop (length xs) l) t.1 ∙ drop-append_seam xs t.0 in
        let same : longer xs ys ≡ ys = ap (λ (l : List Signed). xs ++ l) behind ∙ sym t.1 in
        let whole : log ≡ xs ++ (t.0 ++ b.0) = b.1 ∙ (ap (λ (l : List Signed). l ++ b.0) t.1 ∙ append_assoc xs t.0 b.0) in
        let none : signed_by n t.0 ≡ [] = none_before n t.0 b.0 (nothing_more n xs (t.0 ++ b.0) (sym (ap (signed_by n) whole) ∙ e)) in
        let own : signed_by n ys ≡ signed_by n xs = ap (signed_by n) t.1 ∙ (signed_append n xs t.0 ∙ (ap (λ (l : List Signed). signed_by n xs ++ l) none ∙ append-nil (signed_by n xs))) in
        (subst (λ (l : List Signed). StartsWith log l) (sym same) b, e ∙ sym own ∙ ap (signed_by n) (sym same))
