-- The index finds each row that takes an opcode.
use Rattle.std.proofs.Common.{◌≡◌, ℕ, zero, suc, ◌+◌, ◌-◌, ◌<◌, ◌≤◌, Bool, true, false, List, [], ◌∷◌, length, get_or, drop, Option, Some, None, refl, sym, ap, subst, ◌∙◌, arith, ◌⊎◌, inl, inr}
use Rattle.std.specs.Prelude.{◌&&◌, nat_le, nat_lt, Contains, find, slice_range}
use Rattle.std.specs.List.{list_any}
use Rattle.std.proofs.lemmas.Bool.{and_parts, leb-true, ltb-true, cases_lt, cases_Bool}
use Rattle.std.proofs.lemmas.List.{length-take, length-drop, get_or-take, get_or-drop}
use Rattle.x86_grammar.specs.declared.head.Head.{Head}
use Rattle.x86_grammar.specs.declared.table.Map.{Map}
use Rattle.x86_grammar.specs.declared.table.Map.TheVariants.{One, Two}
use Rattle.x86_grammar.specs.declared.table.Row.{Row}
use Rattle.x86_grammar.specs.declared.table.TheConstants.{ROWS}
use Rattle.x86_grammar.specs.Rows.{takes, fits, row_for, any_row, same_map}
use Rattle.x86_grammar.proofs.Finding.{find_some, find_only, find_none, any_some, any_from}
use Rattle.x86_grammar.proofs.Opcodes.{takes_parts, takes_from_fits, one_row}
use Rattle.x86_decode.specs.Index.{key_of, from_of, upto_of}

abbrev spans : Row → ℕ → ℕ → Bool
spans r i zero = true
spans r i (suc n) = nat_le (from_of (key_of r.map (r.byte + n))) i && (nat_lt i (upto_of (key_of r.map (r.byte + n))) && spans r i n)

abbrev indexed : ℕ → List Row → Bool
indexed i [] = true
indexed i (r ∷ rs) = spans r i r.span && indexed (suc i) rs

rows_indexed : indexed 0 ROWS ≡ true
unfolding from_of upto_of
rows_indexed = refl

abbrev ranged : ℕ → Bool
ranged zero = true
ranged (suc n) = nat_le (from_of n) (upto_of n) && (nat_le (upto_of n) 207 && ranged n)

index_ranged : ranged 512 ≡ true
unfolding from_of upto_of
index_ranged = refl

ranged_at : (n k : ℕ) → ranged n ≡ true → k < n → (from_of k ≤ upto_of k) × (upto_of k ≤ 207)
ranged_at zero k e l = absurd (omega arith)
ranged_at (suc n) k e l =
    let a = and_parts (nat_le (from_of n) (upto_of n)) (nat_le (upto_of n) 207 && ranged n) e in
    let b = and_parts (nat_le (upto_of n) 207) (ranged n) a.1 in
    elim (cases_lt k n) [
      | inl lt ↦ ranged_at n k b.1 lt
      | inr ge ↦ let same : n ≡ k = omega arith in subst (λ (j : ℕ). (from_of j ≤ upto_of j) × (upto_of j ≤ 207)) same (leb-true _ _ a.0, leb-true _ _ b.0)
    ]

pub in_table : (k : ℕ) → k < 512 → (from_of k ≤ upto_of k) × (upto_of k ≤ 207)
in_table k l = ranged_at 512 k index_ranged l

spans_at : (r : Row) (i n j : ℕ) → spans r i n ≡ true → j < n → (from_of (key_of r.map (r.byte + j)) ≤ i) × (i < upto_of (key_of r.map (r.byte + j)))
spans_at r i zero j e l = absurd (omega arith)
spans_at r i (suc n) j e l =
    let a = and_parts (nat_le (from_of (key_of r.map (r.byte + n))) i) (nat_lt i (upto_of (key_of r.map (r.byte + n))) && spans r i n) e in
    let b = and_parts (nat_lt i (upto_of (key_of r.map (r.byte + n)))) (spans r i n) a.1 in
    elim (cases_lt j n) [
      | inl lt ↦ spans_at r i n j b.1 lt
      | inr ge ↦ let same : n ≡ j = omega arith in subst (λ (k : ℕ). (from_of (key_of r.map (r.byte + k)) ≤ i) × (i < upto_of (key_of r.map (r.byte + k)))) same (leb-true _ _ a.0, ltb-true _ _ b.0)
    ]

indexed_at : (i : ℕ) (rows : List Row) (x : Row) (k : ℕ) → indexed i rows ≡ true → k < length rows → get_or rows k x ≡ x → spans x (i + k) x.span ≡ true
indexed_at i [] x k e l g = absurd (omega arith)
indexed_at i (r ∷ rs) x zero e l g =
    let a = and_parts (spans r i r.span) (indexed (suc i) rs) e in
    let same : i ≡ i + 0 = omega arith in
    subst (λ (j : ℕ). spans x j x.span ≡ true) same (subst (λ (q : Row). spans q i q.span ≡ true) g a.0)
indexed_at i (r ∷ rs) x (suc k) e l g =
    let a = and_parts (spans r i r.span) (indexed (suc i) rs) e in
    let same : suc i + k ≡ i + suc k = omega arith in
    subst (λ (j : ℕ). spans x j x.span ≡ true) same (indexed_at (suc i) rs x k a.1 (omega arith) g)

map_is : (a b : Map) → same_map a b ≡ true → a ≡ b
map_is One One e = refl
map_is Two Two e = refl
map_is One Two e = absurd cc
map_is Two One e = absurd cc

abbrev part : Head → List Row
part h = slice_range ROWS (from_of (key_of h.map h.byte)) (upto_of (key_of h.map h.byte))

part_has : (h : Head) (x : Row) → Contains ROWS x → takes x h ≡ true → Contains (part h) x
part_has h x (k, l, e) t =
    let p = takes_parts x h t in
    let s = indexed_at 0 ROWS x k rows_indexed l e in
    let j = h.byte - x.byte in
    let r = spans_at x (0 + k) x.span j s (omega (arith, p.low, p.high)) in
    let key : key_of x.map (x.byte + j) ≡ key_of h.map h.byte = ap (λ (m : Map). key_of m (x.byte + j)) (map_is x.map h.map p.map) ∙ ap (key_of h.map) (let q : x.byte + j ≡ h.byte = omega (arith, p.low) in q) in
    let f = from_of (key_of h.map h.byte) in
    let u = upto_of (key_of h.map h.byte) in
    let b : (f ≤ 0 + k) × (0 + k < u) = subst (λ (q : ℕ). (from_of q ≤ 0 + k) × (0 + k < upto_of q)) key r in
    let low : f ≤ k = omega (arith, b.0) in
    let high : k < u = omega (arith, b.1) in
    let short : k - f < u - f = omega arith in
    let back : f + (k - f) ≡ k = omega arith in
    (k - f, omega (arith, length-take (u - f) (drop f ROWS), length-drop f ROWS), get_or-take (u - f) (drop f ROWS) (k - f) x short ∙ get_or-drop f ROWS (k - f) x ∙ ap (λ (q : ℕ). get_or ROWS q x) back ∙ e)

has_part : (h : Head) (x : Row) → Contains (part h) x → Contains ROWS x
has_part h x (k, l, e) =
    let f = from_of (key_of h.map h.byte) in
    let u = upto_of (key_of h.map h.byte) in
    let n = length-take (u - f) (drop f ROWS) in
    let d = length-drop f ROWS in
    let short : k < u - f = omega arith in
    (f + k, omega arith, sym (get_or-take (u - f) (drop f ROWS) k x short ∙ get_or-drop f ROWS k x) ∙ e)

cases_option : {A : Type 0} (o : Option A) → ((a : A) × (o ≡ Some a)) ⊎ (o ≡ None)
cases_option None = inr refl
cases_option (Some a) = inl (a, refl)

some_none : (x : Row) → ◌≡◌ {A = Option Row} (Some x) None → {P : Type 0} → P
some_none x e = absurd cc

-- the row among those of the opcode is that of the table
pub found_in_part : (h : Head) (ms : List ℕ) → find (λ r. fits r h ms) (part h) ≡ row_for h ms
unfolding row_for
found_in_part h ms =
    elim (cases_option (find (λ r. fits r h ms) ROWS)) [
      | inl (x, e) ↦
          let s = find_some (λ r. fits r h ms) ROWS x e in
          find_only (λ r. fits r h ms) (part h) x (part_has h x s.1 (takes_from_fits h ms x s.0)) s.0 (λ y d f. one_row y x h ms (has_part h y d) s.1 f s.0) ∙ sym e
      | inr n ↦
          find_none (λ r. fits r h ms) (part h) (λ y d f. some_none y (sym (find_only (λ r. fits r h ms) ROWS y (has_part h y d) f (λ z c g. one_row z y h ms c (has_part h y d) g f)) ∙ n)) ∙ sym n
    ]

pub any_in_part : (h : Head) → list_any (λ r. takes r h) (part h) ≡ any_row h
unfolding any_row
any_in_part h =
    elim (cases_Bool (list_any (λ r. takes r h) ROWS)) [
      | inl t ↦
          let s = any_some (λ r. takes r h) ROWS t in
          any_from (λ r. takes r h) (part h) s.0 (part_has h s.0 s.1 s.2) s.2 ∙ sym t
      | inr f ↦ elim (cases_Bool (list_any (λ r. takes r h) (part h))) [
        | inl t ↦
            let s = any_some (λ r. takes r h) (part h) t in
            absurd (let bad : true ≡ false = sym (any_from (λ r. takes r h) ROWS s.0 (has_part h s.0 s.1) s.2) ∙ f in cc bad)
        | inr g ↦ g ∙ sym f
      ]
    ]
