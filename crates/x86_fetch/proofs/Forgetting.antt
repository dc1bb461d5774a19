-- Places that are emptied.
use Rattle.std.proofs.Common.{◌≡◌, ℕ, ◌+◌, ◌-◌, ◌%◌, ◌<◌, ◌⊎◌, inl, inr, List, Option, Some, None, get_or, min, ap, sym, subst, ◌∙◌, refl, arith}
use Rattle.std.proofs.lemmas.Bool.{cases_lt}
use Rattle.x86_decode.specs.Reading.{decoded}
use Rattle.x86_fetch.specs.declared.table.Place.{Place}
use Rattle.x86_fetch.specs.Kept.{AreKept, IsKept, IsTable, IsPlaced, ChangesOnly, IsClear, IsEmptied, AreEmptied}
use Rattle.x86_fetch.proofs.Changes.{fetched_same}

abbrev Kept : Type 0
Kept = Option Place

pub emptied_none : (places : List Kept) → IsEmptied places places
emptied_none places = record { size = refl; each = λ k. inl refl }

pub emptied_more : (a b c : List Kept) → IsEmptied a b → IsEmptied b c → IsEmptied a c
emptied_more a b c first second = record {
  size = second.size ∙ first.size;
  each = λ k. elim (second.each k) [ inr none ↦ inr none | inl same ↦ elim (first.each k) [ inl was ↦ inl (same ∙ was) | inr none ↦ inr (same ∙ none) ] ];
}

-- a place that is clear stays so
pub clear_stays : (at n : ℕ) (p q : Kept) → IsClear at n p → (q ≡ p) ⊎ (q ≡ None) → IsClear at n q
clear_stays at n p q clear change = elim change [
  | inl same ↦ subst (λ (x : Kept). IsClear at n x) (sym same) clear
  | inr none ↦ subst (λ (x : Kept). IsClear at n x) (sym none) tt
]

pub table_stays : (old new : List Kept) → IsTable old → IsEmptied old new → IsTable new
table_stays old new table emptied = record {
  size = emptied.size ∙ table.size;
  placed = λ k. elim (emptied.each k) [
    | inl same ↦ subst (λ (x : Kept). IsPlaced k x) (sym same) (table.placed k)
    | inr none ↦ subst (λ (x : Kept). IsPlaced k x) (sym none) tt
  ];
}

-- one place more that is clear
pub gone_more : (at n start k number : ℕ) (old new : List Kept) → AreEmptied old new number at n → number ≡ (start + k) % 4096
    → ((j : ℕ) → j < k → IsClear at n (get_or old ((start + j) % 4096) None)) → (j : ℕ) → j < k + 1 → IsClear at n (get_or new ((start + j) % 4096) None)
gone_more at n start k number old new emptied is gone j lt =
    elim (cases_lt j k) [
      | inl less ↦ clear_stays at n (get_or old ((start + j) % 4096) None) (get_or new ((start + j) % 4096) None) (gone j less) (emptied.rest.each ((start + j) % 4096))
      | inr more ↦
          let same : number ≡ (start + j) % 4096 = (let e : j ≡ k = omega arith in is ∙ ap (λ (i : ℕ). (start + i) % 4096) (sym e)) in
          subst (λ (i : ℕ). IsClear at n (get_or new i None)) same emptied.clear
    ]

-- what is still kept of a place that is clear
kept_still : (old new : List ℕ) (at n : ℕ) → ChangesOnly old new at n → (p : Kept) → IsClear at n p → IsKept old p → IsKept new p
kept_still old new at n change None clear kept = tt
kept_still old new at n change (Some place) clear kept =
    record { spelled = ap (λ (bs : List ℕ). decoded bs) (fetched_same old new at n place.at change clear) ∙ kept.spelled; local = kept.local }

-- each place whose instruction may hold one of the bytes was looked at
all_clear : (at n start count k : ℕ) (places : List Kept) → start ≡ at - 14 → count ≡ min (at + n - start) 4096
    → ((j : ℕ) → j < count → IsClear at n (get_or places ((start + j) % 4096) None)) → (p : Kept) → get_or places k None ≡ p → IsPlaced k p → IsClear at n p
all_clear at n start count k places first many gone None is placed = tt
all_clear at n start count k places first many gone (Some place) is placed =
    elim (cases_lt at (place.at + 15)) [
      | inr before ↦ inl before
      | inl near ↦ elim (cases_lt place.at (at + n)) [
        | inr behind ↦ inr behind
        | inl inside ↦
            let j = (place.at - start) % 4096 in
            let there : (start + j) % 4096 ≡ k = omega arith in
            let clear : IsClear at n (get_or places ((start + j) % 4096) None) = gone j (omega arith) in
            subst (λ (x : Kept). IsClear at n x) (ap (λ (i : ℕ). get_or places i None) there ∙ is) clear
      ]
    ]

-- a table from which these instructions are gone is right for the new code
pub forgotten : (at n start count : ℕ) (before after : List Kept) → start ≡ at - 14 → count ≡ min (at + n - start) 4096 → IsTable before → IsEmptied before after
    → ((j : ℕ) → j < count → IsClear at n (get_or after ((start + j) % 4096) None)) → (old new : List ℕ) → AreKept old before → ChangesOnly old new at n → AreKept new after
forgotten at n start count before after first many table emptied gone old new kept change = record {
  each = λ k.
      let placed = (table_stays before after table emptied).placed k in
      let clear : IsClear at n (get_or after k None) = all_clear at n start count k after first many gone (get_or after k None) refl placed in
      let was : IsKept old (get_or after k None) = elim (emptied.each k) [
        | inl same ↦ subst (λ (x : Kept). IsKept old x) (sym same) (kept.each k)
        | inr none ↦ subst (λ (x : Kept). IsKept old x) (sym none) tt
      ] in
      kept_still old new at n change (get_or after k None) clear was;
}
