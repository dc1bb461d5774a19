-- A store moves on the versions of the pages of code that it touches, and leaves the bytes of the others.
use Rattle.std.specs.Prelude.{nat_le, ◌==◌, if◌then◌else◌, slice_index, min}
use Rattle.std.proofs.Common.{◌≡◌, ◌≢◌, ◌⊎◌, ℕ, ◌+◌, ◌-◌, ◌*◌, ◌/◌, ◌<◌, ◌≤◌, Bool, true, false, List, length, take, drop, get_or, refl, sym, subst, ◌∙◌, inl, inr, arith}
use Rattle.std.proofs.Math.ListN.{length-set}
use Rattle.std.proofs.lemmas.Bool.{cases_eq, cases_lt}
use Rattle.std.proofs.lemmas.Bool.Decides.{nat_tests}
use Rattle.std.proofs.lemmas.List.{ext_get_or, get_or_past, get_or-take, get_or-drop, get_or-set_same, get_or-set_other, length-take, length-drop}
use Rattle.x86_fetch.specs.Kept.{ChangesOnly}
use Rattle.x86_exec.specs.declared.effect.Stored.{Stored}
use Rattle.vm_state.specs.State.{one_more, page_count, touched}

abbrev pub page_in : List ℕ → ℕ → List ℕ
page_in code k = take 4096 (drop (4096 * k) code)

-- the version grew, or it stayed and so did the page
pub record PageStays (old new : List ℕ) (before now : List ℕ) (k : ℕ) : Type 0 where
  pub grows : slice_index old k ≤ slice_index new k
  pub stays : slice_index new k ≡ slice_index old k → page_in now k ≡ page_in before k

-- bytes that differ in none of a page
page_same : (before now : List ℕ) (k : ℕ) → length now ≡ length before → ((j : ℕ) → 4096 * k ≤ j → j < 4096 * k + 4096 → get_or now j 0 ≡ get_or before j 0) → page_in now k ≡ page_in before k
page_same before now k size same =
    let l : length (page_in now k) ≡ length (page_in before k) =
    omega (arith, length-take 4096 (drop (4096 * k) now), length-take 4096 (drop (4096 * k) before), length-drop (4096 * k) now, length-drop (4096 * k) before) in
    ext_get_or 0 (page_in now k) (page_in before k) l (λ i lt.
    let less : i < 4096 = omega (arith, length-take 4096 (drop (4096 * k) now)) in
    get_or-take 4096 (drop (4096 * k) now) i 0 less ∙ get_or-drop (4096 * k) now i 0 ∙ same (4096 * k + i) (omega arith) (omega arith)
    ∙ sym (get_or-drop (4096 * k) before i 0) ∙ sym (get_or-take 4096 (drop (4096 * k) before) i 0 less))

changed_page : (before now : List ℕ) (at n k : ℕ) → ChangesOnly before now at n → ((j : ℕ) → 4096 * k ≤ j → j < 4096 * k + 4096 → j < length before → (j < at) ⊎ (at + n ≤ j)) → page_in now k ≡ page_in before k
changed_page before now at n k c apart =
    page_same before now k c.size (λ j low high. elim (cases_lt j (length before)) [
      | inl less ↦ c.rest j (apart j low high less)
      | inr past ↦ (let size : length now ≡ length before = c.size in get_or_past now j 0 (omega arith) ∙ sym (get_or_past before j 0 past))
    ])

-- ---- versions

more_there : (xs : List ℕ) (page : ℕ) → page < length xs → get_or (one_more xs page) page 0 ≡ get_or xs page 0 + 1
more_there xs page l = get_or-set_same xs page (get_or xs page 0 + 1) 0 l

more_other : (xs : List ℕ) (page k : ℕ) → k ≢ page → get_or (one_more xs page) k 0 ≡ get_or xs k 0
more_other xs page k ne = get_or-set_other xs page k (get_or xs page 0 + 1) 0 ne

more_grows : (xs : List ℕ) (page k : ℕ) → page < length xs → get_or xs k 0 ≤ get_or (one_more xs page) k 0
more_grows xs page k l = elim (cases_eq k page) [
  | inl same ↦ subst (λ (n : ℕ). get_or xs n 0 ≤ get_or (one_more xs page) n 0) (sym same) (omega (arith, more_there xs page l))
  | inr other ↦ omega (arith, more_other xs page k other)
]

-- ---- a store below the code's end

unpaged : (first last at n size j k : ℕ) → first ≡ at / 4096 → last ≡ (min (at + n) size - 1) / 4096 → n ≤ 4096 → k ≢ first → k ≢ last → 4096 * k ≤ j → j < 4096 * k + 4096 → j < size → (j < at) ⊎ (at + n ≤ j)
unpaged first last at n size j k a b short ne me low high inside =
    elim (cases_lt j at) [
      | inl before ↦ inl before
      | inr from ↦ elim (cases_lt j (at + n)) [ inl under ↦ absurd (omega arith) | inr behind ↦ inr behind ]
    ]

one_page : (versions before now : List ℕ) (first at n size k : ℕ) → first < length versions → ChangesOnly before now at n → length before ≤ size → n ≤ 4096
    → first ≡ at / 4096 → first ≡ (min (at + n) size - 1) / 4096 → PageStays versions (one_more versions first) before now k
one_page versions before now first at n size k l c most short a b = record {
  grows = more_grows versions first k l;
  stays = λ e. elim (cases_eq k first) [
    | inl same ↦ absurd (let z : get_or (one_more versions first) first 0 ≡ get_or versions first 0 = subst (λ (p : ℕ). get_or (one_more versions first) p 0 ≡ get_or versions p 0) same e in omega (arith, more_there versions first l, z))
    | inr other ↦ changed_page before now at n k c (λ j low high inside. unpaged first first at n size j k a b short other other low high (omega (arith, inside, most)))
  ];
}

two_pages : (versions before now : List ℕ) (first last at n size k : ℕ) → first < length versions → last < length versions → ChangesOnly before now at n → length before ≤ size → n ≤ 4096
    → first ≡ at / 4096 → last ≡ (min (at + n) size - 1) / 4096 → PageStays versions (one_more (one_more versions first) last) before now k
two_pages versions before now first last at n size k l m c most short a b =
    let once = one_more versions first in
    let long : length once ≡ length versions = length-set versions first (get_or versions first 0 + 1) in
    let grew : get_or versions k 0 ≤ get_or once k 0 = more_grows versions first k l in
    let far : last < length once = omega arith in
    let again : get_or once k 0 ≤ get_or (one_more once last) k 0 = more_grows once last k far in
    record {
      grows = omega (arith, grew, again);
      stays = λ e. elim (cases_eq k first) [
        | inl same ↦ absurd (let z : get_or once k 0 ≡ get_or versions k 0 + 1 = subst (λ (p : ℕ). get_or once p 0 ≡ get_or versions p 0 + 1) (sym same) (more_there versions first l) in omega (arith, z, again, e))
        | inr other ↦ elim (cases_eq k last) [
          | inl same ↦ absurd (let z : get_or (one_more once last) k 0 ≡ get_or once k 0 + 1 = subst (λ (p : ℕ). get_or (one_more once last) p 0 ≡ get_or once p 0 + 1) (sym same) (more_there once last far) in omega (arith, z, grew, e))
          | inr another ↦ changed_page before now at n k c (λ j low high inside. unpaged first last at n size j k a b short other another low high (omega (arith, inside, most)))
        ]
      ];
    }

within_count : (at n size : ℕ) → at < size → (at / 4096 < page_count size) × ((min (at + n) size - 1) / 4096 < page_count size)
within_count at n size l = (omega arith, omega arith)

below_end : (versions before now : List ℕ) (at n size k : ℕ) (b : Bool) → length versions ≡ page_count size → ChangesOnly before now at n → length before ≤ size → n ≤ 4096 → at < size
    → (at / 4096 == (min (at + n) size - 1) / 4096) ≡ b
    → PageStays versions (if b then one_more versions (at / 4096) else one_more (one_more versions (at / 4096)) ((min (at + n) size - 1) / 4096)) before now k
below_end versions before now at n size k true pages c most short l e =
    let w = within_count at n size l in
    one_page versions before now (at / 4096) at n size k (omega (arith, pages, w.0)) c most short refl (grind (arith, nat_tests, e))
below_end versions before now at n size k false pages c most short l e =
    let w = within_count at n size l in
    two_pages versions before now (at / 4096) ((min (at + n) size - 1) / 4096) at n size k (omega (arith, pages, w.0)) (omega (arith, pages, w.1)) c most short refl refl

by_end : (versions before now : List ℕ) (r : Stored) (size k : ℕ) (b : Bool) → length versions ≡ page_count size → ChangesOnly before now r.at r.len → length before ≤ size → r.len ≤ 4096
    → nat_le size r.at ≡ b
    → PageStays versions (if b then versions else (if r.at / 4096 == (min (r.at + r.len) size - 1) / 4096 then one_more versions (r.at / 4096) else one_more (one_more versions (r.at / 4096)) ((min (r.at + r.len) size - 1) / 4096))) before now k
by_end versions before now r size k true pages c most short e =
    let far : size ≤ r.at = grind (arith, nat_tests, e) in
    record { grows = omega arith; stays = λ z. changed_page before now r.at r.len k c (λ j low high inside. inl (omega (arith, inside, most, far))) }
by_end versions before now r size k false pages c most short e =
    let near : r.at < size = grind (arith, nat_tests, e) in
    below_end versions before now r.at r.len size k _ pages c most short near refl

pub touched_stays : (versions before now : List ℕ) (r : Stored) (size k : ℕ) → length versions ≡ page_count size → ChangesOnly before now r.at r.len → length before ≤ size → r.len ≤ 4096
    → PageStays versions (touched versions size r) before now k
unfolding touched
touched_stays versions before now r size k pages c most short = by_end versions before now r size k _ pages c most short refl
