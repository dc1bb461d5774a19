-- What runs ahead goes by the pages that it looked at alone.
use Rattle.std.specs.Prelude.{◌&&◌, nat_lt, if◌then◌else◌, min}
use Rattle.std.specs.List.{flat_map, list_all, range_with_len}
use Rattle.std.proofs.Common.{◌≡◌, ◌⊎◌, ℕ, zero, suc, ◌+◌, ◌-◌, ◌*◌, ◌/◌, ◌%◌, ◌<◌, ◌≤◌, Bool, true, false, List, [], ◌∷◌, length, take, drop, get_or, refl, sym, ap, subst, ◌∙◌, inl, inr, arith}
use Rattle.std.proofs.lemmas.Bool.{cases_lt, and_parts, true≢false, lt-ltb}
use Rattle.std.proofs.lemmas.List.{ext_get_or, get_or_past, get_or-take, get_or-drop, length-take, length-drop}
use Rattle.std.proofs.lemmas.List.Folds.{list_all-append}
use Rattle.vm_law.specs.declared.context.Ctx.{Ctx}
use Rattle.x86_fetch.specs.Fetching.{is_local_next, fetched, next_decoded, next_of}
use Rattle.x86_fetch.specs.Slices.{after_next, all_local, stands_local, stepped, stepped_by}
use Rattle.x86_decode.specs.Reading.{decoded}
use Rattle.vm_table.specs.Rounds.{fetched_from, looked_at}

-- page k of the code, of 4,096 bytes; the last may be cut by the code's end
abbrev page_in : List ℕ → ℕ → List ℕ
page_in code k = take 4096 (drop (4096 * k) code)

-- the code now has a page as it was
abbrev pub Same : List ℕ → List ℕ → ℕ → Type 0
Same old now page = page_in now page ≡ page_in old page

byte_in : (code : List ℕ) (j : ℕ) → get_or (page_in code (j / 4096)) (j % 4096) 0 ≡ get_or code j 0
byte_in code j =
    let k = j / 4096 in
    let there : 4096 * k + j % 4096 ≡ j = omega arith in
    get_or-take 4096 (drop (4096 * k) code) (j % 4096) 0 (omega arith) ∙ get_or-drop (4096 * k) code (j % 4096) 0 ∙ ap (λ (i : ℕ). get_or code i 0) there

same_byte : (old now : List ℕ) (j : ℕ) → Same old now (j / 4096) → get_or now j 0 ≡ get_or old j 0
same_byte old now j h = sym (byte_in now j) ∙ ap (λ (xs : List ℕ). get_or xs (j % 4096) 0) h ∙ byte_in old j

-- a byte that is fetched is in one of the two pages
two : (at size j : ℕ) → at < size → at ≤ j → j < at + 15 → j < size → (j / 4096 ≡ at / 4096) ⊎ (j / 4096 ≡ (min (at + 15) size - 1) / 4096)
two at size j l low high inside =
    elim (cases_lt (j / 4096) (at / 4096 + 1)) [
      | inl here ↦ inl (omega arith)
      | inr there ↦ inr (omega arith)
    ]

abbrev pub BothSame : List ℕ → List ℕ → ℕ → Type 0
BothSame old now at = Same old now (at / 4096) × Same old now ((min (at + 15) (length old) - 1) / 4096)

fetched_byte : (old now : List ℕ) (at j : ℕ) → length now ≡ length old → at < length old → BothSame old now at → at ≤ j → j < at + 15 → get_or now j 0 ≡ get_or old j 0
fetched_byte old now at j size l h low high =
    elim (cases_lt j (length old)) [
      | inl inside ↦ (elim (two at (length old) j l low high inside) [
        | inl a ↦ same_byte old now j (subst (λ (k : ℕ). Same old now k) (sym a) h.0)
        | inr b ↦ same_byte old now j (subst (λ (k : ℕ). Same old now k) (sym b) h.1)
      ])
      | inr past ↦ get_or_past now j 0 (omega (arith, size, past)) ∙ sym (get_or_past old j 0 past)
    ]

fetched_same : (old now : List ℕ) (at : ℕ) → length now ≡ length old → (at < length old → BothSame old now at) → fetched now at ≡ fetched old at
fetched_same old now at size h =
    let l : length (fetched now at) ≡ length (fetched old at) =
    omega (arith, length-take 15 (drop at now), length-take 15 (drop at old), length-drop at now, length-drop at old) in
    ext_get_or 0 (fetched now at) (fetched old at) l (λ i lt.
    let less : i < 15 = omega (arith, length-take 15 (drop at now)) in
    let inside : at < length old = omega (arith, length-take 15 (drop at now), length-drop at now) in
    get_or-take 15 (drop at now) i 0 less ∙ get_or-drop at now i 0 ∙ fetched_byte old now at (at + i) size inside (h inside) (omega arith) (omega arith)
    ∙ sym (get_or-drop at old i 0) ∙ sym (get_or-take 15 (drop at old) i 0 less))

-- ---- what was looked at

-- each page passes a test that tells it is the same
module _ (old now : List ℕ) (P : ℕ → Bool) (tells : (page : ℕ) → P page ≡ true → Same old now page) (size : length now ≡ length old) (c : Ctx) where
  at_if : (at : ℕ) (b : Bool) → nat_lt at (length old) ≡ b → list_all P (if b then (at / 4096) ∷ ((min (at + 15) (length old) - 1) / 4096) ∷ [] else []) ≡ true → at < length old → BothSame old now at
  at_if at true e h l =
      let a = and_parts (P (at / 4096)) _ h in
      let b = and_parts (P ((min (at + 15) (length old) - 1) / 4096)) _ a.1 in
      (tells _ a.0, tells _ b.0)
  at_if at false e h l = absurd (true≢false (sym (lt-ltb at (length old) l) ∙ e))

  next_same : (d : Ctx) → list_all P (fetched_from (length old) d.rip) ≡ true → next_of now d ≡ next_of old d
  unfolding next_of
  next_same d h = ap (λ (bytes : List ℕ). next_decoded d (decoded bytes)) (fetched_same old now d.rip size (λ l. at_if d.rip _ refl h l))

  pub each_at : (a n k : ℕ) → list_all P (flat_map (looked_at old c) (range_with_len a n)) ≡ true → a ≤ k → k < a + n → list_all P (looked_at old c k) ≡ true
  each_at a zero k h low high = absurd (omega arith)
  each_at a (suc n) k h low high =
      let t = and_parts (list_all P (looked_at old c a)) _ (sym (list_all-append P (looked_at old c a) (flat_map (looked_at old c) (range_with_len (a + 1) n))) ∙ h) in
      elim (cases_lt a k) [
        | inl less ↦ each_at (a + 1) n k t.1 (omega arith) (omega arith)
        | inr more ↦ (let e : a ≡ k = omega arith in subst (λ (j : ℕ). list_all P (looked_at old c j) ≡ true) e t.0)
      ]

  -- so far as each fetch was looked at
  pub stepped_same : (k : ℕ) → ((j : ℕ) → j < k → list_all P (looked_at old c j) ≡ true) → stepped_by now c k ≡ stepped_by old c k
  unfolding stepped
  stepped_same zero h = refl
  stepped_same (suc k) h =
      let before = stepped_same k (λ j l. h j (omega (arith, l))) in
      ap (λ (d : Ctx). after_next d (next_of now d)) before ∙ ap (λ x. after_next (stepped_by old c k) x) (next_same (stepped_by old c k) (h k (omega arith)))

  pub local_same : (k : ℕ) → ((j : ℕ) → j < k → list_all P (looked_at old c j) ≡ true) → all_local now c k ≡ all_local old c k
  unfolding stands_local
  local_same zero h = refl
  local_same (suc k) h =
      let before = local_same k (λ j l. h j (omega (arith, l))) in
      let steps = stepped_same k (λ j l. h j (omega (arith, l))) in
      let last : stands_local now (stepped_by now c k) ≡ stands_local old (stepped_by old c k) = ap (λ (d : Ctx). stands_local now d) steps ∙ ap (λ x. is_local_next x) (next_same (stepped_by old c k) (h k (omega arith))) in
      ap (λ b. b && stands_local now (stepped_by now c k)) before ∙ ap (λ b. all_local old c k && b) last
