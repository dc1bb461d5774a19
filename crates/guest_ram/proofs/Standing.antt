-- Which pages stand after a write, and at the start.
use Rattle.std.proofs.Common.{◌≡◌, ℕ, ◌+◌, ◌-◌, ◌*◌, ◌/◌, ◌%◌, ◌≤◌, ◌<◌, ◌≢◌, Bool, true, false, List, length, get_or, set, replicate, ap, sym, ◌∙◌, subst, arith, refl, inl, inr}
use Rattle.std.specs.Prelude.{◌⊎◌, IsTrue}
use Rattle.std.proofs.lemmas.Bool.{cases_lt, false≢true}
use Rattle.std.proofs.lemmas.List.{length-replicate, get_or-replicate, get_or-set_same, get_or-set_other, length-set}
use Rattle.guest_ram.specs.GuestRam.{Stand}

-- equal or not
pub same_or_not : (a b : ℕ) → (a ≡ b) ⊎ (a ≢ b)
same_or_not a b =
    elim (cases_lt a b) [
      | inl lt ↦ inr (λ e. omega arith)
      | inr ge ↦ elim (cases_lt b a) [ inl lt ↦ inr (λ e. omega arith) | inr le ↦ inl (omega arith) ]
    ]

-- nothing was written
pub stand_same : (old : List Bool) (at : ℕ) → Stand old old at 0
stand_same old at = record { count = refl; pages = λ page lt. (λ h. inl h, λ h. elim h [ inl was ↦ was | inr holds ↦ absurd (omega (arith, holds.1)) ]) }

-- a piece was written into one page
pub stand_in : (old : List Bool) (at n : ℕ) → at / 4096 < length old → 0 < n → at % 4096 + n ≤ 4096 → Stand old (set old (at / 4096) true) at n
stand_in old at n lt some fits =
    let i = at / 4096 in
    record {
      count = length-set old i true;
      pages = λ page within. elim (same_or_not page i) [
        | inl same ↦
            let stands : get_or (set old i true) page false ≡ true = ap (λ (k : ℕ). get_or (set old i true) k false) same ∙ get_or-set_same old i true false lt in
            (λ h. inr (0, some, omega arith), λ h. subst (λ (b : Bool). IsTrue b) (sym stands) refl)
        | inr differs ↦
            let other : get_or (set old i true) page false ≡ get_or old page false = get_or-set_other old i page true false differs in (
              λ h. inl (subst (λ (b : Bool). IsTrue b) other h),
              λ h. elim h [
                | inl was ↦ subst (λ (b : Bool). IsTrue b) (sym other) was
                | inr holds ↦ absurd (differs (let e : (at + holds.0) / 4096 ≡ page = holds.2 in let l : holds.0 < n = holds.1 in omega arith))
              ],
            )
      ];
    }

-- one piece behind the other
pub stand_more : (old mid new : List Bool) (at h b t n : ℕ) → Stand old mid at h → Stand mid new b t → b ≡ at + h → n ≡ h + t → Stand old new at n
stand_more old mid new at h b t n first second next sum =
    let l1 : length mid ≡ length old = first.count in
    record {
      count = second.count ∙ first.count;
      pages = λ page within. (
        (λ s. elim ((second.pages page (omega arith)).0 s) [
          | inl was ↦ elim ((first.pages page within).0 was) [
            | inl before ↦ inl before
            | inr holds ↦ inr (holds.0, (let l : holds.0 < h = holds.1 in omega arith), holds.2)
          ]
          | inr holds ↦ inr (
            h + holds.0,
            (let l : holds.0 < t = holds.1 in omega arith),
            (let e : (b + holds.0) / 4096 ≡ page = holds.2 in let k : at + (h + holds.0) ≡ b + holds.0 = omega arith in ap (λ (m : ℕ). m / 4096) k ∙ e),
          )
        ]),
        (λ s. elim s [
          | inl before ↦ (second.pages page (omega arith)).1 (inl ((first.pages page within).1 (inl before)))
          | inr holds ↦ elim (cases_lt holds.0 h) [
            | inl lt ↦ (second.pages page (omega arith)).1 (inl ((first.pages page within).1 (inr (holds.0, lt, holds.2))))
            | inr ge ↦ (second.pages page (omega arith)).1 (inr (
              holds.0 - h,
              (let l : holds.0 < n = holds.1 in omega arith),
              (let e : (at + holds.0) / 4096 ≡ page = holds.2 in let k : b + (holds.0 - h) ≡ at + holds.0 = omega arith in ap (λ (m : ℕ). m / 4096) k ∙ e),
            ))
          ]
        ]),
      );
    }

-- at the start the first pages stand, as many as hold the payload
pub stand_first : (standing : List Bool) (count m n : ℕ) → length standing ≡ count
    → ((k : ℕ) → k < m → get_or standing k false ≡ true) → ((k : ℕ) → m ≤ k → get_or standing k false ≡ false)
    → n ≤ 4096 * m → 4096 * m < n + 4096 → Stand (replicate count false) standing 0 n
stand_first standing count m n size are not most least = record {
  count = size ∙ sym (length-replicate count false);
  pages = λ page within.
      let none : get_or (replicate count false) page false ≡ false = get_or-replicate count page false false (omega (arith, length-replicate count false)) in
      elim (cases_lt page m) [
        | inl lt ↦
            (λ h. inr (4096 * page, omega arith, omega arith), λ h. subst (λ (b : Bool). IsTrue b) (sym (are page lt)) refl)
        | inr ge ↦ (
          λ h. absurd (false≢true (subst (λ (b : Bool). IsTrue b) (not page ge) h)),
          λ h. elim h [
            | inl was ↦ absurd (false≢true (subst (λ (b : Bool). IsTrue b) none was))
            | inr holds ↦ absurd (let e : (0 + holds.0) / 4096 ≡ page = holds.2 in let l : holds.0 < n = holds.1 in omega arith)
          ],
        )
      ];
}
