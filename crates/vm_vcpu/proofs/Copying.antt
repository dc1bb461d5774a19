-- Copies that are renewed page by page.
use Rattle.std.proofs.Common.{◌≡◌, ℕ, ◌+◌, ◌*◌, ◌/◌, ◌-◌, ◌≤◌, ◌<◌, List, ◌++◌, length, take, drop, get_or, refl, sym, ap, subst, ◌∙◌, inl, inr, arith, length-append, length-drop}
use Rattle.std.specs.Prelude.{slice_index, slice_set}
use Rattle.std.proofs.Math.ListN.{length-set}
use Rattle.std.proofs.lemmas.Bool.{cases_eq, cases_lt}
use Rattle.std.proofs.lemmas.Grind.{get_or-set_at}
use Rattle.std.proofs.lemmas.List.{ext_get_or, get_or_past, get_or_append_left, get_or-append_right, get_or-take, get_or-drop, get_or-set_other, length-take, length-take-le}
use Rattle.vm_board.specs.Pages.{page_of}
use Rattle.vm_state.specs.Machine.{code_of}
use Rattle.vm_state.specs.State.{State}
use Rattle.vm_vcpu.specs.Copies.{AreCopies, AreRenewed, CopiesView, IsPageRenewed, replaced}

-- the pages below n are renewed, and the others are as they were
pub record RenewedBelow (s : State) (was c : CopiesView) (n : ℕ) : Type 0 where
  pub size : length c.code ≡ length (code_of s.machine)
  pub count : length c.versions ≡ length s.versions
  pub bytes : (j : ℕ) → j < 4096 * n → get_or c.code j 0 ≡ get_or (code_of s.machine) j 0
  pub others : (j : ℕ) → 4096 * n ≤ j → get_or c.code j 0 ≡ get_or was.code j 0
  pub versions : (k : ℕ) → k < n → get_or c.versions k 0 ≡ get_or s.versions k 0
  pub later : (k : ℕ) → n ≤ k → get_or c.versions k 0 ≡ get_or was.versions k 0

pub none_renewed : (s : State) (c : CopiesView) → AreCopies s c → RenewedBelow s c c 0
none_renewed s c a = record {
  size = a.size;
  count = a.count;
  bytes = λ j l. absurd (omega (arith, l));
  others = λ j l. refl;
  versions = λ k l. absurd (omega (arith, l));
  later = λ k l. refl;
}

-- the byte of a page
byte_at : (code : List ℕ) (n j : ℕ) → 4096 * n ≤ j → j < 4096 * n + 4096 → get_or (page_of code n) (j - 4096 * n) 0 ≡ get_or code j 0
byte_at code n j low high =
    let there : 4096 * n + (j - 4096 * n) ≡ j = omega (arith, low) in
    get_or-take 4096 (drop (4096 * n) code) (j - 4096 * n) 0 (omega (arith, low, high)) ∙ get_or-drop (4096 * n) code (j - 4096 * n) 0 ∙ ap (λ (i : ℕ). get_or code i 0) there

same_byte : (old now : List ℕ) (n j : ℕ) → page_of old n ≡ page_of now n → 4096 * n ≤ j → j < 4096 * n + 4096 → get_or old j 0 ≡ get_or now j 0
same_byte old now n j e low high = sym (byte_at old n j low high) ∙ ap (λ (xs : List ℕ). get_or xs (j - 4096 * n) 0) e ∙ byte_at now n j low high

-- a page that has its version is as it was copied
pub page_stands : (s : State) (was c : CopiesView) (n : ℕ) → AreCopies s was → get_or c.versions n 0 ≡ get_or s.versions n 0 → RenewedBelow s was c n → RenewedBelow s was c (n + 1)
page_stands s was c n a v r =
    let first : slice_index s.versions n ≡ slice_index was.versions n = sym v ∙ r.later n (omega arith) in
    record {
      size = r.size;
      count = r.count;
      bytes = λ j l. elim (cases_lt j (4096 * n)) [
        | inl less ↦ r.bytes j less
        | inr more ↦ r.others j more ∙ same_byte was.code (code_of s.machine) n j (a.pages n first) more (omega (arith, l))
      ];
      others = λ j l. r.others j (omega (arith, l));
      versions = λ k l. elim (cases_lt k n) [
        | inl less ↦ r.versions k less
        | inr more ↦ (let e : k ≡ n = omega (arith, l, more) in subst (λ (i : ℕ). get_or c.versions i 0 ≡ get_or s.versions i 0) (sym e) v)
      ];
      later = λ k l. r.later k (omega (arith, l));
    }

-- all have their versions
pub all_stand : (s : State) (c : CopiesView) → AreCopies s c → ((page : ℕ) → slice_index s.versions page ≡ slice_index c.versions page) → AreRenewed s c
all_stand s c a same = record {
  code = ext_get_or 0 c.code (code_of s.machine) a.size (λ j l. same_byte c.code (code_of s.machine) (j / 4096) j (a.pages (j / 4096) (same (j / 4096))) (omega arith) (omega arith));
  versions = ext_get_or 0 c.versions s.versions a.count (λ k l. sym (same k));
}

-- ---- a page that is replaced

front_length : (bytes piece : List ℕ) (at : ℕ) → at + length piece ≤ length bytes → length (take at bytes ++ piece) ≡ at + length piece
front_length bytes piece at le = omega (arith, length-append (take at bytes) piece, length-take-le at bytes (omega (arith, le)))

put_before : (bytes piece : List ℕ) (at k : ℕ) → at + length piece ≤ length bytes → k < at → get_or (replaced bytes at piece) k 0 ≡ get_or bytes k 0
put_before bytes piece at k le before =
    get_or_append_left (take at bytes ++ piece) (drop (at + length piece) bytes) 0 k (let f = front_length bytes piece at le in omega (arith, f, before))
    ∙ get_or_append_left (take at bytes) piece 0 k (omega (arith, length-take-le at bytes (omega (arith, le)), before))
    ∙ get_or-take at bytes k 0 before

put_within : (bytes piece : List ℕ) (at k : ℕ) → at + length piece ≤ length bytes → at ≤ k → k < at + length piece → get_or (replaced bytes at piece) k 0 ≡ get_or piece (k - at) 0
put_within bytes piece at k le low high =
    get_or_append_left (take at bytes ++ piece) (drop (at + length piece) bytes) 0 k (let f = front_length bytes piece at le in omega (arith, f, high))
    ∙ get_or-append_right (take at bytes) piece at k 0 (length-take-le at bytes (omega (arith, le))) low

put_behind : (bytes piece : List ℕ) (at k : ℕ) → at + length piece ≤ length bytes → at + length piece ≤ k → get_or (replaced bytes at piece) k 0 ≡ get_or bytes k 0
put_behind bytes piece at k le behind =
    let n = at + length piece in
    let there : n + (k - n) ≡ k = omega (arith, behind) in
    get_or-append_right (take at bytes ++ piece) (drop n bytes) n k 0 (front_length bytes piece at le) behind
    ∙ get_or-drop n bytes (k - n) 0 ∙ ap (λ (i : ℕ). get_or bytes i 0) there

put_length : (bytes piece : List ℕ) (at : ℕ) → at + length piece ≤ length bytes → length (replaced bytes at piece) ≡ length bytes
put_length bytes piece at le =
    let f = front_length bytes piece at le in
    omega (arith, f, le, length-append (take at bytes ++ piece) (drop (at + length piece) bytes), length-drop (at + length piece) bytes)

page_length : (code : List ℕ) (n : ℕ) → (length (page_of code n) ≤ 4096) × (length (page_of code n) < 4096 → length code ≤ 4096 * n + length (page_of code n))
page_length code n = (omega (arith, length-take 4096 (drop (4096 * n) code), length-drop (4096 * n) code), λ l. omega (arith, length-take 4096 (drop (4096 * n) code), length-drop (4096 * n) code, l))

-- the page fits where the code has so many bytes
pub page_inside : (code copy : List ℕ) (n : ℕ) → 4096 * n < length code → length copy ≡ length code → 4096 * n + length (page_of code n) ≤ length copy
page_inside code copy n l e = omega (arith, e, l, length-take 4096 (drop (4096 * n) code), length-drop (4096 * n) code)

pub page_renewed : (s : State) (was c d : CopiesView) (n : ℕ) → 4096 * n < length (code_of s.machine) → n < length c.versions → RenewedBelow s was c n
    → d.code ≡ replaced c.code (4096 * n) (page_of (code_of s.machine) n) → d.versions ≡ slice_set c.versions n (get_or s.versions n 0) → RenewedBelow s was d (n + 1)
page_renewed s was c d n inside within r e v =
    let code = code_of s.machine in
    let piece = page_of code n in
    let le = page_inside code c.code n inside r.size in
    let whole = page_length code n in
    let short = whole.0 in
    let size = r.size in
    record {
      size = ap (λ (xs : List ℕ). length xs) e ∙ put_length c.code piece (4096 * n) le ∙ r.size;
      count = ap (λ (xs : List ℕ). length xs) v ∙ length-set c.versions n _ ∙ r.count;
      bytes = λ j l. ap (λ (xs : List ℕ). get_or xs j 0) e ∙ elim (cases_lt j (4096 * n)) [
        | inl less ↦ put_before c.code piece (4096 * n) j le less ∙ r.bytes j less
        | inr more ↦ (elim (cases_lt j (4096 * n + length piece)) [
          | inl less ↦ put_within c.code piece (4096 * n) j le more less ∙ byte_at code n j more (omega (arith, l))
          | inr past ↦ (
              let end : length code ≤ j = (let f = whole.1 (omega (arith, l, past)) in omega (arith, f, past)) in
              put_behind c.code piece (4096 * n) j le past ∙ get_or_past c.code j 0 (omega (arith, size, end)) ∙ sym (get_or_past code j 0 end))
        ])
      ];
      others = λ j l. ap (λ (xs : List ℕ). get_or xs j 0) e ∙ put_behind c.code piece (4096 * n) j le (omega (arith, l, short)) ∙ r.others j (omega (arith, l));
      versions = λ k l. ap (λ (xs : List ℕ). get_or xs k 0) v ∙ elim (cases_eq k n) [
        | inl same ↦ get_or-set_at c.versions n k (get_or s.versions n 0) 0 same within ∙ ap (λ (i : ℕ). get_or s.versions i 0) (sym same)
        | inr other ↦ get_or-set_other c.versions n k (get_or s.versions n 0) 0 other ∙ r.versions k (let f = other in below k n l f)
      ];
      later = λ k l. ap (λ (xs : List ℕ). get_or xs k 0) v ∙ get_or-set_other c.versions n k (get_or s.versions n 0) 0 (λ same. absurd (omega (arith, l, same))) ∙ r.later k (omega (arith, l));
    } where
      below : (k n : ℕ) → k < n + 1 → (k ≡ n → ⊥) → k < n
      below k n l f = elim (cases_lt k n) [ inl less ↦ less | inr more ↦ absurd (f (omega (arith, l, more))) ]

-- either way
pub one_renewed : (s : State) (was c d : CopiesView) (n : ℕ) → AreCopies s was → 4096 * n < length (code_of s.machine) → n < length c.versions → RenewedBelow s was c n → IsPageRenewed s c d n → RenewedBelow s was d (n + 1)
one_renewed s was c d n a inside within r (inl t) = subst (λ (x : CopiesView). RenewedBelow s was x (n + 1)) (sym t.1) (page_stands s was c n a (sym t.0) r)
one_renewed s was c d n a inside within r (inr t) = page_renewed s was c d n inside within r t.0 t.1

-- all are renewed
pub all_renewed : (s : State) (was c : CopiesView) (n : ℕ) → length (code_of s.machine) ≤ 4096 * n → length c.versions ≤ n → RenewedBelow s was c n → AreRenewed s c
all_renewed s was c n bytes versions r =
    let size = r.size in
    record {
      code = ext_get_or 0 c.code (code_of s.machine) r.size (λ j l. r.bytes j (omega (arith, l, size, bytes)));
      versions = ext_get_or 0 c.versions s.versions r.count (λ k l. r.versions k (omega (arith, l, versions)));
    }
