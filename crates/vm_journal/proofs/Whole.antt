-- A whole journal: what is read is its one spelling, and its spelling is read.
use Rattle.std.proofs.Common.{◌≡◌, inl, inr, ℕ, ◌+◌, ◌^◌, ◌<◌, ◌==◌, Bool, true, false, cond, List, [], ◌++◌, length, get_or, Result, Ok, Err, refl, sym, ap, ap₂, subst, ◌∙◌, arith, eqb-true}
use Rattle.std.specs.List.{flat_map, AllByRecursion}
use Rattle.std.proofs.lemmas.Bool.{cases_lt}
use Rattle.std.proofs.lemmas.List.Elements.{recursion_from_All}
use Rattle.std.proofs.lemmas.List.{get_or_default, nil_from_length, append-nil}
use Rattle.byte_reader.specs.declared.reading.Refusal.{Refusal}
use Rattle.vm_law.specs.declared.journal.Signed.{Signed}
use Rattle.byte_reader.specs.Reader.{Read, counted}
use Rattle.vm_law.proofs.Numbers.{IsBytes}
use Rattle.byte_reader.proofs.Readers.{Reads, done, with3_takes, with3_again}
use Rattle.byte_reader.proofs.Counted.{counted_reads}
use Rattle.vm_journal.specs.declared.fault.JournalKind.{JournalKind}
use Rattle.vm_journal.specs.declared.fault.JournalKind.TheVariants.{Gate, Magic, Short, Trailing}
use Rattle.byte_reader.specs.Fixed.{text_at, ended}
use Rattle.vm_journal.specs.Spelling.{qword, gate, magic, signed_bytes, spelling, FitsSigned, AreEntries}
use Rattle.vm_journal.specs.Reading.{signed_at, last, journal_at, whole}
use Rattle.byte_reader.proofs.Texts.{Any, text_reads}
use Rattle.vm_journal.proofs.Entries.{signed_reads}

abbrev counted_text : List Signed → List ℕ
counted_text journal = qword (length journal) ++ flat_map signed_bytes journal

entries_read : Reads (counted Short 8 signed_at) counted_text AreEntries
entries_read = counted_reads signed_at signed_bytes FitsSigned signed_reads Short 8

ended_ok : (read : Read (Refusal JournalKind) (List Signed)) (ys : List Signed) → ended Trailing read ≡ Ok ys → read ≡ Ok (ys, [])
ended_ok (Err d) ys e = absurd cc
ended_ok (Ok p) ys e = go (length p.1 == 0) refl e
  where
    go : (b : Bool) → (length p.1 == 0) ≡ b → cond {A = Result (List Signed) (Refusal JournalKind)} b (Ok p.0) (Err (record { left = length p.1; kind = Trailing })) ≡ Ok ys → done {E = Refusal JournalKind} p.0 p.1 ≡ done ys []
    go true is e =
        let none : p.1 ≡ [] = nil_from_length p.1 (eqb-true _ _ is) in
        let same_list : p.0 ≡ ys = cc in
        ap₂ (λ (xs : List Signed) (r : List ℕ). done xs r) same_list none
    go false is e = absurd cc

pub whole_takes : (bytes : List ℕ) (ys : List Signed) → IsBytes bytes → whole bytes ≡ Ok ys → AreEntries ys × (bytes ≡ spelling ys)
unfolding whole journal_at
whole_takes bytes ys fits e =
    let a = ended_ok (journal_at bytes) ys e in
    let m = with3_takes (text_at Short Gate gate) (λ _. gate) Any (text_reads Short Gate gate) (text_at Short Magic magic) (λ _. magic) Any (text_reads Short Magic magic) (counted Short 8 signed_at) counted_text AreEntries entries_read last bytes ys [] fits a in
    (rw m.is m.each_fits.2, rw m.is (m.front.parts ∙ append-nil _))

pub whole_again : (ys : List Signed) → AreEntries ys → whole (spelling ys) ≡ Ok ys
unfolding whole journal_at
whole_again ys fits =
    let all = with3_again (text_at Short Gate gate) (λ _. gate) Any (text_reads Short Gate gate) (text_at Short Magic magic) (λ _. magic) Any (text_reads Short Magic magic) (counted Short 8 signed_at) counted_text AreEntries entries_read last tt tt ys [] tt tt fits in
    let bare : journal_at (spelling ys) ≡ Ok (ys, []) = ap journal_at (sym (append-nil (spelling ys))) ∙ all in
    rw bare refl

-- ---- entries that a program holds

pub fits_one_more : (xs : List Signed) (i : ℕ) (s : Signed) → i < length xs → FitsSigned (get_or xs i s) → ((k : ℕ) (d : Signed) → k < i → FitsSigned (get_or xs k d)) → (k : ℕ) (d : Signed) → k < i + 1 → FitsSigned (get_or xs k d)
fits_one_more xs i s lt here below k d h = elim (cases_lt k i) [
  | inl less ↦ below k d less
  | inr above ↦
      let same : k ≡ i = omega arith in
      rw (same, get_or_default xs i d s lt) here
]

pub held_fit : (xs ys : List Signed) → xs ≡ ys → length ys < 256 ^ 8 → ((k : ℕ) (d : Signed) → k < length xs → FitsSigned (get_or xs k d)) → AreEntries ys
held_fit xs ys e short each = (short, subst (λ (zs : List Signed). AllByRecursion FitsSigned zs) e (recursion_from_All FitsSigned xs each))
