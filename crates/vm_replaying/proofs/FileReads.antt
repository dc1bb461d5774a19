-- What a journal's file that isn't decoded says.
use Rattle.std.proofs.Common.{◌≡◌, ◌==◌, ℕ, zero, suc, ◌<◌, ◌≤◌, Bool, true, false, inl, inr, List, [], ◌∷◌, length, slice_get, Option, Some, None, Result, Ok, Err, IsSomeAnd, refl, ap, subst, sym, ◌∙◌, arith}
use Rattle.std.specs.Prelude.{nat_lt}
use Rattle.std.proofs.lemmas.Bool.{le-ltb}
use Rattle.std.proofs.lemmas.Bool.Decides.{nat_tests}
use Rattle.byte_reader.specs.declared.reading.Refusal.{Refusal as Fault}
use Rattle.byte_reader.specs.Fixed.{IsFault, text_at, same}
use Rattle.ckpt_store.specs.Loading.{IsGatedFront}
use Rattle.vm_host.specs.Told.{WhereTold}
use Rattle.vm_law.specs.declared.journal.Signed.{Signed}
use Rattle.vm_journal.specs.declared.fault.JournalKind.{JournalKind}
use Rattle.vm_journal.specs.declared.fault.JournalKind.TheVariants.{Gate}
use Rattle.vm_journal.specs.declared.fault.JournalError.{JournalError}
use Rattle.vm_journal.specs.declared.fault.JournalError.TheVariants as decoding
use Rattle.vm_journal.specs.Reading.{Answers, whole, journal_at}
use Rattle.vm_journal.specs.Spelling.{spelling, AreEntries}
use Rattle.vm_outcome.specs.Files as files
use Rattle.vm_outcome.specs.Files.{Unread, IsFileOf, IsRefusedAt}
use Rattle.vm_outcome.proofs.Unloaded.{there}
use Rattle.vm_replaying.specs.Files.{IsJournal, IsJournalFault, journal_kind}
use Rattle.vm_replaying.specs.Refusing.{after_decode}
use Rattle.vm_status.specs.declared.kind.Kind.TheVariants.{Long}
use Rattle.vm_status.specs.declared.role.Role.TheVariants as roles

pub long_is_no_journal : (bytes : List ℕ) (journal : List Signed) → 4294967296 < length bytes → IsJournal bytes journal → ⊥
long_is_no_journal bytes journal lt j = omega (arith, j.short)

pub long_is_journal_fault : (bytes : List ℕ) → 4294967296 < length bytes → IsJournalFault bytes 4294967296 Long
long_is_journal_fault bytes lt = inl (lt, refl, refl)

-- a journal's bytes begin with the gate that is open
journal_begins : (bytes : List ℕ) (journal : List Signed) → IsJournal bytes journal → slice_get bytes 0 ≡ Some 1
journal_begins bytes journal j = ap (λ (b : List ℕ). slice_get b 0) j.spelled

is_absent : (o : Option ℕ) → o ≡ None → o ≡ Some 1 → ⊥
is_absent o none one = let e : (Some 1 ≡ None) = sym one ∙ none in cc

-- a byte that isn't the gate that is open
is_other : (o : Option ℕ) (n : ℕ) → o ≡ Some n → (n ≡ 1 → ⊥) → o ≡ Some 1 → ⊥
is_other o n other not one = let e : Some n ≡ Some 1 = sym other ∙ one in not cc

no_gate : (file : List ℕ) → file ≡ [] → slice_get file 0 ≡ Some 1 → ⊥
no_gate file e one = is_absent (slice_get file 0) (ap (λ (b : List ℕ). slice_get b 0) e) one

other_gate : (file : List ℕ) (n : ℕ) (rest : List ℕ) → file ≡ n ∷ rest → (n ≡ 1 → ⊥) → slice_get file 0 ≡ Some 1 → ⊥
other_gate file n rest e not one = is_other (slice_get file 0) n (ap (λ (b : List ℕ). slice_get b 0) e) not one

-- what was read of a file behind a gate is the whole file where it begins with the gate that is open
gated_whole : (file bytes : List ℕ) → IsGatedFront file bytes → slice_get bytes 0 ≡ Some 1 → file ≡ bytes
gated_whole [] bytes front e = absurd (no_gate bytes (front.is_shut (no_gate [] refl)) e)
gated_whole (zero ∷ rest) bytes front e =
    absurd (other_gate bytes zero [] (front.is_shut (other_gate (zero ∷ rest) zero rest refl (λ z. omega (arith, z)))) (λ z. omega (arith, z)) e)
gated_whole (suc zero ∷ rest) bytes front e = sym (front.is_open refl)
gated_whole (suc (suc n) ∷ rest) bytes front e =
    absurd (other_gate bytes (suc (suc n)) [] (front.is_shut (other_gate (suc (suc n) ∷ rest) (suc (suc n)) rest refl (λ z. omega (arith, z)))) (λ z. omega (arith, z)) e)

not_one : (n : ℕ) → (suc (suc n) == 1) ≡ false
not_one n = grind (arith, nat_tests)

abbrev shut_err : List ℕ → Result (List Signed) (Fault JournalKind)
shut_err bytes = Err (record { left = length bytes; kind = Gate })

-- a gate that is shut is the fault of all that follows it
shut_whole : (b : ℕ) (rest : List ℕ) → (b == 1) ≡ false → whole (b ∷ rest) ≡ shut_err (b ∷ rest)
unfolding whole journal_at text_at same
shut_whole b rest shut =
    let long : nat_lt (length (b ∷ rest)) 1 ≡ false = le-ltb _ _ (omega arith) in
    rw (long, shut) refl

module _ (k : JournalKind) (at : ℕ) where
  shut_fault : (b : ℕ) (rest : List ℕ) → (b == 1) ≡ false → IsFault (length (b ∷ [])) at k (whole (b ∷ [])) → IsFault (length (b ∷ rest)) at k (whole (b ∷ rest))
  shut_fault b rest shut h =
      let first : IsFault (length (b ∷ [])) at k (shut_err (b ∷ [])) =
      subst (λ (r : Result (List Signed) (Fault JournalKind)). IsFault (length (b ∷ [])) at k r) (shut_whole b [] shut) h in
      subst (λ (r : Result (List Signed) (Fault JournalKind)). IsFault (length (b ∷ rest)) at k r) (sym (shut_whole b rest shut))
      (omega (arith, first.0), first.1)

  -- the fault of what was read of a file is the file's
  front_fault : (file bytes : List ℕ) → IsGatedFront file bytes → IsFault (length bytes) at k (whole bytes) → IsFault (length file) at k (whole file)
  front_fault [] bytes front h =
      subst (λ (l : List ℕ). IsFault (length l) at k (whole l)) (front.is_shut (no_gate [] refl)) h
  front_fault (zero ∷ rest) bytes front h =
      shut_fault zero rest refl
      (subst (λ (l : List ℕ). IsFault (length l) at k (whole l)) (front.is_shut (other_gate (zero ∷ rest) zero rest refl (λ z. omega (arith, z)))) h)
  front_fault (suc zero ∷ rest) bytes front h = subst (λ (l : List ℕ). IsFault (length l) at k (whole l)) (front.is_open refl) h
  front_fault (suc (suc n) ∷ rest) bytes front h =
      shut_fault (suc (suc n)) rest (not_one n)
      (subst (λ (l : List ℕ). IsFault (length l) at k (whole l)) (front.is_shut (other_gate (suc (suc n) ∷ rest) (suc (suc n)) rest refl (λ z. omega (arith, z)))) h)

module _ (told : Bool) (file : Option (List ℕ)) (bytes : List ℕ) (front : WhereTold told (IsSomeAnd file (λ f. IsGatedFront f bytes))) where
  pub gated_file : (journal : List Signed) → IsJournal bytes journal → IsFileOf told file IsJournal journal
  gated_file journal j = record {
    bytes = bytes;
    is_file = λ t. (let found = there file (λ f. IsGatedFront f bytes) (front t) in
        found.1 ∙ ap (λ (b : List ℕ). Some b) (gated_whole found.0 bytes found.2 (journal_begins bytes journal j)));
    means = j;
  }

  module _ (at : ℕ) (k : JournalKind) (none : (journal : List Signed) → IsJournal bytes journal → ⊥) (fault : IsFault (length bytes) at k (whole bytes)) where
    gated_refused : (t : Bool) → (t ≡ true → IsSomeAnd file (λ f. IsGatedFront f bytes)) → IsRefusedAt t file IsJournal IsJournalFault at (journal_kind k)
    gated_refused true told_front =
        let found = there file (λ f. IsGatedFront f bytes) (told_front refl) in
        record {
          bytes = found.0;
          is_file = λ _. found.1;
          none = λ journal j. none journal (subst (λ (b : List ℕ). IsJournal b journal) (sym (found.2.is_open (journal_begins found.0 journal j))) j);
          first = inr (k, front_fault k at found.0 bytes found.2 fault, refl);
        }
    gated_refused false told_front =
        record { bytes = bytes; is_file = λ t. absurd (let e : false ≡ true = t in cc); none = none; first = inr (k, fault, refl) }

    pub gated_nothing : IsRefusedAt told file IsJournal IsJournalFault at (journal_kind k)
    gated_nothing = gated_refused told front

  -- bytes that aren't decoded
  pub no_journal_read : (name : List ℕ) (e : JournalError)
      → ((journal : List Signed) → AreEntries journal → bytes ≡ spelling journal → Answers (length bytes) (Err e) (Ok journal))
      → Answers (length bytes) (Err e) (whole bytes)
      → Unread told file roles.Journal name IsJournal IsJournalFault (after_decode name e)
  no_journal_read name (decoding.Fault at k) only exact =
      files.bad at (journal_kind k) refl (gated_nothing at k (λ journal j. only journal j.fits j.spelled) exact)
  no_journal_read name decoding.Memory only exact = files.spent refl
