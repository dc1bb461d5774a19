-- The laws of each entry: what is read is spelled so, and what is spelled so is read again.
use Rattle.std.proofs.Common.{◌≡◌, ℕ, suc, ◌+◌, ◌==◌, Bool, true, false, cond, ltb, leb, ◌&&◌, ◌*◌, ◌%◌, List, [], ◌∷◌, ◌++◌, length, Ok, refl, subst, ◌∙◌, arith, eqb-true}
use Rattle.std.proofs.lemmas.Bool.{le-ltb}
use Rattle.vm_law.specs.declared.journal.EndCause.{EndCause}
use Rattle.vm_law.specs.declared.journal.EndCause.TheVariants.{Budget, Outside}
use Rattle.vm_law.specs.declared.journal.Entry.{Entry}
use Rattle.vm_law.specs.declared.journal.Entry.TheVariants.{Claim, Start, Enter, Slice, Step, Exit, Sleep, Wake, Yield, Turn, Meet, Pull, Begin, Move, Hold, Put, Finish, Feed, Wish, Done, End, Close, Tick}
use Rattle.byte_reader.specs.declared.reading.Refusal.{Refusal}
use Rattle.byte_reader.specs.Reader.{Read, Reader, with1, with2}
use Rattle.vm_law.proofs.Numbers.{IsBytes}
use Rattle.byte_reader.proofs.Readers.{Takes, Takes-then, Reads, Made, done, done_is, then_ok, number_reads, with1_takes, with1_again, with2_takes, with2_again, with3_takes, with3_again}
use Rattle.vm_journal.specs.declared.fault.JournalKind.{JournalKind}
use Rattle.vm_journal.specs.declared.fault.JournalKind.TheVariants.{Short}
use Rattle.vm_journal.specs.Spelling.{byte, word, dword, qword, flag, cause, entry_bytes, signed_bytes, IsByte, IsWord, IsDword, IsQword, FitsEntry, FitsSigned}
use Rattle.vm_journal.specs.Reading.{byte_at, word_at, dword_at, qword_at, flag_at, cause_at, vcpu_fields, disk_fields, run_fields, fields_at, entry_at, signed, signed_at}

-- one case of a chain of tests
by_test : {A : Type 0} (b : Bool) (x y : Read (Refusal JournalKind) A) (z : A) (rest : List ℕ) (P : Type 0) → cond b x y ≡ Ok (z, rest) → (b ≡ true → x ≡ Ok (z, rest) → P) → (b ≡ false → y ≡ Ok (z, rest) → P) → P
by_test true x y z rest P e hx hy = hx refl e
by_test false x y z rest P e hx hy = hy refl e

-- the same, of readers
by_reader : {A : Type 0} (b : Bool) (f g : Reader (Refusal JournalKind) A) (bytes : List ℕ) (z : A) (rest : List ℕ) (P : Type 0) → cond b f g bytes ≡ Ok (z, rest) → (b ≡ true → f bytes ≡ Ok (z, rest) → P) → (b ≡ false → g bytes ≡ Ok (z, rest) → P) → P
by_reader true f g bytes z rest P e hx hy = hx refl e
by_reader false f g bytes z rest P e hx hy = hy refl e

-- ---- fields

byte_reads : Reads byte_at byte IsByte
byte_reads = number_reads Short 1

word_reads : Reads word_at word IsWord
word_reads = number_reads Short 2

dword_reads : Reads dword_at dword IsDword
dword_reads = number_reads Short 4

qword_reads : Reads qword_at qword IsQword
qword_reads = number_reads Short 8

abbrev AnyFlag : Bool → Type 0
AnyFlag b = Unit {0}

abbrev AnyCause : EndCause → Type 0
AnyCause why = Unit {0}

flag_reads : Reads flag_at flag AnyFlag
unfolding flag_at
flag_reads = record {
  takes = λ bytes y rest fits e. takes bytes y rest fits e;
  again = λ y rest h. again y rest;
}
  where
    takes : (bytes : List ℕ) (y : Bool) (rest : List ℕ) → IsBytes bytes → flag_at bytes ≡ Ok (y, rest) → Takes bytes (flag y) rest × AnyFlag y
    takes [] y rest fits e = absurd cc
    takes (b ∷ bytes) y rest fits e = by_test (b == 0) _ _ y rest (Takes (b ∷ bytes) (flag y) rest × AnyFlag y) e
        (λ is f. let d = done_is false y bytes rest f in (record { parts = rw (eqb-true b 0 is, ← d.0, ← d.1) refl; rest_fits = rw (← d.1) (λ i. fits (suc i)) }, tt))
        (λ isnt f. by_test (b == 1) _ _ y rest (Takes (b ∷ bytes) (flag y) rest × AnyFlag y) f
        (λ is f. let d = done_is true y bytes rest f in (record { parts = rw (eqb-true b 1 is, ← d.0, ← d.1) refl; rest_fits = rw (← d.1) (λ i. fits (suc i)) }, tt))
        (λ isnt f. absurd cc))

    again : (y : Bool) (rest : List ℕ) → flag_at (flag y ++ rest) ≡ Ok (y, rest)
    again false rest = refl
    again true rest = refl

cause_reads : Reads cause_at cause AnyCause
unfolding cause_at
cause_reads = record {
  takes = λ bytes y rest fits e. takes bytes y rest fits e;
  again = λ y rest h. again y rest;
}
  where
    takes : (bytes : List ℕ) (y : EndCause) (rest : List ℕ) → IsBytes bytes → cause_at bytes ≡ Ok (y, rest) → Takes bytes (cause y) rest × AnyCause y
    takes [] y rest fits e = absurd cc
    takes (b ∷ bytes) y rest fits e = by_test (b == 1) _ _ y rest (Takes (b ∷ bytes) (cause y) rest × AnyCause y) e
        (λ is f. let d = done_is Budget y bytes rest f in (record { parts = rw (eqb-true b 1 is, ← d.0, ← d.1) refl; rest_fits = rw (← d.1) (λ i. fits (suc i)) }, tt))
        (λ isnt f. by_test (b == 2) _ _ y rest (Takes (b ∷ bytes) (cause y) rest × AnyCause y) f
        (λ is f. let d = done_is Outside y bytes rest f in (record { parts = rw (eqb-true b 2 is, ← d.0, ← d.1) refl; rest_fits = rw (← d.1) (λ i. fits (suc i)) }, tt))
        (λ isnt f. absurd cc))

    again : (y : EndCause) (rest : List ℕ) → cause_at (cause y ++ rest) ≡ Ok (y, rest)
    again Budget rest = refl
    again Outside rest = refl

-- ---- what is read behind a tag

abbrev Tagged : ℕ → List ℕ → Entry → List ℕ → Type 0
Tagged tag bytes y rest = (text : List ℕ) × (entry_bytes y ≡ tag ∷ text) × Takes bytes text rest × FitsEntry y

tagged : {X : Type 0} (make : X → Entry) (text : X → List ℕ) (fits : X → Type 0) (n : ℕ) → ((x : X) → entry_bytes (make x) ≡ n ∷ text x) → ((x : X) → fits x → FitsEntry (make x))
    → (tag : ℕ) (bytes : List ℕ) (y : Entry) (rest : List ℕ) → (tag == n) ≡ true → Made make text fits bytes y rest → Tagged tag bytes y rest
tagged make text fits n spelled fit tag bytes y rest is m = (text m.fields, rw (m.is, eqb-true tag n is) (spelled m.fields), m.front, rw m.is (fit m.fields m.each_fits))

no_field : (x : Entry) (n : ℕ) → entry_bytes x ≡ n ∷ [] → FitsEntry x
    → (tag : ℕ) (bytes : List ℕ) (y : Entry) (rest : List ℕ) → IsBytes bytes → (tag == n) ≡ true → done {E = Refusal JournalKind} x bytes ≡ Ok (y, rest) → Tagged tag bytes y rest
no_field x n spelled fit tag bytes y rest fits is f =
    let d = done_is x y bytes rest f in
    ([], rw (← d.0, eqb-true tag n is) spelled, record { parts = d.1; rest_fits = rw (← d.1) fits }, rw (← d.0) fit)

of_byte : (make : ℕ → Entry) (n : ℕ) → ((x : ℕ) → entry_bytes (make x) ≡ n ∷ byte x) → ((x : ℕ) → IsByte x → FitsEntry (make x))
    → (tag : ℕ) (bytes : List ℕ) (y : Entry) (rest : List ℕ) → IsBytes bytes → (tag == n) ≡ true → with1 make byte_at bytes ≡ Ok (y, rest) → Tagged tag bytes y rest
of_byte make n spelled fit tag bytes y rest fits is f = tagged make byte IsByte n spelled fit tag bytes y rest is (with1_takes byte_at byte IsByte byte_reads make bytes y rest fits f)

of_byte_word : (make : ℕ → ℕ → Entry) (n : ℕ) → ((x z : ℕ) → entry_bytes (make x z) ≡ n ∷ (byte x ++ word z)) → ((x z : ℕ) → IsByte x × IsWord z → FitsEntry (make x z))
    → (tag : ℕ) (bytes : List ℕ) (y : Entry) (rest : List ℕ) → IsBytes bytes → (tag == n) ≡ true → with2 make byte_at word_at bytes ≡ Ok (y, rest) → Tagged tag bytes y rest
of_byte_word make n spelled fit tag bytes y rest fits is f =
    tagged (λ (p : ℕ × ℕ). make p.0 p.1) (λ p. byte p.0 ++ word p.1) (λ p. IsByte p.0 × IsWord p.1) n (λ p. spelled p.0 p.1) (λ p h. fit p.0 p.1 h) tag bytes y rest is
    (with2_takes byte_at byte IsByte byte_reads word_at word IsWord word_reads make bytes y rest fits f)

of_byte_dword : (make : ℕ → ℕ → Entry) (n : ℕ) → ((x z : ℕ) → entry_bytes (make x z) ≡ n ∷ (byte x ++ dword z)) → ((x z : ℕ) → IsByte x × IsDword z → FitsEntry (make x z))
    → (tag : ℕ) (bytes : List ℕ) (y : Entry) (rest : List ℕ) → IsBytes bytes → (tag == n) ≡ true → with2 make byte_at dword_at bytes ≡ Ok (y, rest) → Tagged tag bytes y rest
of_byte_dword make n spelled fit tag bytes y rest fits is f =
    tagged (λ (p : ℕ × ℕ). make p.0 p.1) (λ p. byte p.0 ++ dword p.1) (λ p. IsByte p.0 × IsDword p.1) n (λ p. spelled p.0 p.1) (λ p h. fit p.0 p.1 h) tag bytes y rest is
    (with2_takes byte_at byte IsByte byte_reads dword_at dword IsDword dword_reads make bytes y rest fits f)

vcpu_fields_take : (tag : ℕ) (bytes : List ℕ) (y : Entry) (rest : List ℕ) → IsBytes bytes → vcpu_fields tag bytes ≡ Ok (y, rest) → Tagged tag bytes y rest
unfolding vcpu_fields
vcpu_fields_take tag bytes y rest fits e =
    by_reader (tag == 1) _ _ bytes y rest (Tagged tag bytes y rest) e
    (λ is f. of_byte Claim 1 (λ x. refl) (λ x h. h) tag bytes y rest fits is f)
    (λ isnt e. by_reader (tag == 2) _ _ bytes y rest (Tagged tag bytes y rest) e
    (λ is f. of_byte Start 2 (λ x. refl) (λ x h. h) tag bytes y rest fits is f)
    (λ isnt e. by_reader (tag == 3) _ _ bytes y rest (Tagged tag bytes y rest) e
    (λ is f. of_byte_word Enter 3 (λ x z. refl) (λ x z h. h) tag bytes y rest fits is f)
    (λ isnt e. by_reader (tag == 4) _ _ bytes y rest (Tagged tag bytes y rest) e
    (λ is f. of_byte_word Slice 4 (λ x z. refl) (λ x z h. h) tag bytes y rest fits is f)
    (λ isnt e. by_reader (tag == 5) _ _ bytes y rest (Tagged tag bytes y rest) e
    (λ is f. of_byte Step 5 (λ x. refl) (λ x h. h) tag bytes y rest fits is f)
    (λ isnt e. by_reader (tag == 6) _ _ bytes y rest (Tagged tag bytes y rest) e
    (λ is f. of_byte Exit 6 (λ x. refl) (λ x h. h) tag bytes y rest fits is f)
    (λ isnt e. by_reader (tag == 7) _ _ bytes y rest (Tagged tag bytes y rest) e
    (λ is f. of_byte Sleep 7 (λ x. refl) (λ x h. h) tag bytes y rest fits is f)
    (λ isnt e. by_reader (tag == 8) _ _ bytes y rest (Tagged tag bytes y rest) e
    (λ is f. of_byte Wake 8 (λ x. refl) (λ x h. h) tag bytes y rest fits is f)
    (λ isnt e. by_reader (tag == 9) _ _ bytes y rest (Tagged tag bytes y rest) e
    (λ is f. of_byte Yield 9 (λ x. refl) (λ x h. h) tag bytes y rest fits is f)
    (λ isnt e. by_reader (tag == 10) _ _ bytes y rest (Tagged tag bytes y rest) e
    (λ is f. of_byte Turn 10 (λ x. refl) (λ x h. h) tag bytes y rest fits is f)
    (λ isnt e. absurd cc))))))))))

disk_fields_take : (tag : ℕ) (bytes : List ℕ) (y : Entry) (rest : List ℕ) → IsBytes bytes → disk_fields tag bytes ≡ Ok (y, rest) → Tagged tag bytes y rest
unfolding disk_fields
disk_fields_take tag bytes y rest fits e =
    by_reader (tag == 12) _ _ bytes y rest (Tagged tag bytes y rest) e
    (λ is f. of_byte Pull 12 (λ x. refl) (λ x h. h) tag bytes y rest fits is f)
    (λ isnt e. by_reader (tag == 13) _ _ bytes y rest (Tagged tag bytes y rest) e
    (λ is f. of_byte_dword Begin 13 (λ x z. refl) (λ x z h. h) tag bytes y rest fits is f)
    (λ isnt e. by_reader (tag == 14) _ _ bytes y rest (Tagged tag bytes y rest) e
    (λ is f. of_byte_dword Move 14 (λ x z. refl) (λ x z h. h) tag bytes y rest fits is f)
    (λ isnt e. by_reader (tag == 15) _ _ bytes y rest (Tagged tag bytes y rest) e
    (λ is f. of_byte_dword Hold 15 (λ x z. refl) (λ x z h. h) tag bytes y rest fits is f)
    (λ isnt e. by_reader (tag == 16) _ _ bytes y rest (Tagged tag bytes y rest) e
    (λ is f. tagged (λ (p : ℕ × ℕ × Bool). Put p.0 p.1 p.2) _ _ 16 (λ x. refl) (λ x h. h) tag bytes y rest is (with3_takes byte_at byte IsByte byte_reads dword_at dword IsDword dword_reads flag_at flag AnyFlag flag_reads Put bytes y rest fits f))
    (λ isnt e. by_reader (tag == 17) _ _ bytes y rest (Tagged tag bytes y rest) e
    (λ is f. of_byte_dword Finish 17 (λ x z. refl) (λ x z h. h) tag bytes y rest fits is f)
    (λ isnt e. absurd cc))))))

run_fields_take : (tag : ℕ) (bytes : List ℕ) (y : Entry) (rest : List ℕ) → IsBytes bytes → run_fields tag bytes ≡ Ok (y, rest) → Tagged tag bytes y rest
unfolding run_fields
run_fields_take tag bytes y rest fits e =
    by_reader (tag == 11) _ _ bytes y rest (Tagged tag bytes y rest) e
    (λ is f. no_field Meet 11 refl tt tag bytes y rest fits is f)
    (λ isnt e. by_reader (tag == 18) _ _ bytes y rest (Tagged tag bytes y rest) e
    (λ is f. no_field Feed 18 refl tt tag bytes y rest fits is f)
    (λ isnt e. by_reader (tag == 19) _ _ bytes y rest (Tagged tag bytes y rest) e
    (λ is f. no_field Wish 19 refl tt tag bytes y rest fits is f)
    (λ isnt e. by_reader (tag == 20) _ _ bytes y rest (Tagged tag bytes y rest) e
    (λ is f. tagged Done _ _ 20 (λ x. refl) (λ x h. h) tag bytes y rest is (with1_takes word_at word IsWord word_reads Done bytes y rest fits f))
    (λ isnt e. by_reader (tag == 21) _ _ bytes y rest (Tagged tag bytes y rest) e
    (λ is f. tagged End _ _ 21 (λ x. refl) (λ x h. h) tag bytes y rest is (with1_takes cause_at cause AnyCause cause_reads End bytes y rest fits f))
    (λ isnt e. by_reader (tag == 22) _ _ bytes y rest (Tagged tag bytes y rest) e
    (λ is f. no_field Close 22 refl tt tag bytes y rest fits is f)
    (λ isnt e. by_reader (tag == 23) _ _ bytes y rest (Tagged tag bytes y rest) e
    (λ is f. tagged Tick _ _ 23 (λ x. refl) (λ x h. h) tag bytes y rest is (with1_takes qword_at qword IsQword qword_reads Tick bytes y rest fits f))
    (λ isnt e. absurd cc)))))))

fields_take : (tag : ℕ) (bytes : List ℕ) (y : Entry) (rest : List ℕ) → IsBytes bytes → fields_at tag bytes ≡ Ok (y, rest) → Tagged tag bytes y rest
unfolding fields_at
fields_take tag bytes y rest fits e =
    by_reader (leb tag 10) _ _ bytes y rest (Tagged tag bytes y rest) e (λ is f. vcpu_fields_take tag bytes y rest fits f)
    (λ isnt e. by_reader (leb 12 tag && leb tag 17) _ _ bytes y rest (Tagged tag bytes y rest) e (λ is f. disk_fields_take tag bytes y rest fits f)
    (λ isnt e. run_fields_take tag bytes y rest fits e))

-- ---- the entries

one_byte : (tag : ℕ) (bytes : List ℕ) → byte_at (tag ∷ bytes) ≡ Ok (tag, bytes)
one_byte tag bytes =
    let long : ltb (length (tag ∷ bytes)) 1 ≡ false = le-ltb _ _ (omega arith) in
    let e : tag + 256 * 0 ≡ tag = omega arith in
    rw (long, e) refl

behind_tag : (tag : ℕ) (bytes : List ℕ) → entry_at (tag ∷ bytes) ≡ fields_at tag bytes
unfolding entry_at
behind_tag tag bytes = rw (one_byte tag bytes) refl

entry_again : (y : Entry) (rest : List ℕ) → FitsEntry y → entry_at (entry_bytes y ++ rest) ≡ Ok (y, rest)
unfolding fields_at vcpu_fields disk_fields run_fields
entry_again (Claim cpu) rest h = behind_tag 1 _ ∙ with1_again byte_at byte IsByte byte_reads Claim cpu rest h
entry_again (Start cpu) rest h = behind_tag 2 _ ∙ with1_again byte_at byte IsByte byte_reads Start cpu rest h
entry_again (Enter cpu n) rest h = behind_tag 3 _ ∙ with2_again byte_at byte IsByte byte_reads word_at word IsWord word_reads Enter cpu n rest h.0 h.1
entry_again (Slice cpu n) rest h = behind_tag 4 _ ∙ with2_again byte_at byte IsByte byte_reads word_at word IsWord word_reads Slice cpu n rest h.0 h.1
entry_again (Step cpu) rest h = behind_tag 5 _ ∙ with1_again byte_at byte IsByte byte_reads Step cpu rest h
entry_again (Exit cpu) rest h = behind_tag 6 _ ∙ with1_again byte_at byte IsByte byte_reads Exit cpu rest h
entry_again (Sleep cpu) rest h = behind_tag 7 _ ∙ with1_again byte_at byte IsByte byte_reads Sleep cpu rest h
entry_again (Wake cpu) rest h = behind_tag 8 _ ∙ with1_again byte_at byte IsByte byte_reads Wake cpu rest h
entry_again (Yield cpu) rest h = behind_tag 9 _ ∙ with1_again byte_at byte IsByte byte_reads Yield cpu rest h
entry_again (Turn cpu) rest h = behind_tag 10 _ ∙ with1_again byte_at byte IsByte byte_reads Turn cpu rest h
entry_again Meet rest h = behind_tag 11 _
entry_again (Pull disk) rest h = behind_tag 12 _ ∙ with1_again byte_at byte IsByte byte_reads Pull disk rest h
entry_again (Begin disk id) rest h = behind_tag 13 _ ∙ with2_again byte_at byte IsByte byte_reads dword_at dword IsDword dword_reads Begin disk id rest h.0 h.1
entry_again (Move disk id) rest h = behind_tag 14 _ ∙ with2_again byte_at byte IsByte byte_reads dword_at dword IsDword dword_reads Move disk id rest h.0 h.1
entry_again (Hold disk id) rest h = behind_tag 15 _ ∙ with2_again byte_at byte IsByte byte_reads dword_at dword IsDword dword_reads Hold disk id rest h.0 h.1
entry_again (Put disk id ok) rest h = behind_tag 16 _ ∙ with3_again byte_at byte IsByte byte_reads dword_at dword IsDword dword_reads flag_at flag AnyFlag flag_reads Put disk id ok rest h.0 h.1 h.2
entry_again (Finish disk id) rest h = behind_tag 17 _ ∙ with2_again byte_at byte IsByte byte_reads dword_at dword IsDword dword_reads Finish disk id rest h.0 h.1
entry_again Feed rest h = behind_tag 18 _
entry_again Wish rest h = behind_tag 19 _
entry_again (Done k) rest h = behind_tag 20 _ ∙ with1_again word_at word IsWord word_reads Done k rest h
entry_again (End why) rest h = behind_tag 21 _ ∙ with1_again cause_at cause AnyCause cause_reads End why rest h
entry_again Close rest h = behind_tag 22 _
entry_again (Tick n) rest h = behind_tag 23 _ ∙ with1_again qword_at qword IsQword qword_reads Tick n rest h

entry_takes : (bytes : List ℕ) (y : Entry) (rest : List ℕ) → IsBytes bytes → entry_at bytes ≡ Ok (y, rest) → Takes bytes (entry_bytes y) rest × FitsEntry y
unfolding entry_at
entry_takes bytes y rest fits e =
    let s = then_ok (byte_at bytes) fields_at y rest e in
    let t = byte_reads.takes bytes s.0 s.1 fits s.2 in
    let f = fields_take s.0 s.1 y rest t.0.rest_fits s.3 in
    let all = Takes-then bytes (byte s.0) s.1 f.0 rest t.0 f.2 in
    let small : s.0 % 256 ≡ s.0 = omega (arith, t.1) in
    (rw f.1 (subst (λ (b : ℕ). Takes bytes (b ∷ f.0) rest) small all), f.3)

entry_reads : Reads entry_at entry_bytes FitsEntry
entry_reads = record { takes = entry_takes; again = entry_again }

pub signed_reads : Reads signed_at signed_bytes FitsSigned
unfolding signed_at
signed_reads = record {
  takes = λ bytes y rest fits e.
      let m = with2_takes word_at word IsWord word_reads entry_at entry_bytes FitsEntry entry_reads signed bytes y rest fits e in
      (rw m.is m.front, rw m.is m.each_fits);
  again = λ y rest h. with2_again word_at word IsWord word_reads entry_at entry_bytes FitsEntry entry_reads signed y.by y.entry rest h.0 h.1;
}
