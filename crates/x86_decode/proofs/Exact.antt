-- What decoding answers, from the laws of reading.
use Rattle.std.proofs.Common.{◌≡◌, ℕ, ◌+◌, ◌-◌, ◌≤◌, List, [], ◌++◌, length, take, drop, Result, Ok, Err, refl, sym, ap, subst, ◌∙◌, arith, append_assoc, ◌⊎◌, inl, inr}
use Rattle.std.specs.Prelude.{IfOk, ◌↔◌}
use Rattle.std.proofs.lemmas.Bool.{cases_lt}
use Rattle.std.proofs.lemmas.List.{append-nil, length-append, length-drop, take_at, take-append-drop, nil_from_length}
use Rattle.vm_law.specs.declared.insn.Insn.{Insn}
use Rattle.x86_decode.specs.declared.fault.DecodeFault.{DecodeFault}
use Rattle.x86_decode.specs.declared.fault.DecodeFault.TheVariants.{Short, Unknown}
use Rattle.byte_reader.specs.Reader.{Read, Reader, then_read, ◌>>=◌}
use Rattle.x86_decode.specs.Reading.{insn_at, sized}
use Rattle.x86_grammar.specs.Grammar.{IsBytes, Spelled, IsPartial, IsUnknown}
use Rattle.x86_decode.proofs.Whole.{insn_reads}
use Rattle.x86_decode.proofs.Lengths.{at_most_15}

-- what is read is at most 15 bytes, and what is left no more than there was
pub read_length : (bs : List ℕ) (x : Insn × List ℕ) → IsBytes bs → insn_at bs ≡ Ok x → (length x.1 ≤ length bs) × (length bs ≤ length x.1 + 15)
read_length bs x b e =
    let s = insn_reads.sound bs x b e in
    let n = at_most_15 s.0 x.0 s.2 in
    let l = ap length s.1 ∙ length-append s.0 x.1 in
    (omega arith, omega arith)

abbrev Answer : Type 0
Answer = Result (Insn × ℕ) DecodeFault

found_at : (bs : List ℕ) → IsBytes bs → (r : Read DecodeFault Insn) → insn_at bs ≡ r → IfOk (sized bs r) (λ x. (x.1 ≤ length bs) × Spelled (take x.1 bs) x.0)
found_at bs b (Err d) e = tt
found_at bs b (Ok x) e =
    let s = insn_reads.sound bs x b e in
    let l : length bs ≡ length s.0 + length x.1 = ap length s.1 ∙ length-append s.0 x.1 in
    let size : length s.0 ≡ length bs - length x.1 = omega arith in
    let front : take (length bs - length x.1) bs ≡ s.0 = ap (λ (t : List ℕ). take (length bs - length x.1) t) s.1 ∙ take_at s.0 x.1 (length bs - length x.1) size in
    (omega arith, subst (λ (t : List ℕ). Spelled t x.0) (sym front) s.2)

pub found : (bs : List ℕ) → IsBytes bs → IfOk (sized bs (insn_at bs)) (λ x. (x.1 ≤ length bs) × Spelled (take x.1 bs) x.0)
found bs b = found_at bs b (insn_at bs) refl

abbrev answer : Insn → ℕ → Answer
answer insn n = Ok (insn, n)

pub only : (bs : List ℕ) (insn : Insn) (n : ℕ) → n ≤ length bs → Spelled (take n bs) insn → sized bs (insn_at bs) ≡ Ok (insn, n)
only bs insn n le s =
    let c = insn_reads.complete insn (take n bs) (drop n bs) s in
    let whole : insn_at bs ≡ Ok (insn, drop n bs) = ap insn_at (sym (take-append-drop n bs)) ∙ c in
    let size : length bs - length (drop n bs) ≡ n = omega (arith, length-drop n bs) in
    ap (λ (r : Read DecodeFault Insn). sized bs r) whole ∙ ap (λ (k : ℕ). answer insn k) size

same_fault : (f d : DecodeFault) → ◌≡◌ {A = Answer} (Err f) (Err d) → ◌≡◌ {A = Read DecodeFault Insn} (Err f) (Err d)
same_fault f d e = cc

sized_short : (bs : List ℕ) (r : Read DecodeFault Insn) (d : DecodeFault) → sized bs r ≡ Err d → r ≡ Err d
sized_short bs (Ok x) d e = absurd cc
sized_short bs (Err f) d e = same_fault f d e

sized_err : (bs : List ℕ) (r : Read DecodeFault Insn) (d : DecodeFault) → r ≡ Err d → sized bs r ≡ Err d
sized_err bs r d e = ap (λ (r : Read DecodeFault Insn). sized bs r) e

cases_read : (r : Read DecodeFault Insn) → ((x : Insn × List ℕ) × (r ≡ Ok x)) ⊎ ((r ≡ Err Short) ⊎ (r ≡ Err Unknown))
cases_read (Ok x) = inl (x, refl)
cases_read (Err Short) = inr (inl refl)
cases_read (Err Unknown) = inr (inr refl)

ok_err : (r : Read DecodeFault Insn) (x : Insn × List ℕ) (d : DecodeFault) → r ≡ Ok x → r ≡ Err d → {P : Type 0} → P
ok_err r x d p q = absurd (let bad : ◌≡◌ {A = Read DecodeFault Insn} (Ok x) (Err d) = sym p ∙ q in cc bad)

short_unknown : (r : Read DecodeFault Insn) → r ≡ Err Short → r ≡ Err Unknown → {P : Type 0} → P
short_unknown r p q = absurd (let bad : ◌≡◌ {A = Read DecodeFault Insn} (Err Short) (Err Unknown) = sym p ∙ q in cc bad)

same_ok : (r : Read DecodeFault Insn) (x y : Insn × List ℕ) → r ≡ Ok x → r ≡ Ok y → x ≡ y
same_ok r x y p q = let e : ◌≡◌ {A = Read DecodeFault Insn} (Ok x) (Ok y) = sym p ∙ q in cc e

-- a whole spelling is read
whole : (bs : List ℕ) (insn : Insn) → Spelled bs insn → insn_at bs ≡ Ok (insn, [])
whole bs insn s = ap insn_at (sym (append-nil bs)) ∙ insn_reads.complete insn bs [] s

grows : (bs more : List ℕ) (x : Insn × List ℕ) → IsBytes bs → insn_at bs ≡ Ok x → insn_at (bs ++ more) ≡ Ok (x.0, x.1 ++ more)
grows bs more x b e =
    let s = insn_reads.sound bs x b e in
    ap insn_at (ap (λ (t : List ℕ). t ++ more) s.1 ∙ append_assoc s.0 x.1 more) ∙ insn_reads.complete x.0 s.0 (x.1 ++ more) s.2

partial_from : (bs : List ℕ) → IsBytes bs → insn_at bs ≡ Err Short → IsPartial bs
partial_from bs b e =
    let s = insn_reads.short bs b e in
    elim (cases_lt 0 (length s.1)) [
      | inl lt ↦ (s.1, s.0, lt, s.3)
      | inr le ↦
          let none : s.1 ≡ [] = nil_from_length s.1 (omega arith) in
          let all : bs ++ s.1 ≡ bs = ap (λ (t : List ℕ). bs ++ t) none ∙ append-nil bs in
          ok_err (insn_at bs) (s.0, []) Short (whole bs s.0 (subst (λ (t : List ℕ). Spelled t s.0) all s.3)) e
    ]

short_from : (bs : List ℕ) → IsBytes bs → IsPartial bs → insn_at bs ≡ Err Short
short_from bs b (more, insn, lt, s) =
    let all = whole (bs ++ more) insn s in
    elim (cases_read (insn_at bs)) [
      | inl (x, e) ↦
          let same = same_ok (insn_at (bs ++ more)) (x.0, x.1 ++ more) (insn, []) (grows bs more x b e) all in
          let l : length x.1 + length more ≡ 0 = sym (length-append x.1 more) ∙ ap (λ (y : Insn × List ℕ). length y.1) same in
          absurd (omega arith)
      | inr f ↦ elim f [
        | inl e ↦ e
        | inr e ↦ ok_err (insn_at (bs ++ more)) (insn, []) Unknown all (insn_reads.stable bs more b e)
      ]
    ]

unknown_from : (bs : List ℕ) → IsBytes bs → IsUnknown bs → insn_at bs ≡ Err Unknown
unknown_from bs b u =
    elim (cases_read (insn_at bs)) [
      | inl (x, e) ↦
          let s = insn_reads.sound bs x b e in
          let front : take (length s.0) bs ≡ s.0 = ap (λ (t : List ℕ). take (length s.0) t) s.1 ∙ take_at s.0 x.1 (length s.0) refl in
          absurd (u.no_front (length s.0) x.0 (subst (λ (t : List ℕ). Spelled t x.0) (sym front) s.2))
      | inr f ↦ elim f [
        | inl e ↦ absurd (u.no_partial (partial_from bs b e))
        | inr e ↦ e
      ]
    ]

is_unknown : (bs : List ℕ) → IsBytes bs → insn_at bs ≡ Err Unknown → IsUnknown bs
is_unknown bs b e = record {
  no_front = λ n insn s. ok_err (insn_at bs) (insn, drop n bs) Unknown (ap insn_at (sym (take-append-drop n bs)) ∙ insn_reads.complete insn (take n bs) (drop n bs) s) e;
  no_partial = λ p. short_unknown (insn_at bs) (short_from bs b p) e;
}

pub short : (bs : List ℕ) → IsBytes bs → (sized bs (insn_at bs) ≡ Err Short) ↔ IsPartial bs
short bs b = (λ e. partial_from bs b (sized_short bs (insn_at bs) Short e), λ p. sized_err bs (insn_at bs) Short (short_from bs b p))

pub unknown : (bs : List ℕ) → IsBytes bs → (sized bs (insn_at bs) ≡ Err Unknown) ↔ IsUnknown bs
unknown bs b = (λ e. is_unknown bs b (sized_short bs (insn_at bs) Unknown e), λ u. sized_err bs (insn_at bs) Unknown (unknown_from bs b u))

pub one : (bs more : List ℕ) (a b : Insn) → Spelled bs a → Spelled (bs ++ more) b → (more ≡ []) × (a ≡ b)
one bs more a b s t =
    let x = insn_reads.complete a bs more s in
    let y = whole (bs ++ more) b t in
    let same = same_ok (insn_at (bs ++ more)) (a, more) (b, []) x y in
    (ap (λ (p : Insn × List ℕ). p.1) same, ap (λ (p : Insn × List ℕ). p.0) same)
