-- Readers and what they read.
use Rattle.std.proofs.Common.{◌≡◌, ℕ, ◌+◌, ◌-◌, ◌<◌, ◌≤◌, Bool, false, cond, List, [], ◌++◌, length, take, drop, Option, Some, None, Ok, Err, refl, sym, ap, subst, ◌∙◌, arith, append_assoc, ◌⊎◌, inl, inr}
use Rattle.std.specs.Prelude.{nat_lt, replicate}
use Rattle.std.proofs.lemmas.Bool.{cases_lt, cases_Bool, le-ltb, ltb-true, ltb-false}
use Rattle.std.proofs.lemmas.List.{length-append, length-take, length-replicate, take-append-drop, take_at, drop_at, get_or-append-add, get_or_append_left, get_or-append_right, get_or-drop, get_or-take, get_or_past, get_or-replicate}
use Rattle.x86_decode.specs.declared.fault.DecodeFault.{DecodeFault}
use Rattle.x86_decode.specs.declared.fault.DecodeFault.TheVariants.{Short, Unknown}
use Rattle.byte_reader.specs.Reader.{Read, Reader, then_read, ◌>>=◌}
use Rattle.x86_decode.specs.Reading.{chunk, meant}
use Rattle.vm_law.specs.declared.insn.Insn.{Insn}
use Rattle.x86_grammar.specs.Grammar.{IsBytes}

-- ---- bytes

pub IsBytes-nil : IsBytes []
IsBytes-nil i = omega (arith, get_or_past {X = ℕ} [] i 0 (omega arith))

pub IsBytes-rest : (xs ys : List ℕ) → IsBytes (xs ++ ys) → IsBytes ys
IsBytes-rest xs ys h i = subst (λ z. z < 256) (get_or-append-add xs ys i 0) (h (length xs + i))

pub IsBytes-drop : (n : ℕ) (bs : List ℕ) → IsBytes bs → IsBytes (drop n bs)
IsBytes-drop n bs h i = rw get_or-drop (h (n + i))

pub IsBytes-take : (n : ℕ) (bs : List ℕ) → IsBytes bs → IsBytes (take n bs)
IsBytes-take n bs h i =
    elim (cases_lt i n) [
      | inl lt ↦ rw (get_or-take n bs i 0 lt) (h i)
      | inr le ↦ rw (get_or_past (take n bs) i 0 (omega (arith, length-take n bs))) (omega arith)
    ]

pub IsBytes-append : (xs ys : List ℕ) → IsBytes xs → IsBytes ys → IsBytes (xs ++ ys)
IsBytes-append xs ys h k i =
    elim (cases_lt i (length xs)) [
      | inl lt ↦ rw (get_or_append_left xs ys 0 i lt) (h i)
      | inr le ↦ rw (get_or-append_right xs ys (length xs) i 0 refl le) (k (i - length xs))
    ]

pub IsBytes-zeros : (n : ℕ) → IsBytes (replicate n 0)
IsBytes-zeros n i =
    elim (cases_lt i n) [
      | inl lt ↦ rw (get_or-replicate {A = ℕ} n i 0 0 lt) (omega arith)
      | inr le ↦ rw (get_or_past {X = ℕ} (replicate n 0) i 0 (omega (arith, length-replicate {A = ℕ} n 0))) (omega arith)
    ]

-- ---- readers

-- A reader reads what is spelled so. From left to right: there is a spelling; what it reads is one; what is
-- spelled so is read, whatever follows; where it wants more, some more would do; where it knows nothing, no
-- more would do.
pub record Reads {A : Type 0} (read : Reader DecodeFault A) (Spell : A → List ℕ → Type 0) : Type 0 where
  pub opens : (a : A) × (l : List ℕ) × IsBytes l × Spell a l
  pub sound : (bs : List ℕ) (x : A × List ℕ) → IsBytes bs → read bs ≡ Ok x → (front : List ℕ) × (bs ≡ front ++ x.1) × Spell x.0 front
  pub complete : (a : A) (front rest : List ℕ) → Spell a front → read (front ++ rest) ≡ Ok (a, rest)
  pub short : (bs : List ℕ) → IsBytes bs → read bs ≡ Err Short → (a : A) × (more : List ℕ) × IsBytes more × Spell a (bs ++ more)
  pub stable : (bs more : List ℕ) → IsBytes bs → read bs ≡ Err Unknown → read (bs ++ more) ≡ Err Unknown

-- one after the other
pub record Both {A B : Type 0} (P : A → List ℕ → Type 0) (Q : A → B → List ℕ → Type 0) (b : B) (l : List ℕ) : Type 0 where
  pub value : A
  pub front : List ℕ
  pub back : List ℕ
  pub parts : l ≡ front ++ back
  pub first : P value front
  pub second : Q value b back

pub bind_cases : {A B : Type 0} (r : Read DecodeFault A) (f : A → Reader DecodeFault B) (y : Read DecodeFault B) → then_read f r ≡ y → ((x : A × List ℕ) × (r ≡ Ok x) × (f x.0 x.1 ≡ y)) ⊎ ((e : DecodeFault) × (r ≡ Err e) × (◌≡◌ {A = Read DecodeFault B} (Err e) y))
bind_cases (Ok x) f y e = inl (x, refl, e)
bind_cases (Err d) f y e = inr (d, refl, e)

abbrev bad : {A : Type 0} → DecodeFault → Read DecodeFault A
bad e = Err e

same_err : {A : Type 0} (d e : DecodeFault) → bad {A = A} d ≡ bad e → d ≡ e
same_err d e h = cc

module _ {A B : Type 0} (p : Reader DecodeFault A) (q : A → Reader DecodeFault B) (P : A → List ℕ → Type 0) (Q : A → B → List ℕ → Type 0) (first : Reads p P) (second : (a : A) (l : List ℕ) → P a l → Reads (q a) (Q a)) where
  both_at : Reader DecodeFault B
  both_at = p >>= q

  -- more bytes stay behind what was read
  grows : (bs more : List ℕ) (x : A × List ℕ) → IsBytes bs → p bs ≡ Ok x → p (bs ++ more) ≡ Ok (x.0, x.1 ++ more)
  grows bs more x h e =
      let s = first.sound bs x h e in
      let again : p (s.0 ++ (x.1 ++ more)) ≡ Ok (x.0, x.1 ++ more) = first.complete x.0 s.0 (x.1 ++ more) s.2 in
      let whole : bs ++ more ≡ s.0 ++ (x.1 ++ more) = ap (λ (t : List ℕ). t ++ more) s.1 ∙ append_assoc s.0 x.1 more in
      ap p whole ∙ again

  both_opens : (b : B) × (l : List ℕ) × IsBytes l × Both P Q b l
  both_opens =
      let a = first.opens in
      let b = (second a.0 a.1 a.3).opens in
      (b.0, a.1 ++ b.1, IsBytes-append a.1 b.1 a.2 b.2, record { value = a.0; front = a.1; back = b.1; parts = refl; first = a.3; second = b.3 })

  both_sound : (bs : List ℕ) (y : B × List ℕ) → IsBytes bs → both_at bs ≡ Ok y → (front : List ℕ) × (bs ≡ front ++ y.1) × Both P Q y.0 front
  unfolding both_at
  both_sound bs y h e =
      elim (bind_cases (p bs) q (Ok y) e) [
        | inl (x, r, f) ↦
            let s = first.sound bs x h r in
            let rest : IsBytes x.1 = IsBytes-rest s.0 x.1 (subst (λ (t : List ℕ). IsBytes t) s.1 h) in
            let t = (second x.0 s.0 s.2).sound x.1 y rest f in
            (s.0 ++ t.0, s.1 ∙ ap (λ (u : List ℕ). s.0 ++ u) t.1 ∙ sym (append_assoc s.0 t.0 y.1), record { value = x.0; front = s.0; back = t.0; parts = refl; first = s.2; second = t.2 })
        | inr (d, r, f) ↦ absurd (cc f)
      ]

  both_complete : (b : B) (front rest : List ℕ) → Both P Q b front → both_at (front ++ rest) ≡ Ok (b, rest)
  unfolding both_at
  both_complete b front rest h =
      let whole : front ++ rest ≡ h.front ++ (h.back ++ rest) = ap (λ (t : List ℕ). t ++ rest) h.parts ∙ append_assoc h.front h.back rest in
      let one : p (front ++ rest) ≡ Ok (h.value, h.back ++ rest) = ap p whole ∙ first.complete h.value h.front (h.back ++ rest) h.first in
      let two : q h.value (h.back ++ rest) ≡ Ok (b, rest) = (second h.value h.front h.first).complete b h.back rest h.second in
      ap (λ (r : Read DecodeFault A). then_read q r) one ∙ two

  both_short : (bs : List ℕ) → IsBytes bs → both_at bs ≡ Err Short → (b : B) × (more : List ℕ) × IsBytes more × Both P Q b (bs ++ more)
  unfolding both_at
  both_short bs h e =
      elim (bind_cases (p bs) q (Err Short) e) [
        | inl (x, r, f) ↦
            let s = first.sound bs x h r in
            let rest : IsBytes x.1 = IsBytes-rest s.0 x.1 (subst (λ (t : List ℕ). IsBytes t) s.1 h) in
            let t = (second x.0 s.0 s.2).short x.1 rest f in
            let whole : bs ++ t.1 ≡ s.0 ++ (x.1 ++ t.1) = ap (λ (u : List ℕ). u ++ t.1) s.1 ∙ append_assoc s.0 x.1 t.1 in
            (t.0, t.1, t.2, record { value = x.0; front = s.0; back = x.1 ++ t.1; parts = whole; first = s.2; second = t.3 })
        | inr (d, r, f) ↦
            let is_short : p bs ≡ Err Short = r ∙ ap (λ (k : DecodeFault). bad k) (same_err {A = B} d Short f) in
            let s = first.short bs h is_short in
            let t = (second s.0 (bs ++ s.1) s.3).opens in
            (t.0, s.1 ++ t.1, IsBytes-append s.1 t.1 s.2 t.2, record { value = s.0; front = bs ++ s.1; back = t.1; parts = sym (append_assoc bs s.1 t.1); first = s.3; second = t.3 })
      ]

  both_stable : (bs more : List ℕ) → IsBytes bs → both_at bs ≡ Err Unknown → both_at (bs ++ more) ≡ Err Unknown
  unfolding both_at
  both_stable bs more h e =
      elim (bind_cases (p bs) q (Err Unknown) e) [
        | inl (x, r, f) ↦
            let s = first.sound bs x h r in
            let rest : IsBytes x.1 = IsBytes-rest s.0 x.1 (subst (λ (t : List ℕ). IsBytes t) s.1 h) in
            let t : q x.0 (x.1 ++ more) ≡ Err Unknown = (second x.0 s.0 s.2).stable x.1 more rest f in
            ap (λ (r : Read DecodeFault A). then_read q r) (grows bs more x h r) ∙ t
        | inr (d, r, f) ↦
            let is_unknown : p bs ≡ Err Unknown = r ∙ ap (λ (k : DecodeFault). bad k) (same_err {A = B} d Unknown f) in
            ap (λ (r : Read DecodeFault A). then_read q r) (first.stable bs more h is_unknown)
      ]

  pub both_reads : Reads (p >>= q) (Both P Q)
  unfolding both_at
  both_reads = record { opens = both_opens; sound = both_sound; complete = both_complete; short = both_short; stable = both_stable }

same_ok : {A : Type 0} (x y : A × List ℕ) → ◌≡◌ {A = Read DecodeFault A} (Ok x) (Ok y) → x ≡ y
same_ok x y e = cc

ok_err : {A : Type 0} (x : A × List ℕ) (d : DecodeFault) → ◌≡◌ {A = Read DecodeFault A} (Ok x) (Err d) → {P : Type 0} → P
ok_err x d e = absurd cc

-- ---- nothing more: what the parts mean

abbrev pub Means : Option Insn → Insn → List ℕ → Type 0
Means o insn l = (o ≡ Some insn) × (l ≡ [])

abbrev some_insn : Insn → Option Insn
some_insn i = Some i

meant_is : (o : Option Insn) (insn : Insn) (bs : List ℕ) → o ≡ Some insn → meant o bs ≡ Ok (insn, bs)
meant_is o insn bs e = ap (λ (p : Option Insn). meant p bs) e

pub meant_reads : (o : Option Insn) (insn : Insn) → o ≡ Some insn → Reads (meant o) (Means o)
meant_reads o insn is = record {
  opens = (insn, [], IsBytes-nil, (is, refl));
  sound = λ bs x h e. let s = same_ok (insn, bs) x (sym (meant_is o insn bs is) ∙ e) in ([], ap (λ (y : Insn × List ℕ). y.1) s, (is ∙ ap (λ (y : Insn × List ℕ). some_insn y.0) s, refl));
  complete = λ b front rest d. ap (λ (t : List ℕ). meant o (t ++ rest)) d.1 ∙ meant_is o b rest d.0;
  short = λ bs h e. ok_err (insn, bs) Short (sym (meant_is o insn bs is) ∙ e);
  stable = λ bs more h e. ok_err (insn, bs) Unknown (sym (meant_is o insn bs is) ∙ e);
}

-- ---- so many bytes

pub record IsChunk (n : ℕ) (l : List ℕ) (front : List ℕ) : Type 0 where
  pub same : front ≡ l
  pub size : length l ≡ n
  pub bytes : IsBytes l

chunk_cases : (n : ℕ) (bs : List ℕ) (y : Read DecodeFault (List ℕ)) → chunk n bs ≡ y → ((n ≤ length bs) × (◌≡◌ {A = Read DecodeFault (List ℕ)} (Ok (take n bs, drop n bs)) y)) ⊎ ((length bs < n) × (◌≡◌ {A = Read DecodeFault (List ℕ)} (Err Short) y))
chunk_cases n bs y e =
    elim (cases_Bool (nat_lt (length bs) n)) [
      | inl t ↦ inr (ltb-true _ _ t, sym (ap (λ (b : Bool). cond b (bad Short) (Ok (take n bs, drop n bs))) t) ∙ e)
      | inr f ↦ inl (ltb-false _ _ f, sym (ap (λ (b : Bool). cond b (bad Short) (Ok (take n bs, drop n bs))) f) ∙ e)
    ]

short_unknown : {A : Type 0} → ◌≡◌ {A = Read DecodeFault A} (Err Short) (Err Unknown) → {P : Type 0} → P
short_unknown e = absurd cc

chunk_sound : (n : ℕ) (bs : List ℕ) (x : List ℕ × List ℕ) → IsBytes bs → chunk n bs ≡ Ok x → (front : List ℕ) × (bs ≡ front ++ x.1) × IsChunk n x.0 front
chunk_sound n bs x h e =
    elim (chunk_cases n bs (Ok x) e) [
      | inl (le, k) ↦
          let s : (take n bs, drop n bs) ≡ x = same_ok (take n bs, drop n bs) x k in
          subst (λ (y : List ℕ × List ℕ). (front : List ℕ) × (bs ≡ front ++ y.1) × IsChunk n y.0 front) s
          (take n bs, sym (take-append-drop n bs), record { same = refl; size = omega (arith, length-take n bs); bytes = IsBytes-take n bs h })
      | inr (lt, k) ↦ absurd (cc k)
    ]

chunk_complete : (n : ℕ) (l front rest : List ℕ) → IsChunk n l front → chunk n (front ++ rest) ≡ Ok (l, rest)
chunk_complete n l front rest c =
    let long : nat_lt (length (l ++ rest)) n ≡ false = le-ltb _ _ (omega (arith, c.size, length-append l rest)) in
    let size = c.size in
    rw (c.same, long, take_at l rest n c.size, drop_at l rest n c.size) refl

chunk_short : (n : ℕ) (bs : List ℕ) → IsBytes bs → chunk n bs ≡ Err Short → (l : List ℕ) × (more : List ℕ) × IsBytes more × IsChunk n l (bs ++ more)
chunk_short n bs h e =
    elim (chunk_cases n bs (Err Short) e) [
      | inl (le, k) ↦ ok_err (take n bs, drop n bs) Short k
      | inr (lt, k) ↦
          let more : List ℕ = replicate (n - length bs) 0 in
          (bs ++ more, more, IsBytes-zeros (n - length bs), record { same = refl; size = omega (arith, length-append bs more, length-replicate {A = ℕ} (n - length bs) 0); bytes = IsBytes-append bs more h (IsBytes-zeros (n - length bs)) })
    ]

chunk_stable : (n : ℕ) (bs more : List ℕ) → IsBytes bs → chunk n bs ≡ Err Unknown → chunk n (bs ++ more) ≡ Err Unknown
chunk_stable n bs more h e =
    elim (chunk_cases n bs (Err Unknown) e) [
      | inl (le, k) ↦ ok_err (take n bs, drop n bs) Unknown k
      | inr (lt, k) ↦ short_unknown k
    ]

pub chunk_reads : (n : ℕ) → Reads (chunk n) (IsChunk n)
chunk_reads n = record {
  opens = let zeros : List ℕ = replicate n 0 in (zeros, zeros, IsBytes-zeros n, record { same = refl; size = length-replicate {A = ℕ} n 0; bytes = IsBytes-zeros n });
  sound = chunk_sound n;
  complete = chunk_complete n;
  short = chunk_short n;
  stable = chunk_stable n;
}
