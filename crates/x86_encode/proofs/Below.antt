-- Lists of bytes that are no longer, and no later where they are as long.
use Rattle.std.proofs.Common.{◌≡◌, ℕ, suc, ◌+◌, ◌≤◌, Bool, true, false, cond, List, [], ◌∷◌, ◌++◌, length, Option, Some, None, refl, sym, ap, subst, ◌∙◌, arith, ◌⊎◌, inl, inr}
use Rattle.std.specs.Prelude.{◌&&◌, ◌||◌, nat_lt, ◌==◌}
use Rattle.std.proofs.lemmas.Bool.{cases_lt, cases_eq, lt-ltb, and_from, and_parts, or_left, or_right, or_cases, eq-eqb, ne_eqb}
use Rattle.std.proofs.lemmas.List.{length-append}
use Rattle.x86_grammar.specs.declared.head.Prefixes.{Prefixes}
use Rattle.x86_grammar.specs.Rows.{no_prefix, add_prefix, clashes}
use Rattle.x86_grammar.specs.Grammar.{ArePrefixes}
use Rattle.x86_encode.specs.Order.{lex_le, before}
use Rattle.x86_encode.specs.Inside.Plain.{prefix_bytes}
use Rattle.x86_encode.proofs.Places.{lex_one}
use Rattle.x86_encode.proofs.Order.{lex_refl, before_same}

pub record Le (a b : List ℕ) : Type 0 where
  pub len : length a ≤ length b
  pub lex : length a ≡ length b → lex_le a b ≡ true

pub Le-same : (a b : List ℕ) → a ≡ b → Le a b
Le-same a b e = record { len = omega (arith, ap length e); lex = λ q. subst (λ (t : List ℕ). lex_le a t ≡ true) e (lex_refl a) }

lex_append : (a c b d : List ℕ) → length a ≡ length c → lex_le a c ≡ true → lex_le b d ≡ true → lex_le (a ++ b) (c ++ d) ≡ true
lex_append [] [] b d e p q = q
lex_append [] (y ∷ c) b d e p q = absurd (omega arith)
lex_append (x ∷ a) [] b d e p q = absurd (omega arith)
lex_append (x ∷ a) (y ∷ c) b d e p q =
    elim (or_cases (nat_lt x y) ((x == y) && lex_le a c) p) [
      | inl l ↦ or_left (nat_lt x y) ((x == y) && lex_le (a ++ b) (c ++ d)) l
      | inr r ↦
          let k : ((x == y) ≡ true) × (lex_le a c ≡ true) = and_parts (x == y) (lex_le a c) r in
          or_right (nat_lt x y) ((x == y) && lex_le (a ++ b) (c ++ d)) (and_from (x == y) (lex_le (a ++ b) (c ++ d)) k.0 (lex_append a c b d (omega arith) k.1 q))
    ]

pub Le-append : (a c b d : List ℕ) → Le a c → Le b d → Le (a ++ b) (c ++ d)
Le-append a c b d p q =
    let l1 = length-append a b in
    let l2 = length-append c d in
    let pl = p.len in
    let ql = q.len in
    record {
      len = omega arith;
      lex = λ e. let ea : length a ≡ length c = omega arith in let eb : length b ≡ length d = omega arith in lex_append a c b d ea (p.lex ea) (q.lex eb);
    }

pub Le-before : (a b : List ℕ) → Le a b → before a b ≡ true
Le-before a b p =
    let l = p.len in
    elim (cases_lt (length a) (length b)) [
      | inl lt ↦ or_left _ _ (lt-ltb _ _ lt)
      | inr ge ↦ let e : length a ≡ length b = omega arith in before_same a b e (p.lex e)
    ]

-- ---- prefixes

pub record Added (b : ℕ) (p q : Prefixes) : Type 0 where
  pub which : ((b ≡ 0x66) × (p.size ≡ false) × (q.size ≡ true) × (q.lock ≡ p.lock) × (q.rep ≡ p.rep)) ⊎ (((b ≡ 0xF0) × (p.lock ≡ false) × (q.lock ≡ true) × (q.size ≡ p.size) × (q.rep ≡ p.rep)) ⊎ ((b ≡ 0xF3) × (p.rep ≡ false) × (q.rep ≡ true) × (q.size ≡ p.size) × (q.lock ≡ p.lock)))

abbrev none_or : Bool → Prefixes → Option Prefixes
none_or t q = cond t None (Some q)

none_or_some : (t : Bool) (q r : Prefixes) → none_or t q ≡ Some r → (t ≡ false) × (q ≡ r)
none_or_some true q r e = absurd cc
none_or_some false q r e = (refl, cc)

abbrev nobody : Option Prefixes
nobody = None

pub added : (b : ℕ) (p q : Prefixes) → add_prefix b p ≡ Some q → Added b p q
unfolding add_prefix
added b p q e =
    elim (cases_eq b 0x66) [
      | inl s ↦
          let k = none_or_some p.size (record p { size = true }) q (sym (ap (λ (t : Bool). cond t (none_or p.size (record p { size = true })) (cond (b == 0xF0) (none_or p.lock (record p { lock = true })) (cond (b == 0xF3) (none_or p.rep (record p { rep = true })) None))) (eq-eqb b 0x66 s)) ∙ e) in
          record { which = inl (s, k.0, ap (λ (z : Prefixes). z.size) (sym k.1), ap (λ (z : Prefixes). z.lock) (sym k.1), ap (λ (z : Prefixes). z.rep) (sym k.1)) }
      | inr n ↦ elim (cases_eq b 0xF0) [
        | inl s ↦
            let k = none_or_some p.lock (record p { lock = true }) q (sym (ap (λ (t : Bool). cond t (none_or p.size (record p { size = true })) (cond (b == 0xF0) (none_or p.lock (record p { lock = true })) (cond (b == 0xF3) (none_or p.rep (record p { rep = true })) None))) (ne_eqb b 0x66 n) ∙ ap (λ (t : Bool). cond t (none_or p.lock (record p { lock = true })) (cond (b == 0xF3) (none_or p.rep (record p { rep = true })) None)) (eq-eqb b 0xF0 s)) ∙ e) in
            record { which = inr (inl (s, k.0, ap (λ (z : Prefixes). z.lock) (sym k.1), ap (λ (z : Prefixes). z.size) (sym k.1), ap (λ (z : Prefixes). z.rep) (sym k.1))) }
        | inr n2 ↦ elim (cases_eq b 0xF3) [
          | inl s ↦
              let k = none_or_some p.rep (record p { rep = true }) q (sym (ap (λ (t : Bool). cond t (none_or p.size (record p { size = true })) (cond (b == 0xF0) (none_or p.lock (record p { lock = true })) (cond (b == 0xF3) (none_or p.rep (record p { rep = true })) None))) (ne_eqb b 0x66 n) ∙ ap (λ (t : Bool). cond t (none_or p.lock (record p { lock = true })) (cond (b == 0xF3) (none_or p.rep (record p { rep = true })) None)) (ne_eqb b 0xF0 n2) ∙ ap (λ (t : Bool). cond t (none_or p.rep (record p { rep = true })) None) (eq-eqb b 0xF3 s)) ∙ e) in
              record { which = inr (inr (s, k.0, ap (λ (z : Prefixes). z.rep) (sym k.1), ap (λ (z : Prefixes). z.size) (sym k.1), ap (λ (z : Prefixes). z.lock) (sym k.1))) }
          | inr n3 ↦ absurd (let bad : nobody ≡ Some q = sym (ap (λ (t : Bool). cond t (none_or p.size (record p { size = true })) (cond (b == 0xF0) (none_or p.lock (record p { lock = true })) (cond (b == 0xF3) (none_or p.rep (record p { rep = true })) None))) (ne_eqb b 0x66 n) ∙ ap (λ (t : Bool). cond t (none_or p.lock (record p { lock = true })) (cond (b == 0xF3) (none_or p.rep (record p { rep = true })) None)) (ne_eqb b 0xF0 n2) ∙ ap (λ (t : Bool). cond t (none_or p.rep (record p { rep = true })) None) (ne_eqb b 0xF3 n3)) ∙ e in cc bad)
        ]
      ]
    ]

-- flags that stay
stays : (p q : Prefixes) (bs : List ℕ) → ArePrefixes p bs q → (p.size ≡ true → q.size ≡ true) × (p.lock ≡ true → q.lock ≡ true) × (p.rep ≡ true → q.rep ≡ true)
stays p q [] a = (λ t. ap (λ (z : Prefixes). z.size) (sym a) ∙ t, λ t. ap (λ (z : Prefixes). z.lock) (sym a) ∙ t, λ t. ap (λ (z : Prefixes). z.rep) (sym a) ∙ t)
stays p q (b ∷ bs) a =
    let k = stays a.0 q bs a.2 in
    elim (added b p a.0 a.1).which [
      | inl x ↦ (λ t. k.0 x.2, λ t. k.1 (x.3 ∙ t), λ t. k.2 (x.4 ∙ t))
      | inr y ↦ elim y [
        | inl x ↦ (λ t. k.0 (x.3 ∙ t), λ t. k.1 x.2, λ t. k.2 (x.4 ∙ t))
        | inr x ↦ (λ t. k.0 (x.3 ∙ t), λ t. k.1 (x.4 ∙ t), λ t. k.2 x.2)
      ]
    ]

abbrev one_of : Bool → ℕ
one_of true = 1
one_of false = 0

abbrev count_of : Prefixes → ℕ
count_of p = one_of p.size + one_of p.lock + one_of p.rep

flip : (t u : Bool) → t ≡ false → u ≡ true → one_of u ≡ one_of t + 1
flip t u e f = omega (arith, ap one_of e, ap one_of f)

prefixes_count : (bs : List ℕ) (p q : Prefixes) → ArePrefixes p bs q → length bs + count_of p ≡ count_of q
prefixes_count [] p q a = omega (arith, ap count_of a)
prefixes_count (b ∷ bs) p q a =
    let more = prefixes_count bs a.0 q a.2 in
    elim (added b p a.0 a.1).which [
      | inl x ↦ omega (arith, flip p.size a.0.size x.1 x.2, ap one_of x.3, ap one_of x.4)
      | inr y ↦ elim y [
        | inl x ↦ omega (arith, flip p.lock a.0.lock x.1 x.2, ap one_of x.3, ap one_of x.4)
        | inr x ↦ omega (arith, flip p.rep a.0.rep x.1 x.2, ap one_of x.3, ap one_of x.4)
      ]
    ]

plain_count : (s l r : Bool) → length (prefix_bytes s l r) ≡ one_of s + one_of l + one_of r
unfolding prefix_bytes
plain_count true true true = refl
plain_count true true false = refl
plain_count true false true = refl
plain_count true false false = refl
plain_count false true true = refl
plain_count false true false = refl
plain_count false false true = refl
plain_count false false false = refl

-- the first of some prefixes is one of theirs
first_is : (p q : Prefixes) (b : ℕ) (bs : List ℕ) → ArePrefixes p (b ∷ bs) q → ((b ≡ 0x66) × (q.size ≡ true)) ⊎ (((b ≡ 0xF0) × (q.lock ≡ true)) ⊎ ((b ≡ 0xF3) × (q.rep ≡ true)))
first_is p q b bs a =
    let k = stays a.0 q bs a.2 in
    elim (added b p a.0 a.1).which [
      | inl x ↦ inl (x.0, k.0 x.2)
      | inr y ↦ elim y [
        | inl x ↦ inr (inl (x.0, k.1 x.2))
        | inr x ↦ inr (inr (x.0, k.2 x.2))
      ]
    ]

differs : (t : Bool) → t ≡ true → t ≡ false → {P : Type 0} → P
differs t e f = absurd (let bad : true ≡ false = sym e ∙ f in cc bad)

-- one prefix
one_prefix : (q : Prefixes) (b : ℕ) (s l r : Bool) → ArePrefixes no_prefix (b ∷ []) q → q.size ≡ s → q.lock ≡ l → q.rep ≡ r → one_of s + one_of l + one_of r ≡ 1 → lex_le (prefix_bytes s l r) (b ∷ []) ≡ true
unfolding prefix_bytes
one_prefix q b true true true a x y z c = absurd (omega arith)
one_prefix q b true true false a x y z c = absurd (omega arith)
one_prefix q b true false true a x y z c = absurd (omega arith)
one_prefix q b false true true a x y z c = absurd (omega arith)
one_prefix q b false false false a x y z c = absurd (omega arith)
one_prefix q b true false false a x y z c =
    lex_one 0x66 b (elim (first_is no_prefix q b [] a) [ inl k ↦ omega (arith, k.0) | inr k ↦ elim k [ inl j ↦ omega (arith, j.0) | inr j ↦ omega (arith, j.0) ] ])
one_prefix q b false true false a x y z c =
    lex_one 0xF0 b (elim (first_is no_prefix q b [] a) [ inl k ↦ differs q.size k.1 x | inr k ↦ elim k [ inl j ↦ omega (arith, j.0) | inr j ↦ omega (arith, j.0) ] ])
one_prefix q b false false true a x y z c =
    lex_one 0xF3 b (elim (first_is no_prefix q b [] a) [ inl k ↦ differs q.size k.1 x | inr k ↦ elim k [ inl j ↦ differs q.lock j.1 y | inr j ↦ omega (arith, j.0) ] ])

-- two prefixes, 66 and F0
two_prefixes : (q : Prefixes) (b c : ℕ) → ArePrefixes no_prefix (b ∷ c ∷ []) q → q.rep ≡ false → lex_le (0x66 ∷ 0xF0 ∷ []) (b ∷ c ∷ []) ≡ true
two_prefixes q b c a z =
    elim (first_is no_prefix q b (c ∷ []) a) [
      | inl k ↦
          elim (added b no_prefix a.0 a.1).which [
            | inl x ↦ elim (added c a.0 a.2.0 a.2.1).which [
              | inl y ↦ differs a.0.size x.2 y.1
              | inr y ↦ elim y [
                | inl w ↦ or_right (nat_lt 0x66 b) ((0x66 == b) && lex_le (0xF0 ∷ []) (c ∷ [])) (and_from (0x66 == b) (lex_le (0xF0 ∷ []) (c ∷ [])) (eq-eqb 0x66 b (sym k.0)) (lex_one 0xF0 c (omega (arith, w.0))))
                | inr w ↦ or_right (nat_lt 0x66 b) ((0x66 == b) && lex_le (0xF0 ∷ []) (c ∷ [])) (and_from (0x66 == b) (lex_le (0xF0 ∷ []) (c ∷ [])) (eq-eqb 0x66 b (sym k.0)) (lex_one 0xF0 c (omega (arith, w.0))))
              ]
            ]
            | inr y ↦ elim y [ inl w ↦ absurd (omega (arith, k.0, w.0)) | inr w ↦ absurd (omega (arith, k.0, w.0)) ]
          ]
      | inr k ↦ or_left (nat_lt 0x66 b) ((0x66 == b) && lex_le (0xF0 ∷ []) (c ∷ [])) (lt-ltb 0x66 b (elim k [ inl j ↦ omega (arith, j.0) | inr j ↦ omega (arith, j.0) ]))
    ]

lex_nil : (l : List ℕ) → length l ≡ 0 → lex_le l [] ≡ true
lex_nil [] e = refl
lex_nil (x ∷ l) e = absurd (omega arith)

calm_one : (s l : Bool) → (s || l) ≡ false → (n : ℕ) → one_of s + one_of l + 1 ≡ suc (suc n) → ⊥
calm_one true l c n e = absurd cc
calm_one false true c n e = absurd cc
calm_one false false c n e = absurd (omega arith)

pair_is : (q : Prefixes) (b c : ℕ) → ArePrefixes no_prefix (b ∷ c ∷ []) q → q.rep ≡ false → lex_le (prefix_bytes true true false) (b ∷ c ∷ []) ≡ true
unfolding prefix_bytes
pair_is q b c a z = two_prefixes q b c a z

-- the prefixes of a spelling, in any order, against the same ones in ascending order
same_prefixes : (s l r : Bool) (q : Prefixes) (bs : List ℕ) → ArePrefixes no_prefix bs q → q.size ≡ s → q.lock ≡ l → q.rep ≡ r → (r && (s || l)) ≡ false → length (prefix_bytes s l r) ≡ length bs → lex_le (prefix_bytes s l r) bs ≡ true
same_prefixes s l r q [] a x y z c e = lex_nil (prefix_bytes s l r) e
same_prefixes s l r q (b ∷ []) a x y z c e = one_prefix q b s l r a x y z (sym (plain_count s l r) ∙ e)
same_prefixes true true false q (b ∷ d ∷ []) a x y z c e = pair_is q b d a z
same_prefixes s l true q (b ∷ d ∷ bs) a x y z c e = absurd (calm_one s l c (length bs) (sym (plain_count s l true) ∙ e))
same_prefixes true false false q (b ∷ d ∷ bs) a x y z c e = absurd (let k : 1 ≡ suc (suc (length bs)) = sym (plain_count true false false) ∙ e in omega arith)
same_prefixes false true false q (b ∷ d ∷ bs) a x y z c e = absurd (let k : 1 ≡ suc (suc (length bs)) = sym (plain_count false true false) ∙ e in omega arith)
same_prefixes false false false q (b ∷ d ∷ bs) a x y z c e = absurd (let k : 0 ≡ suc (suc (length bs)) = sym (plain_count false false false) ∙ e in omega arith)
same_prefixes true true false q (b ∷ d ∷ f ∷ bs) a x y z c e = absurd (let k : 2 ≡ suc (suc (suc (length bs))) = sym (plain_count true true false) ∙ e in omega arith)

one_le : (t u : Bool) → (t ≡ true → u ≡ true) → one_of t ≤ one_of u
one_le true u f = omega (arith, ap one_of (f refl))
one_le false u f = omega arith

one_same : (t u : Bool) → (t ≡ true → u ≡ true) → one_of t ≡ one_of u → u ≡ t
one_same true u f e = f refl
one_same false true f e = absurd (let bad : 0 ≡ 1 = e in omega arith)
one_same false false f e = refl

-- no prefixes that have the needed ones are below them in ascending order
pub prefixes_below : (s l r : Bool) (q : Prefixes) (bs : List ℕ) → ArePrefixes no_prefix bs q → (s ≡ true → q.size ≡ true) → (l ≡ true → q.lock ≡ true) → (r ≡ true → q.rep ≡ true) → clashes q ≡ false → Le (prefix_bytes s l r) bs
prefixes_below s l r q bs a x y z c =
    let n = prefixes_count bs no_prefix q a in
    let m = plain_count s l r in
    let x1 = one_le s q.size x in
    let y1 = one_le l q.lock y in
    let z1 = one_le r q.rep z in
    record {
      len = omega arith;
      lex = λ e.
          let s1 : one_of s ≡ one_of q.size = omega arith in
          let l1 : one_of l ≡ one_of q.lock = omega arith in
          let r1 : one_of r ≡ one_of q.rep = omega arith in
          let s2 = one_same s q.size x s1 in
          let l2 = one_same l q.lock y l1 in
          let r2 = one_same r q.rep z r1 in
          let calm : (r && (s || l)) ≡ false = subst (λ (u : Bool). (u && (s || l)) ≡ false) r2 (subst (λ (u : Bool). (q.rep && (u || l)) ≡ false) s2 (subst (λ (u : Bool). (q.rep && (q.size || u)) ≡ false) l2 c)) in
          same_prefixes s l r q bs a s2 l2 r2 calm e;
    }
