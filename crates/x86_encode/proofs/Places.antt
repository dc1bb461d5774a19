-- The plain spelling of a place in memory is read back, and no spelling of it is before it.
use Rattle.std.proofs.Common.{◌≡◌, ℕ, zero, suc, ◌+◌, ◌*◌, ◌/◌, ◌%◌, ◌<◌, ◌≤◌, Bool, true, false, cond, List, [], ◌∷◌, length, Option, Some, None, refl, sym, ap, subst, ◌∙◌, arith, ◌⊎◌, inl, inr}
use Rattle.std.specs.Prelude.{◌^◌, ◌≢◌, ℤ, pos, ◌&&◌, nat_lt, nat_le, ◌==◌, slice_index}
use Rattle.std.specs.Int.{w8, w32, cast_unsigned, cast_signed, from_le_bytes}
use Rattle.std.proofs.lemmas.Bool.{cases_lt, cases_eq, cases_Bool, lt-ltb, le-ltb, lt-leb, eq-eqb, ne_eqb, and_from, and_left, and_right, leb-true, or_left, or_right}
use Rattle.std.proofs.lemmas.Bool.Decides.{nat_tests}
use Rattle.std.proofs.lemmas.Int.{of_z-to_z}
use Rattle.std.proofs.lemmas.Nat.{le_bytes_4}
use Rattle.std.proofs.lemmas.List.{nil_from_length, get_or_past}
use Rattle.x86_grammar.specs.declared.head.Rex.{Rex}
use Rattle.vm_law.specs.declared.insn.Mem.{Mem}
use Rattle.std.specs.Prelude.{not}
use Rattle.x86_encode.proofs.Total.{eight, rex_x, rex_base, sib_len, disp_len, base_field, short_signed_of, scale_of, base_of, address}
use Rattle.x86_grammar.specs.Grammar.{IsBytes}
use Rattle.x86_encode.specs.Order.{lex_le}
use Rattle.x86_encode.specs.Inside.Place.{Place, is_none, is_byte, fits_none, fits_byte, disp8, disp32, fewest_mode, fewest_bytes, scale_bits, no_index, with_index, place_of}

-- ---- displacements

-- one byte, there and back
pub byte_back : (a : ℕ) → a < 256 → cast_unsigned w32 (cast_signed w8 a) % 256 ≡ a
byte_back a lt = grind (arith, nat_tests)

pub byte_is_byte : (a : ℕ) → a < 256 → is_byte (cast_signed w8 a) ≡ true
byte_is_byte a lt = grind (arith, nat_tests)

pub one_signed : (a : ℕ) → short_signed_of (a ∷ []) ≡ cast_signed w8 a
unfolding short_signed_of
one_signed a = refl

pub none_signed : short_signed_of [] ≡ pos 0
unfolding short_signed_of
none_signed = refl

four_bytes : (a c d e : ℕ) (more : List ℕ) → IsBytes (a ∷ c ∷ d ∷ e ∷ more) → (i : ℕ) → slice_index (a ∷ c ∷ d ∷ e ∷ []) i < 256
four_bytes a c d e more b zero = b 0
four_bytes a c d e more b (suc zero) = b 1
four_bytes a c d e more b (suc (suc zero)) = b 2
four_bytes a c d e more b (suc (suc (suc zero))) = b 3
four_bytes a c d e more b (suc (suc (suc (suc i)))) = omega (arith, get_or_past {X = ℕ} [] i 0 (omega arith))

pub four_back : (l : List ℕ) → length l ≡ 4 → IsBytes l → disp32 (short_signed_of l) ≡ l
unfolding short_signed_of
four_back [] n b = absurd (omega arith)
four_back (a ∷ []) n b = absurd (omega arith)
four_back (a ∷ c ∷ []) n b = absurd (omega arith)
four_back (a ∷ c ∷ d ∷ []) n b = absurd (omega arith)
four_back (a ∷ c ∷ d ∷ e ∷ f ∷ more) n b = absurd (omega arith)
four_back (a ∷ c ∷ d ∷ e ∷ []) n b =
    let bound : from_le_bytes w32 (a ∷ c ∷ d ∷ e ∷ []) < 2 ^ 32 = omega (arith, b 0, b 1, b 2, b 3) in
    le_bytes_4 (a ∷ c ∷ d ∷ e ∷ []) (cast_unsigned w32 (cast_signed w32 (from_le_bytes w32 (a ∷ c ∷ d ∷ e ∷ [])))) refl (four_bytes a c d e [] b) (of_z-to_z w32 _ bound)

-- the displacement that stands behind a ModRM byte of mode field md, with a base field low
pub record IsDisp (lg : Bool) (md low : ℕ) (l : List ℕ) : Type 0 where
  pub none : md ≡ 0 → (length l ≡ 0) × (low ≢ 5)
  pub one : md ≡ 64 → length l ≡ 1
  pub four : md ≡ 128 → length l ≡ 4
  pub some : (md ≡ 0) ⊎ ((md ≡ 64) ⊎ (md ≡ 128))
  pub long : lg ≡ true → length l ≡ 4
  pub bytes : IsBytes l

record Fewest (lg : Bool) (md low : ℕ) (l : List ℕ) : Type 0 where
  shorter : length (fewest_bytes lg low (short_signed_of l)) ≤ length l
  same : length (fewest_bytes lg low (short_signed_of l)) ≡ length l → (fewest_mode lg low (short_signed_of l) ≡ md) × (fewest_bytes lg low (short_signed_of l) ≡ l)

abbrev pub nothing : List ℕ
nothing = []

pub fewest_none : (lg : Bool) → (low : ℕ) (d : ℤ) → (fits_none lg low d) ≡ true → (fewest_bytes lg low d ≡ []) × (fewest_mode lg low d ≡ 0)
unfolding fewest_bytes fewest_mode
fewest_none lg low d e = (ap (λ (t : Bool). cond t (nothing) (cond (fits_byte lg d) (disp8 d) (disp32 d))) e, ap (λ (t : Bool). cond t 0 (cond (fits_byte lg d) 64 128)) e)

pub fewest_one : (lg : Bool) → (low : ℕ) (d : ℤ) → (fits_none lg low d) ≡ false → fits_byte lg d ≡ true → (fewest_bytes lg low d ≡ disp8 d) × (fewest_mode lg low d ≡ 64)
unfolding fewest_bytes fewest_mode
fewest_one lg low d e f = (ap (λ (t : Bool). cond t nothing (cond (fits_byte lg d) (disp8 d) (disp32 d))) e ∙ ap (λ (t : Bool). cond t (disp8 d) (disp32 d)) f, ap (λ (t : Bool). cond t 0 (cond (fits_byte lg d) 64 128)) e ∙ ap (λ (t : Bool). cond t 64 128) f)

pub fewest_four : (lg : Bool) → (low : ℕ) (d : ℤ) → (fits_none lg low d) ≡ false → fits_byte lg d ≡ false → (fewest_bytes lg low d ≡ disp32 d) × (fewest_mode lg low d ≡ 128)
unfolding fewest_bytes fewest_mode
fewest_four lg low d e f = (ap (λ (t : Bool). cond t nothing (cond (fits_byte lg d) (disp8 d) (disp32 d))) e ∙ ap (λ (t : Bool). cond t (disp8 d) (disp32 d)) f, ap (λ (t : Bool). cond t 0 (cond (fits_byte lg d) 64 128)) e ∙ ap (λ (t : Bool). cond t 64 128) f)

zero_mode : (lg : Bool) → (md low : ℕ) (l : List ℕ) → IsDisp lg md low l → length l ≡ 0 → md ≡ 0
zero_mode lg md low l i z =
    elim i.some [
      | inl e ↦ e
      | inr o ↦ elim o [
        | inl e ↦ absurd (omega (arith, i.one e))
        | inr e ↦ absurd (omega (arith, i.four e))
      ]
    ]

-- a list that stands for a number other than none has bytes
pub not_none : (lg : Bool) → (md low : ℕ) (l : List ℕ) → IsDisp lg md low l → (fits_none lg low (short_signed_of l)) ≡ false → md ≢ 0
not_none lg md low l i n e =
    let k = i.none e in
    let z : l ≡ [] = nil_from_length l k.0 in
    let d : short_signed_of l ≡ pos 0 = ap short_signed_of z ∙ none_signed in
    let is : is_none (short_signed_of l) ≡ true = ap is_none d in
    let five : not (low == 5) ≡ true = ap not (ne_eqb low 5 k.1) in
    elim (cases_Bool lg) [
      | inl t ↦ omega (arith, i.long t, k.0)
      | inr f ↦ let shorter : not lg ≡ true = ap not f in let bad : true ≡ false = sym (and_from _ _ shorter (and_from _ _ is five)) ∙ n in cc bad
    ]

pub one_item : (l : List ℕ) → length l ≡ 1 → IsBytes l → (a : ℕ) × (l ≡ a ∷ []) × (a < 256)
one_item [] n b = absurd (omega arith)
one_item (a ∷ []) n b = (a, refl, b 0)
one_item (a ∷ c ∷ l) n b = absurd (omega arith)

one_fewest : (lg : Bool) → (md low : ℕ) (l : List ℕ) → IsDisp lg md low l → (fits_none lg low (short_signed_of l)) ≡ false → fewest_bytes lg low (short_signed_of l) ≡ disp8 (short_signed_of l) → fewest_mode lg low (short_signed_of l) ≡ 64 → Fewest lg md low l
one_fewest lg md low l i n f g =
    let size : length (fewest_bytes lg low (short_signed_of l)) ≡ 1 = ap length f in
    elim i.some [
      | inl e ↦ absurd (not_none lg md low l i n e)
      | inr o ↦ elim o [
        | inl e ↦
            let k = one_item l (i.one e) i.bytes in
            let d : short_signed_of l ≡ cast_signed w8 k.0 = ap short_signed_of k.1 ∙ one_signed k.0 in
            record { shorter = omega (arith, i.one e); same = λ q. (g ∙ sym e, f ∙ ap disp8 d ∙ ap (λ (a : ℕ). a ∷ []) (byte_back k.0 k.2) ∙ sym k.1) }
        | inr e ↦ record { shorter = omega (arith, i.four e); same = λ q. absurd (omega (arith, i.four e)) }
      ]
    ]

four_fewest : (lg : Bool) → (md low : ℕ) (l : List ℕ) → IsDisp lg md low l → (fits_none lg low (short_signed_of l)) ≡ false → fits_byte lg (short_signed_of l) ≡ false → fewest_bytes lg low (short_signed_of l) ≡ disp32 (short_signed_of l) → fewest_mode lg low (short_signed_of l) ≡ 128 → Fewest lg md low l
four_fewest lg md low l i n m f g =
    elim i.some [
      | inl e ↦ absurd (not_none lg md low l i n e)
      | inr o ↦ elim o [
        | inl e ↦
            let k = one_item l (i.one e) i.bytes in
            let d : short_signed_of l ≡ cast_signed w8 k.0 = ap short_signed_of k.1 ∙ one_signed k.0 in
            elim (cases_Bool lg) [
              | inl t ↦ absurd (omega (arith, i.long t, i.one e))
              | inr q ↦ absurd (let shorter : not lg ≡ true = ap not q in let fit : is_byte (short_signed_of l) ≡ true = ap is_byte d ∙ byte_is_byte k.0 k.2 in let bad : true ≡ false = sym (and_from _ _ shorter fit) ∙ m in cc bad)
            ]
        | inr e ↦
            let back = four_back l (i.four e) i.bytes in
            record { shorter = omega (arith, i.four e, ap length f, ap length back); same = λ q. (g ∙ sym e, f ∙ back) }
      ]
    ]

fewest : (lg : Bool) → (md low : ℕ) (l : List ℕ) → IsDisp lg md low l → Fewest lg md low l
fewest lg md low l i =
    let d = short_signed_of l in
    elim (cases_Bool (fits_none lg low d)) [
      | inl t ↦
          let f = fewest_none lg low d t in
          record {
            shorter = omega (arith, ap length f.0);
            same = λ e. let z : length l ≡ 0 = sym e ∙ ap length f.0 in (f.1 ∙ sym (zero_mode lg md low l i z), f.0 ∙ sym (nil_from_length l z));
          }
      | inr n ↦ elim (cases_Bool (fits_byte lg d)) [
        | inl t ↦ let f = fewest_one lg low d n t in one_fewest lg md low l i n f.0 f.1
        | inr m ↦ let f = fewest_four lg low d n m in four_fewest lg md low l i n m f.0 f.1
      ]
    ]

-- ---- places

-- the plain form asks no more than this spelling of the place has, and no later byte where it is as long
pub record Below (pl : Place) (rex : Option Rex) (m : ℕ) (sib disp : List ℕ) : Type 0 where
  pub sib_le : length pl.sib ≤ length sib
  pub disp_le : length pl.disp ≤ length disp
  pub x : pl.x ≡ true → 8 ≤ rex_x rex
  pub b : pl.b ≡ true → 8 ≤ rex_base rex
  pub same : length pl.sib ≡ length sib → length pl.disp ≡ length disp → (pl.mode ≡ m / 64 * 64 + m % 8) × (lex_le pl.sib sib ≡ true) × (pl.disp ≡ disp)

eight_cases : (t : Bool) → (eight t ≡ 0) ⊎ (eight t ≡ 8)
eight_cases true = inr refl
eight_cases false = inl refl

pub x_cases : (rex : Option Rex) → (rex_x rex ≡ 0) ⊎ (rex_x rex ≡ 8)
x_cases None = inl refl
x_cases (Some r) = eight_cases r.x

pub b_cases : (rex : Option Rex) → (rex_base rex ≡ 0) ⊎ (rex_base rex ≡ 8)
b_cases None = inl refl
b_cases (Some r) = eight_cases r.b

le_true : (a b : ℕ) → nat_le a b ≡ true → a ≤ b
le_true a b e = leb-true a b e

-- how long a displacement is
pub long_disp : (m : ℕ) (sib disp : List ℕ) → m < 64 → base_field m sib ≡ 5 → length disp ≡ disp_len (m ∷ []) sib → length disp ≡ 4
unfolding disp_len
long_disp m sib disp l f e = e ∙ ap (λ (t : Bool). cond t 0 (cond (nat_le 128 m) 4 (cond (nat_le 64 m) 1 (cond (base_field m sib == 5) 4 0)))) (lt-leb 192 m (omega arith)) ∙ ap (λ (t : Bool). cond t 4 (cond (nat_le 64 m) 1 (cond (base_field m sib == 5) 4 0))) (lt-leb 128 m (omega arith)) ∙ ap (λ (t : Bool). cond t 1 (cond (base_field m sib == 5) 4 0)) (lt-leb 64 m l) ∙ ap (λ (t : Bool). cond t 4 0) (eq-eqb (base_field m sib) 5 f)

abbrev pub len_of : ℕ → ℕ → ℕ
len_of m low = cond (nat_le 192 m) 0 (cond (nat_le 128 m) 4 (cond (nat_le 64 m) 1 (cond (low == 5) 4 0)))

pub none_len : (m low : ℕ) → m < 64 → (low ≡ 5 → ⊥) → len_of m low ≡ 0
none_len m low l n = grind (arith, nat_tests)

pub one_len : (m low : ℕ) → 64 ≤ m → m < 128 → len_of m low ≡ 1
one_len m low l n = grind (arith, nat_tests)

pub four_len : (m low : ℕ) → 128 ≤ m → m < 192 → len_of m low ≡ 4
four_len m low l n = grind (arith, nat_tests)

three : (m : ℕ) → m < 192 → (m / 64 * 64 ≡ 0) ⊎ ((m / 64 * 64 ≡ 64) ⊎ (m / 64 * 64 ≡ 128))
three m l =
    elim (cases_lt m 64) [
      | inl a ↦ inl (omega arith)
      | inr a ↦ elim (cases_lt m 128) [
        | inl b ↦ inr (inl (omega arith))
        | inr b ↦ inr (inr (omega arith))
      ]
    ]

pub plain_disp : (lg : Bool) → (m : ℕ) (sib disp : List ℕ) → m < 192 → ((m < 64) × (base_field m sib ≡ 5) → ⊥) → length disp ≡ disp_len (m ∷ []) sib → IsBytes disp → (lg ≡ true → length disp ≡ 4) → IsDisp lg (m / 64 * 64) (base_field m sib) disp
unfolding disp_len
plain_disp lg m sib disp l n e b long = record {
  none = λ z. let lt : m < 64 = omega arith in (e ∙ none_len m (base_field m sib) lt (λ f. n (lt, f)), λ f. n (lt, f));
  one = λ z. e ∙ one_len m (base_field m sib) (omega arith) (omega arith);
  four = λ z. e ∙ four_len m (base_field m sib) (omega arith) l;
  some = three m l;
  long = long;
  bytes = b;
}

-- ---- without a SIB byte

abbrev pub mem_of : Option ℕ → Option ℕ → ℕ → ℤ → Bool → Mem
mem_of base index scale disp rip = record { base = base; index = index; scale = scale; disp = disp; rip = rip }

pub bare_rip : (m : ℕ) (rex : Option Rex) (disp : List ℕ) → m < 64 → m % 8 ≡ 5 → address m rex [] disp ≡ mem_of None None 1 (short_signed_of disp) true
unfolding address
bare_rip m rex disp l e = ap (λ (t : Bool). cond t (mem_of None None 1 (short_signed_of disp) true) (mem_of (Some (m % 8 + rex_base rex)) None 1 (short_signed_of disp) false)) (and_from _ _ (lt-ltb m 64 l) (eq-eqb (m % 8) 5 e))

pub not_both : (m low : ℕ) → ((m < 64) × (low ≡ 5) → ⊥) → (nat_lt m 64 && (low == 5)) ≡ false
not_both m low n =
    elim (cases_lt m 64) [
      | inl l ↦ and_right _ _ (ne_eqb low 5 (λ e. n (l, e)))
      | inr g ↦ and_left _ _ (le-ltb m 64 g)
    ]

pub bare_base : (m : ℕ) (rex : Option Rex) (disp : List ℕ) → ((m < 64) × (m % 8 ≡ 5) → ⊥) → address m rex [] disp ≡ mem_of (Some (m % 8 + rex_base rex)) None 1 (short_signed_of disp) false
unfolding address
bare_base m rex disp n = ap (λ (t : Bool). cond t (mem_of None None 1 (short_signed_of disp) true) (mem_of (Some (m % 8 + rex_base rex)) None 1 (short_signed_of disp) false)) (not_both m (m % 8) n)

abbrev pub at_place : ℕ → List ℕ → List ℕ → Bool → Bool → Place
at_place mode sib disp x b = record { mode = mode; sib = sib; disp = disp; x = x; b = b }

pub rip_place : (lg : Bool) → (d : ℤ) → no_index lg None true d ≡ at_place 5 [] (disp32 d) false false
unfolding no_index
rip_place lg d = refl

pub sib_place : (lg : Bool) → (base : ℕ) (rip : Bool) (d : ℤ) → base % 8 ≡ 4 → no_index lg (Some base) rip d ≡ at_place (fewest_mode lg (base % 8) d + 4) (36 ∷ []) (fewest_bytes lg (base % 8) d) false (nat_le 8 base)
unfolding no_index
sib_place lg base rip d e = ap (λ (t : Bool). cond t (at_place (fewest_mode lg (base % 8) d + 4) (36 ∷ []) (fewest_bytes lg (base % 8) d) false (nat_le 8 base)) (at_place (fewest_mode lg (base % 8) d + base % 8) [] (fewest_bytes lg (base % 8) d) false (nat_le 8 base))) (eq-eqb (base % 8) 4 e)

pub bare_place : (lg : Bool) → (base : ℕ) (rip : Bool) (d : ℤ) → (base % 8 ≡ 4 → ⊥) → no_index lg (Some base) rip d ≡ at_place (fewest_mode lg (base % 8) d + base % 8) [] (fewest_bytes lg (base % 8) d) false (nat_le 8 base)
unfolding no_index
bare_place lg base rip d e = ap (λ (t : Bool). cond t (at_place (fewest_mode lg (base % 8) d + 4) (36 ∷ []) (fewest_bytes lg (base % 8) d) false (nat_le 8 base)) (at_place (fewest_mode lg (base % 8) d + base % 8) [] (fewest_bytes lg (base % 8) d) false (nat_le 8 base))) (ne_eqb (base % 8) 4 e)

below_rip : (lg : Bool) → (m : ℕ) (rex : Option Rex) (disp : List ℕ) → m < 64 → m % 8 ≡ 5 → length disp ≡ 4 → IsBytes disp → Below (place_of lg (address m rex [] disp)) rex m [] disp
below_rip lg m rex disp l e n b =
    let back = four_back disp n b in
    let is : place_of lg (address m rex [] disp) ≡ at_place 5 [] disp false false = ap (place_of lg) (bare_rip m rex disp l e) ∙ rip_place lg (short_signed_of disp) ∙ ap (λ (t : List ℕ). at_place 5 [] t false false) back in
    subst (λ (p : Place). Below p rex m [] disp) (sym is) (record {
      sib_le = omega arith;
      disp_le = omega arith;
      x = λ t. absurd (cc t);
      b = λ t. absurd (cc t);
      same = λ p q. (omega arith, refl, refl);
    })

below_bare : (lg : Bool) → (m : ℕ) (rex : Option Rex) (disp : List ℕ) → m < 192 → (m % 8 ≡ 4 → ⊥) → ((m < 64) × (m % 8 ≡ 5) → ⊥) → IsDisp lg (m / 64 * 64) (m % 8) disp → Below (place_of lg (address m rex [] disp)) rex m [] disp
below_bare lg m rex disp l no_sib no_rip i =
    let d = short_signed_of disp in
    let base = m % 8 + rex_base rex in
    let low : base % 8 ≡ m % 8 = elim (b_cases rex) [ inl z ↦ omega arith | inr z ↦ omega arith ] in
    let is : place_of lg (address m rex [] disp) ≡ at_place (fewest_mode lg (m % 8) d + m % 8) [] (fewest_bytes lg (m % 8) d) false (nat_le 8 base) =
    ap (place_of lg) (bare_base m rex disp no_rip) ∙ bare_place lg base false d (λ f. no_sib (sym low ∙ f)) ∙ ap (λ (k : ℕ). at_place (fewest_mode lg k d + k) [] (fewest_bytes lg k d) false (nat_le 8 base)) low in
    let f = fewest lg (m / 64 * 64) (m % 8) disp i in
    subst (λ (p : Place). Below p rex m [] disp) (sym is) (record {
      sib_le = omega arith;
      disp_le = f.shorter;
      x = λ t. absurd (cc t);
      b = λ t. let le : 8 ≤ base = le_true 8 base t in elim (b_cases rex) [ inl z ↦ absurd (omega arith) | inr z ↦ omega arith ];
      same = λ p q. let s = f.same q in (ap (λ (k : ℕ). k + m % 8) s.0, refl, s.1);
    })

-- ---- with a SIB byte

abbrev pub sib_mem : Bool → Option ℕ → ℕ → ℕ → ℤ → Mem
sib_mem t base index s d = cond t (mem_of base None 1 d false) (mem_of base (Some index) (scale_of s) d false)

pub sib_none : (m s : ℕ) (rex : Option Rex) (disp : List ℕ) → s / 8 % 8 + rex_x rex ≡ 4 → address m rex (s ∷ []) disp ≡ mem_of (base_of m s rex) None 1 (short_signed_of disp) false
unfolding address
sib_none m s rex disp e = ap (λ (t : Bool). sib_mem t (base_of m s rex) (s / 8 % 8 + rex_x rex) s (short_signed_of disp)) (eq-eqb (s / 8 % 8 + rex_x rex) 4 e)

pub sib_some : (m s : ℕ) (rex : Option Rex) (disp : List ℕ) → (s / 8 % 8 + rex_x rex ≡ 4 → ⊥) → address m rex (s ∷ []) disp ≡ mem_of (base_of m s rex) (Some (s / 8 % 8 + rex_x rex)) (scale_of s) (short_signed_of disp) false
unfolding address
sib_some m s rex disp e = ap (λ (t : Bool). sib_mem t (base_of m s rex) (s / 8 % 8 + rex_x rex) s (short_signed_of disp)) (ne_eqb (s / 8 % 8 + rex_x rex) 4 e)

abbrev pub nobody : Option ℕ
nobody = None

pub base_none : (m s : ℕ) (rex : Option Rex) → m < 64 → s % 8 ≡ 5 → base_of m s rex ≡ None
base_none m s rex l e = ap (λ (t : Bool). cond t nobody (Some (s % 8 + rex_base rex))) (and_from _ _ (lt-ltb m 64 l) (eq-eqb (s % 8) 5 e))

pub base_some : (m s : ℕ) (rex : Option Rex) → ((m < 64) × (s % 8 ≡ 5) → ⊥) → base_of m s rex ≡ Some (s % 8 + rex_base rex)
base_some m s rex n = ap (λ (t : Bool). cond t nobody (Some (s % 8 + rex_base rex))) (not_both m (s % 8) n)

pub no_base_place : (lg : Bool) → (d : ℤ) → no_index lg None false d ≡ at_place 4 (37 ∷ []) (disp32 d) false false
unfolding no_index
no_base_place lg d = refl

pub index_place : (lg : Bool) → (index scale : ℕ) (d : ℤ) → with_index lg None index scale d ≡ at_place 4 ((scale_bits scale + 8 * (index % 8) + 5) ∷ []) (disp32 d) (nat_le 8 index) false
unfolding with_index
index_place lg index scale d = refl

pub both_place : (lg : Bool) → (base index scale : ℕ) (d : ℤ) → with_index lg (Some base) index scale d ≡ at_place (fewest_mode lg (base % 8) d + 4) ((scale_bits scale + 8 * (index % 8) + base % 8) ∷ []) (fewest_bytes lg (base % 8) d) (nat_le 8 index) (nat_le 8 base)
unfolding with_index
both_place lg base index scale d = refl

zero_is : (s : ℕ) → s < 64 → 0 ≡ s / 64 * 64
zero_is s a = omega arith

one_is : (s : ℕ) → 64 ≤ s → s < 128 → 64 ≡ s / 64 * 64
one_is s a b = omega arith

two_is : (s : ℕ) → 128 ≤ s → s < 192 → 128 ≡ s / 64 * 64
two_is s a b = omega arith

three_is : (s : ℕ) → 192 ≤ s → s < 256 → 192 ≡ s / 64 * 64
three_is s a b = omega arith

scale_back : (s : ℕ) → s < 256 → scale_bits (scale_of s) ≡ s / 64 * 64
scale_back s l =
    elim (cases_lt s 64) [
      | inl a ↦ ap scale_bits (ap (λ (t : Bool). cond t 1 (cond (nat_lt s 128) 2 (cond (nat_lt s 192) 4 8))) (lt-ltb s 64 a)) ∙ zero_is s a
      | inr a ↦ elim (cases_lt s 128) [
        | inl b ↦ ap scale_bits (ap (λ (t : Bool). cond t 1 (cond (nat_lt s 128) 2 (cond (nat_lt s 192) 4 8))) (le-ltb s 64 a) ∙ ap (λ (t : Bool). cond t 2 (cond (nat_lt s 192) 4 8)) (lt-ltb s 128 b)) ∙ one_is s a b
        | inr b ↦ elim (cases_lt s 192) [
          | inl c ↦ ap scale_bits (ap (λ (t : Bool). cond t 1 (cond (nat_lt s 128) 2 (cond (nat_lt s 192) 4 8))) (le-ltb s 64 a) ∙ ap (λ (t : Bool). cond t 2 (cond (nat_lt s 192) 4 8)) (le-ltb s 128 b) ∙ ap (λ (t : Bool). cond t 4 8) (lt-ltb s 192 c)) ∙ two_is s b c
          | inr c ↦ ap scale_bits (ap (λ (t : Bool). cond t 1 (cond (nat_lt s 128) 2 (cond (nat_lt s 192) 4 8))) (le-ltb s 64 a) ∙ ap (λ (t : Bool). cond t 2 (cond (nat_lt s 192) 4 8)) (le-ltb s 128 b) ∙ ap (λ (t : Bool). cond t 4 8) (le-ltb s 192 c)) ∙ three_is s c l
        ]
      ]
    ]

-- the SIB byte from its fields
pub sib_back : (s index low : ℕ) (rex : Option Rex) → s < 256 → index ≡ s / 8 % 8 + rex_x rex → low ≡ s % 8 → scale_bits (scale_of s) + 8 * (index % 8) + low ≡ s
sib_back s index low rex l e f =
    let k : index % 8 ≡ s / 8 % 8 = elim (x_cases rex) [ inl z ↦ omega arith | inr z ↦ omega arith ] in
    omega (arith, scale_back s l)

pub lex_one : (a b : ℕ) → a ≤ b → lex_le (a ∷ []) (b ∷ []) ≡ true
lex_one a b l =
    elim (cases_lt a b) [
      | inl lt ↦ or_left _ _ (lt-ltb a b lt)
      | inr le ↦ or_right _ _ (and_from _ _ (eq-eqb a b (omega arith)) refl)
    ]

wide_index : (s : ℕ) (rex : Option Rex) → nat_le 8 (s / 8 % 8 + rex_x rex) ≡ true → 8 ≤ rex_x rex
wide_index s rex t = let le : 8 ≤ s / 8 % 8 + rex_x rex = le_true 8 _ t in elim (x_cases rex) [ inl z ↦ absurd (omega arith) | inr z ↦ omega arith ]

wide_base : (s : ℕ) (rex : Option Rex) → nat_le 8 (s % 8 + rex_base rex) ≡ true → 8 ≤ rex_base rex
wide_base s rex t = let le : 8 ≤ s % 8 + rex_base rex = le_true 8 _ t in elim (b_cases rex) [ inl z ↦ absurd (omega arith) | inr z ↦ omega arith ]

pub base_low : (s : ℕ) (rex : Option Rex) → (s % 8 + rex_base rex) % 8 ≡ s % 8
base_low s rex = elim (b_cases rex) [ inl z ↦ omega arith | inr z ↦ omega arith ]

pub no_high : (s : ℕ) (rex : Option Rex) → s / 8 % 8 + rex_x rex ≡ 4 → s / 8 % 8 ≡ 4
no_high s rex e = elim (x_cases rex) [ inl z ↦ omega arith | inr z ↦ absurd (omega arith) ]

below_neither : (lg : Bool) → (m s : ℕ) (rex : Option Rex) (disp : List ℕ) → m % 8 ≡ 4 → m < 64 → s % 8 ≡ 5 → s / 8 % 8 + rex_x rex ≡ 4 → length disp ≡ 4 → IsBytes disp → Below (place_of lg (address m rex (s ∷ []) disp)) rex m (s ∷ []) disp
below_neither lg m s rex disp e l f g n b =
    let d = short_signed_of disp in
    let is : place_of lg (address m rex (s ∷ []) disp) ≡ at_place 4 (37 ∷ []) disp false false =
    ap (place_of lg) (sib_none m s rex disp g ∙ ap (λ (o : Option ℕ). mem_of o None 1 d false) (base_none m s rex l f)) ∙ no_base_place lg d ∙ ap (λ (t : List ℕ). at_place 4 (37 ∷ []) t false false) (four_back disp n b) in
    let high = no_high s rex g in
    subst (λ (p : Place). Below p rex m (s ∷ []) disp) (sym is) (record {
      sib_le = omega arith;
      disp_le = omega arith;
      x = λ t. absurd (cc t);
      b = λ t. absurd (cc t);
      same = λ p q. (omega arith, lex_one 37 s (omega arith), refl);
    })

below_base : (lg : Bool) → (m s : ℕ) (rex : Option Rex) (disp : List ℕ) → m % 8 ≡ 4 → ((m < 64) × (s % 8 ≡ 5) → ⊥) → s / 8 % 8 + rex_x rex ≡ 4 → IsDisp lg (m / 64 * 64) (s % 8) disp → Below (place_of lg (address m rex (s ∷ []) disp)) rex m (s ∷ []) disp
below_base lg m s rex disp e n g i =
    let d = short_signed_of disp in
    let base = s % 8 + rex_base rex in
    let low = base_low s rex in
    let f = fewest lg (m / 64 * 64) (s % 8) disp i in
    let is : place_of lg (address m rex (s ∷ []) disp) ≡ no_index lg (Some base) false d = ap (place_of lg) (sib_none m s rex disp g ∙ ap (λ (o : Option ℕ). mem_of o None 1 d false) (base_some m s rex n)) in
    elim (cases_eq (s % 8) 4) [
      | inl four ↦
          let pl : place_of lg (address m rex (s ∷ []) disp) ≡ at_place (fewest_mode lg (s % 8) d + 4) (36 ∷ []) (fewest_bytes lg (s % 8) d) false (nat_le 8 base) =
          is ∙ sib_place lg base false d (low ∙ four) ∙ ap (λ (k : ℕ). at_place (fewest_mode lg k d + 4) (36 ∷ []) (fewest_bytes lg k d) false (nat_le 8 base)) low in
          let high = no_high s rex g in
          subst (λ (p : Place). Below p rex m (s ∷ []) disp) (sym pl) (record {
            sib_le = omega arith;
            disp_le = f.shorter;
            x = λ t. absurd (cc t);
            b = wide_base s rex;
            same = λ p q. let k = f.same q in (omega (arith, k.0), lex_one 36 s (omega arith), k.1);
          })
      | inr other ↦
          let pl : place_of lg (address m rex (s ∷ []) disp) ≡ at_place (fewest_mode lg (s % 8) d + s % 8) [] (fewest_bytes lg (s % 8) d) false (nat_le 8 base) =
          is ∙ bare_place lg base false d (λ z. other (sym low ∙ z)) ∙ ap (λ (k : ℕ). at_place (fewest_mode lg k d + k) [] (fewest_bytes lg k d) false (nat_le 8 base)) low in
          subst (λ (p : Place). Below p rex m (s ∷ []) disp) (sym pl) (record {
            sib_le = omega arith;
            disp_le = f.shorter;
            x = λ t. absurd (cc t);
            b = wide_base s rex;
            same = λ p q. absurd (let bad : 0 ≡ 1 = p in omega arith);
          })
    ]

below_index : (lg : Bool) → (m s : ℕ) (rex : Option Rex) (disp : List ℕ) → m % 8 ≡ 4 → m < 64 → s < 256 → s % 8 ≡ 5 → (s / 8 % 8 + rex_x rex ≡ 4 → ⊥) → length disp ≡ 4 → IsBytes disp → Below (place_of lg (address m rex (s ∷ []) disp)) rex m (s ∷ []) disp
below_index lg m s rex disp e l lt f g n b =
    let d = short_signed_of disp in
    let index = s / 8 % 8 + rex_x rex in
    let is : place_of lg (address m rex (s ∷ []) disp) ≡ at_place 4 (s ∷ []) disp (nat_le 8 index) false =
    ap (place_of lg) (sib_some m s rex disp g ∙ ap (λ (o : Option ℕ). mem_of o (Some index) (scale_of s) d false) (base_none m s rex l f)) ∙ index_place lg index (scale_of s) d
    ∙ ap (λ (t : List ℕ). at_place 4 ((scale_bits (scale_of s) + 8 * (index % 8) + 5) ∷ []) t (nat_le 8 index) false) (four_back disp n b)
    ∙ ap (λ (k : ℕ). at_place 4 (k ∷ []) disp (nat_le 8 index) false) (sib_back s index 5 rex lt refl (sym f)) in
    subst (λ (p : Place). Below p rex m (s ∷ []) disp) (sym is) (record {
      sib_le = omega arith;
      disp_le = omega arith;
      x = wide_index s rex;
      b = λ t. absurd (cc t);
      same = λ p q. (omega arith, lex_one s s (omega arith), refl);
    })

below_both : (lg : Bool) → (m s : ℕ) (rex : Option Rex) (disp : List ℕ) → m % 8 ≡ 4 → s < 256 → ((m < 64) × (s % 8 ≡ 5) → ⊥) → (s / 8 % 8 + rex_x rex ≡ 4 → ⊥) → IsDisp lg (m / 64 * 64) (s % 8) disp → Below (place_of lg (address m rex (s ∷ []) disp)) rex m (s ∷ []) disp
below_both lg m s rex disp e lt n g i =
    let d = short_signed_of disp in
    let index = s / 8 % 8 + rex_x rex in
    let base = s % 8 + rex_base rex in
    let low = base_low s rex in
    let f = fewest lg (m / 64 * 64) (s % 8) disp i in
    let is : place_of lg (address m rex (s ∷ []) disp) ≡ at_place (fewest_mode lg (s % 8) d + 4) (s ∷ []) (fewest_bytes lg (s % 8) d) (nat_le 8 index) (nat_le 8 base) =
    ap (place_of lg) (sib_some m s rex disp g ∙ ap (λ (o : Option ℕ). mem_of o (Some index) (scale_of s) d false) (base_some m s rex n)) ∙ both_place lg base index (scale_of s) d
    ∙ ap (λ (k : ℕ). at_place (fewest_mode lg k d + 4) ((scale_bits (scale_of s) + 8 * (index % 8) + k) ∷ []) (fewest_bytes lg k d) (nat_le 8 index) (nat_le 8 base)) low
    ∙ ap (λ (k : ℕ). at_place (fewest_mode lg (s % 8) d + 4) (k ∷ []) (fewest_bytes lg (s % 8) d) (nat_le 8 index) (nat_le 8 base)) (sib_back s index (s % 8) rex lt refl refl) in
    subst (λ (p : Place). Below p rex m (s ∷ []) disp) (sym is) (record {
      sib_le = omega arith;
      disp_le = f.shorter;
      x = wide_index s rex;
      b = wide_base s rex;
      same = λ p q. let k = f.same q in (omega (arith, k.0), lex_one s s (omega arith), k.1);
    })

pub cases_both : (m low : ℕ) → ((m < 64) × (low ≡ 5)) ⊎ ((m < 64) × (low ≡ 5) → ⊥)
cases_both m low =
    elim (cases_lt m 64) [
      | inl l ↦ elim (cases_eq low 5) [ inl e ↦ inl (l, e) | inr n ↦ inr (λ c. n c.1) ]
      | inr g ↦ inr (λ c. absurd (omega (arith, c.0)))
    ]

pub sib_one : (m : ℕ) → m < 192 → m % 8 ≡ 4 → sib_len (m ∷ []) ≡ 1
sib_one m l e = ap (λ (t : Bool). cond t 1 0) (and_from _ _ (lt-ltb m 192 l) (eq-eqb (m % 8) 4 e))

pub sib_zero : (m : ℕ) → (m % 8 ≡ 4 → ⊥) → sib_len (m ∷ []) ≡ 0
sib_zero m n = ap (λ (t : Bool). cond t 1 0) (and_right _ _ (ne_eqb (m % 8) 4 n))

pub sib_four : (m : ℕ) → m < 192 → 1 ≡ sib_len (m ∷ []) → m % 8 ≡ 4
sib_four m l e = elim (cases_eq (m % 8) 4) [ inl f ↦ f | inr n ↦ absurd (let bad : 1 ≡ 0 = e ∙ sib_zero m n in omega arith) ]

small_sib : (m : ℕ) → sib_len (m ∷ []) ≤ 1
small_sib m = grind (arith, nat_tests)

pub sib_two : (m n : ℕ) → suc (suc n) ≡ sib_len (m ∷ []) → ⊥
sib_two m n e = absurd (let le : sib_len (m ∷ []) ≤ 1 = small_sib m in omega arith)

-- no spelling of a place in memory is below its plain form
pub below : (lg : Bool) → (m : ℕ) (rex : Option Rex) (sib disp : List ℕ) → m < 192 → length sib ≡ sib_len (m ∷ []) → length disp ≡ disp_len (m ∷ []) sib → IsBytes sib → IsBytes disp → (lg ≡ true → length disp ≡ 4) → Below (place_of lg (address m rex sib disp)) rex m sib disp
below lg m rex [] disp l sl dl sb db long =
    let no_sib : m % 8 ≡ 4 → ⊥ = λ e. absurd (let one : 0 ≡ 1 = sl ∙ sib_one m l e in omega arith) in
    elim (cases_both m (m % 8)) [
      | inl c ↦ below_rip lg m rex disp c.0 c.1 (long_disp m [] disp c.0 c.1 dl) db
      | inr c ↦ below_bare lg m rex disp l no_sib c (plain_disp lg m [] disp l c dl db long)
    ]
below lg m rex (s ∷ []) disp l sl dl sb db long =
    let e : m % 8 ≡ 4 = sib_four m l sl in
    let lt : s < 256 = sb 0 in
    elim (cases_both m (s % 8)) [
      | inl c ↦ elim (cases_eq (s / 8 % 8 + rex_x rex) 4) [
        | inl g ↦ below_neither lg m s rex disp e c.0 c.1 g (long_disp m (s ∷ []) disp c.0 c.1 dl) db
        | inr g ↦ below_index lg m s rex disp e c.0 lt c.1 g (long_disp m (s ∷ []) disp c.0 c.1 dl) db
      ]
      | inr c ↦ elim (cases_eq (s / 8 % 8 + rex_x rex) 4) [
        | inl g ↦ below_base lg m s rex disp e c g (plain_disp lg m (s ∷ []) disp l c dl db long)
        | inr g ↦ below_both lg m s rex disp e lt c g (plain_disp lg m (s ∷ []) disp l c dl db long)
      ]
    ]
below lg m rex (s ∷ t ∷ sib) disp l sl dl sb db long = absurd (sib_two m (length sib) sl)
