-- The plain form of a place is read back.
use Rattle.std.proofs.Common.{◌≡◌, ℕ, zero, suc, ◌+◌, ◌*◌, ◌/◌, ◌%◌, ◌<◌, Bool, true, false, List, [], ◌∷◌, length, Option, Some, None, refl, sym, ap, subst, ◌∙◌, arith, ◌⊎◌, inl, inr}
use Rattle.std.specs.Prelude.{◌≢◌, ℤ, pos, negsuc, nat_le, ◌==◌}
use Rattle.std.specs.Int.{w8, w32, cast_unsigned, cast_signed}
use Rattle.std.proofs.lemmas.Bool.{cases_lt, cases_Bool, le-leb, lt-leb, eq-eqb, and_from, and_parts, eqb-true}
use Rattle.std.proofs.lemmas.Bool.Decides.{nat_tests}
use Rattle.std.proofs.lemmas.List.{get_or_past}
use Rattle.x86_grammar.specs.declared.head.Rex.{Rex}
use Rattle.vm_law.specs.declared.insn.Mem.{Mem}
use Rattle.std.specs.Prelude.{not}
use Rattle.x86_encode.proofs.Total.{eight, rex_x, rex_base, sib_len, disp_len, base_field, short_signed_of, scale_of, address}
use Rattle.x86_grammar.specs.Grammar.{IsBytes}
use Rattle.x86_encode.specs.Inside.Place.{Place, is_none, is_byte, fits_none, fits_byte, disp8, fewest_mode, fewest_bytes}
use Rattle.x86_encode.proofs.Places.{IsDisp, at_place, mem_of, one_signed, none_signed, four_back, fewest_none, fewest_one, fewest_four, one_item, not_none, bare_rip, bare_base, sib_none, sib_some, base_none, base_some, sib_one, sib_zero, len_of, none_len, one_len, four_len, byte_is_byte}

one_byte : (m : ℕ) → m < 256 → IsBytes (m ∷ [])
one_byte m lt zero = lt
one_byte m lt (suc i) = omega (arith, get_or_past {X = ℕ} [] i 0 (omega arith))

no_bytes : IsBytes []
no_bytes i = omega (arith, get_or_past {X = ℕ} [] i 0 (omega arith))

-- ---- displacements

clash : (t : Bool) → t ≡ true → not t ≡ true → ⊥
clash true e f = absurd cc
clash false e f = absurd cc

pub record Shown (lg : Bool) (low : ℕ) (l : List ℕ) : Type 0 where
  pub signed : short_signed_of (fewest_bytes lg low (short_signed_of l)) ≡ short_signed_of l
  pub is : IsDisp lg (fewest_mode lg low (short_signed_of l)) low (fewest_bytes lg low (short_signed_of l))

none_is : (d : ℤ) → is_none d ≡ true → d ≡ pos 0
none_is (pos n) e = ap pos (eqb-true n 0 e)
none_is (negsuc n) e = absurd cc

byte_signed : (d : ℤ) → is_byte d ≡ true → short_signed_of (disp8 d) ≡ d
byte_signed (pos n) e = one_signed _ ∙ grind (arith, nat_tests)
byte_signed (negsuc n) e = one_signed _ ∙ grind (arith, nat_tests)

not_five : (low : ℕ) → not (low == 5) ≡ true → low ≢ 5
not_five low e f = absurd (let bad : true ≡ false = sym e ∙ ap not (eq-eqb low 5 f) in cc bad)

four_shown : (lg : Bool) → (md low : ℕ) (l : List ℕ) → IsDisp lg md low l → (fits_none lg low (short_signed_of l)) ≡ false → fits_byte lg (short_signed_of l) ≡ false → Shown lg low l
four_shown lg md low l i n m =
    let d = short_signed_of l in
    let f = fewest_four lg low d n m in
    elim i.some [
      | inl e ↦ absurd (not_none lg md low l i n e)
      | inr o ↦ elim o [
        | inl e ↦
            let k = one_item l (i.one e) i.bytes in
            let v : d ≡ cast_signed w8 k.0 = ap short_signed_of k.1 ∙ one_signed k.0 in
            elim (cases_Bool lg) [
              | inl t ↦ absurd (omega (arith, i.long t, i.one e))
              | inr q ↦ absurd (let shorter : not lg ≡ true = ap not q in let fit : is_byte d ≡ true = ap is_byte v ∙ byte_is_byte k.0 k.2 in let bad : true ≡ false = sym (and_from _ _ shorter fit) ∙ m in cc bad)
            ]
        | inr e ↦
            let back : fewest_bytes lg low d ≡ l = f.0 ∙ four_back l (i.four e) i.bytes in
            record {
              signed = ap short_signed_of back;
              is = subst (λ (x : List ℕ). IsDisp lg (fewest_mode lg low d) low x) (sym back) (subst (λ (x : ℕ). IsDisp lg x low l) (sym f.1) (record { none = λ z. absurd (omega arith); one = λ z. absurd (omega arith); four = λ z. i.four e; some = inr (inr refl); long = λ z. i.four e; bytes = i.bytes }));
            }
      ]
    ]

shown : (lg : Bool) → (md low : ℕ) (l : List ℕ) → IsDisp lg md low l → Shown lg low l
shown lg md low l i =
    let d = short_signed_of l in
    elim (cases_Bool (fits_none lg low d)) [
      | inl t ↦
          let f = fewest_none lg low d t in
          let h = and_parts _ _ t in
          let k = and_parts _ _ h.1 in
          record {
            signed = ap short_signed_of f.0 ∙ none_signed ∙ sym (none_is d k.0);
            is = subst (λ (x : List ℕ). IsDisp lg (fewest_mode lg low d) low x) (sym f.0) (subst (λ (x : ℕ). IsDisp lg x low []) (sym f.1) (record { none = λ e. (refl, not_five low k.1); one = λ e. absurd (omega arith); four = λ e. absurd (omega arith); some = inl refl; long = λ z. absurd (clash lg z h.0); bytes = no_bytes }));
          }
      | inr n ↦ elim (cases_Bool (fits_byte lg d)) [
        | inl t ↦
            let f = fewest_one lg low d n t in
            let h = and_parts _ _ t in
            record {
              signed = ap short_signed_of f.0 ∙ byte_signed d h.1;
              is = subst (λ (x : List ℕ). IsDisp lg (fewest_mode lg low d) low x) (sym f.0) (subst (λ (x : ℕ). IsDisp lg x low (disp8 d)) (sym f.1) (record { none = λ e. absurd (omega arith); one = λ e. refl; four = λ e. absurd (omega arith); some = inr (inl refl); long = λ z. absurd (clash lg z h.0); bytes = one_byte (cast_unsigned w32 d % 256) (omega arith) }));
            }
        | inr m ↦ four_shown lg md low l i n m
      ]
    ]

-- ---- places

pub record Again (mem : Mem) (pl : Place) (rex : Option Rex) (mid : ℕ) : Type 0 where
  pub back : address (pl.mode + mid * 8) rex pl.sib pl.disp ≡ mem
  pub low : pl.mode + mid * 8 < 192
  pub mid_is : (pl.mode + mid * 8) / 8 % 8 ≡ mid
  pub sib_is : length pl.sib ≡ sib_len ((pl.mode + mid * 8) ∷ [])
  pub disp_is : length pl.disp ≡ disp_len ((pl.mode + mid * 8) ∷ []) pl.sib
  pub sib_bytes : IsBytes pl.sib
  pub disp_bytes : IsBytes pl.disp

disp_fits : (lg : Bool) → (m low md : ℕ) (sib l : List ℕ) → base_field m sib ≡ low → IsDisp lg md low l → m / 64 * 64 ≡ md → m < 192 → length l ≡ disp_len (m ∷ []) sib
unfolding disp_len
disp_fits lg m low md sib l f i e lt =
    subst (λ (k : ℕ). length l ≡ len_of m k) (sym f)
    (elim i.some [
      | inl z ↦ let n = i.none z in n.0 ∙ sym (none_len m low (omega arith) n.1)
      | inr o ↦ elim o [
        | inl z ↦ i.one z ∙ sym (one_len m low (omega arith) (omega arith))
        | inr z ↦ i.four z ∙ sym (four_len m low (omega arith) lt)
      ]
    ])

five_len : (m : ℕ) → m < 64 → len_of m 5 ≡ 4
five_len m lt = grind (arith, nat_tests)

long_fits : (m : ℕ) (sib l : List ℕ) → m < 64 → base_field m sib ≡ 5 → length l ≡ 4 → length l ≡ disp_len (m ∷ []) sib
unfolding disp_len
long_fits m sib l lt f e = e ∙ sym (subst (λ (k : ℕ). len_of m k ≡ 4) (sym f) (five_len m lt))

mode_some : (lg : Bool) → (md low : ℕ) (l : List ℕ) → IsDisp lg md low l → (md ≡ 0) ⊎ ((md ≡ 64) ⊎ (md ≡ 128))
mode_some lg md low l i = i.some

-- a base register, from its low bits and the bit above
base_is : (base low : ℕ) (rex : Option Rex) → base % 8 ≡ low → base < 16 → rex_base rex ≡ eight (nat_le 8 base) → low + rex_base rex ≡ base
base_is base low rex e lt f =
    elim (cases_lt base 8) [
      | inl l ↦ let z : rex_base rex ≡ 0 = f ∙ ap eight (lt-leb 8 base l) in omega arith
      | inr l ↦ let z : rex_base rex ≡ 8 = f ∙ ap eight (le-leb 8 base l) in omega arith
    ]

index_is : (index part : ℕ) (rex : Option Rex) → index % 8 ≡ part → index < 16 → rex_x rex ≡ eight (nat_le 8 index) → part + rex_x rex ≡ index
index_is index part rex e lt f =
    elim (cases_lt index 8) [
      | inl l ↦ let z : rex_x rex ≡ 0 = f ∙ ap eight (lt-leb 8 index l) in omega arith
      | inr l ↦ let z : rex_x rex ≡ 8 = f ∙ ap eight (le-leb 8 index l) in omega arith
    ]

pub again_rip : (d : ℤ) (disp : List ℕ) (rex : Option Rex) (mid : ℕ) → mid < 8 → length disp ≡ 4 → IsBytes disp → Again (mem_of None None 1 (short_signed_of disp) true) (at_place 5 [] disp false false) rex mid
again_rip d disp rex mid lt n b =
    let small : 5 + mid * 8 < 64 = omega arith in
    let five : (5 + mid * 8) % 8 ≡ 5 = omega arith in
    record {
      back = bare_rip (5 + mid * 8) rex disp small five;
      low = omega arith;
      mid_is = omega arith;
      sib_is = sym (sib_zero (5 + mid * 8) (λ e. absurd (omega arith)));
      disp_is = long_fits (5 + mid * 8) [] disp small five n;
      sib_bytes = no_bytes;
      disp_bytes = b;
    }

-- a ModRM byte from its three fields
split : (fm low mid : ℕ) → (fm ≡ 0) ⊎ ((fm ≡ 64) ⊎ (fm ≡ 128)) → low < 8 → mid < 8 → ((fm + low + mid * 8) / 64 * 64 ≡ fm) × ((fm + low + mid * 8) % 8 ≡ low) × (fm + low + mid * 8 < 192) × ((fm + low + mid * 8) / 8 % 8 ≡ mid)
split fm low mid o l k =
    elim o [
      | inl e ↦ (omega arith, omega arith, omega arith, omega arith)
      | inr p ↦ elim p [
        | inl e ↦ (omega arith, omega arith, omega arith, omega arith)
        | inr e ↦ (omega arith, omega arith, omega arith, omega arith)
      ]
    ]

pub again_bare : (lg : Bool) → (base : ℕ) (disp : List ℕ) (md : ℕ) (rex : Option Rex) (mid : ℕ) → mid < 8 → base < 16 → (base % 8 ≡ 4 → ⊥) → IsDisp lg md (base % 8) disp → rex_base rex ≡ eight (nat_le 8 base)
    → Again (mem_of (Some base) None 1 (short_signed_of disp) false) (at_place (fewest_mode lg (base % 8) (short_signed_of disp) + base % 8) [] (fewest_bytes lg (base % 8) (short_signed_of disp)) false (nat_le 8 base)) rex mid
again_bare lg base disp md rex mid lt bt four i e =
    let low = base % 8 in
    let d = short_signed_of disp in
    let s = shown lg md low disp i in
    let fm = fewest_mode lg low d in
    let m = fm + low + mid * 8 in
    let parts : (m / 64 * 64 ≡ fm) × (m % 8 ≡ low) × (m < 192) × (m / 8 % 8 ≡ mid) = split fm low mid (mode_some lg fm low (fewest_bytes lg low d) s.is) (omega arith) lt in
    let no_rip : (m < 64) × (m % 8 ≡ 5) → ⊥ = λ c. let n = s.is.none (omega (arith, c.0, parts.0)) in n.1 (sym parts.1 ∙ c.1) in
    record {
      back = bare_base m rex (fewest_bytes lg low d) no_rip ∙ ap (λ (k : ℕ). mem_of (Some k) None 1 (short_signed_of (fewest_bytes lg low d)) false) (ap (λ (k : ℕ). k + rex_base rex) parts.1 ∙ base_is base low rex refl bt e) ∙ ap (λ (v : ℤ). mem_of (Some base) None 1 v false) s.signed;
      low = parts.2;
      mid_is = parts.3;
      sib_is = sym (sib_zero m (λ f. four (sym parts.1 ∙ f)));
      disp_is = disp_fits lg m low fm [] (fewest_bytes lg low d) parts.1 s.is parts.0 parts.2;
      sib_bytes = no_bytes;
      disp_bytes = s.is.bytes;
    }

pub again_sib : (lg : Bool) → (base : ℕ) (disp : List ℕ) (md : ℕ) (rex : Option Rex) (mid : ℕ) → mid < 8 → base < 16 → base % 8 ≡ 4 → IsDisp lg md (base % 8) disp → rex_x rex ≡ 0 → rex_base rex ≡ eight (nat_le 8 base)
    → Again (mem_of (Some base) None 1 (short_signed_of disp) false) (at_place (fewest_mode lg (base % 8) (short_signed_of disp) + 4) (36 ∷ []) (fewest_bytes lg (base % 8) (short_signed_of disp)) false (nat_le 8 base)) rex mid
again_sib lg base disp md rex mid lt bt four i x e =
    let low = base % 8 in
    let d = short_signed_of disp in
    let s = shown lg md low disp i in
    let fm = fewest_mode lg low d in
    let m = fm + 4 + mid * 8 in
    let parts : (m / 64 * 64 ≡ fm) × (m % 8 ≡ 4) × (m < 192) × (m / 8 % 8 ≡ mid) = split fm 4 mid (mode_some lg fm low (fewest_bytes lg low d) s.is) (omega arith) lt in
    let some_base : (m < 64) × (36 % 8 ≡ 5) → ⊥ = λ c. absurd (omega (arith, c.1)) in
    record {
      back = sib_none m 36 rex (fewest_bytes lg low d) (omega arith) ∙ ap (λ (o : Option ℕ). mem_of o None 1 (short_signed_of (fewest_bytes lg low d)) false) (base_some m 36 rex some_base ∙ ap (λ (k : ℕ). Some k) (base_is base 4 rex four bt e)) ∙ ap (λ (v : ℤ). mem_of (Some base) None 1 v false) s.signed;
      low = parts.2;
      mid_is = parts.3;
      sib_is = sym (sib_one m parts.2 parts.1);
      disp_is = disp_fits lg m low fm (36 ∷ []) (fewest_bytes lg low d) (sym four) s.is parts.0 parts.2;
      sib_bytes = one_byte 36 (omega arith);
      disp_bytes = s.is.bytes;
    }

pub again_neither : (disp : List ℕ) (rex : Option Rex) (mid : ℕ) → mid < 8 → length disp ≡ 4 → IsBytes disp → rex_x rex ≡ 0 → Again (mem_of None None 1 (short_signed_of disp) false) (at_place 4 (37 ∷ []) disp false false) rex mid
again_neither disp rex mid lt n b x =
    let m = 4 + mid * 8 in
    let small : m < 64 = omega arith in
    record {
      back = sib_none m 37 rex disp (omega arith) ∙ ap (λ (o : Option ℕ). mem_of o None 1 (short_signed_of disp) false) (base_none m 37 rex small (omega arith));
      low = omega arith;
      mid_is = omega arith;
      sib_is = sym (sib_one m (omega arith) (omega arith));
      disp_is = long_fits m (37 ∷ []) disp small (omega arith) n;
      sib_bytes = one_byte 37 (omega arith);
      disp_bytes = b;
    }

pub again_index : (s index : ℕ) (disp : List ℕ) (rex : Option Rex) (mid : ℕ) → mid < 8 → s < 256 → s % 8 ≡ 5 → index % 8 ≡ s / 8 % 8 → index < 16 → (index ≡ 4 → ⊥) → length disp ≡ 4 → IsBytes disp → rex_x rex ≡ eight (nat_le 8 index)
    → Again (mem_of None (Some index) (scale_of s) (short_signed_of disp) false) (at_place 4 (s ∷ []) disp (nat_le 8 index) false) rex mid
again_index s index disp rex mid lt st f ie il four n b x =
    let m = 4 + mid * 8 in
    let small : m < 64 = omega arith in
    let same : s / 8 % 8 + rex_x rex ≡ index = index_is index (s / 8 % 8) rex ie il x in
    record {
      back = sib_some m s rex disp (λ e. four (sym same ∙ e)) ∙ ap (λ (o : Option ℕ). mem_of o (Some (s / 8 % 8 + rex_x rex)) (scale_of s) (short_signed_of disp) false) (base_none m s rex small f) ∙ ap (λ (k : ℕ). mem_of None (Some k) (scale_of s) (short_signed_of disp) false) same;
      low = omega arith;
      mid_is = omega arith;
      sib_is = sym (sib_one m (omega arith) (omega arith));
      disp_is = long_fits m (s ∷ []) disp small f n;
      sib_bytes = one_byte s st;
      disp_bytes = b;
    }

pub again_both : (lg : Bool) → (s base index : ℕ) (disp : List ℕ) (md : ℕ) (rex : Option Rex) (mid : ℕ) → mid < 8 → s < 256 → base % 8 ≡ s % 8 → base < 16 → index % 8 ≡ s / 8 % 8 → index < 16 → (index ≡ 4 → ⊥) → IsDisp lg md (s % 8) disp → rex_x rex ≡ eight (nat_le 8 index) → rex_base rex ≡ eight (nat_le 8 base)
    → Again (mem_of (Some base) (Some index) (scale_of s) (short_signed_of disp) false) (at_place (fewest_mode lg (s % 8) (short_signed_of disp) + 4) (s ∷ []) (fewest_bytes lg (s % 8) (short_signed_of disp)) (nat_le 8 index) (nat_le 8 base)) rex mid
again_both lg s base index disp md rex mid lt st be bl ie il four i x e =
    let low = s % 8 in
    let d = short_signed_of disp in
    let k = shown lg md low disp i in
    let fm = fewest_mode lg low d in
    let m = fm + 4 + mid * 8 in
    let parts : (m / 64 * 64 ≡ fm) × (m % 8 ≡ 4) × (m < 192) × (m / 8 % 8 ≡ mid) = split fm 4 mid (mode_some lg fm low (fewest_bytes lg low d) k.is) (omega arith) lt in
    let same : s / 8 % 8 + rex_x rex ≡ index = index_is index (s / 8 % 8) rex ie il x in
    let some_base : (m < 64) × (s % 8 ≡ 5) → ⊥ = λ c. let n = k.is.none (omega (arith, c.0, parts.0)) in n.1 c.1 in
    record {
      back = sib_some m s rex (fewest_bytes lg low d) (λ z. four (sym same ∙ z)) ∙ ap (λ (o : Option ℕ). mem_of o (Some (s / 8 % 8 + rex_x rex)) (scale_of s) (short_signed_of (fewest_bytes lg low d)) false) (base_some m s rex some_base ∙ ap (λ (q : ℕ). Some q) (base_is base low rex be bl e)) ∙ ap (λ (q : ℕ). mem_of (Some base) (Some q) (scale_of s) (short_signed_of (fewest_bytes lg low d)) false) same ∙ ap (λ (v : ℤ). mem_of (Some base) (Some index) (scale_of s) v false) k.signed;
      low = parts.2;
      mid_is = parts.3;
      sib_is = sym (sib_one m parts.2 parts.1);
      disp_is = disp_fits lg m low fm (s ∷ []) (fewest_bytes lg low d) refl k.is parts.0 parts.2;
      sib_bytes = one_byte s st;
      disp_bytes = k.is.bytes;
    }
