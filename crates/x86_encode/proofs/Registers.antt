-- Places, registers and REX: what the plain spelling needs, and that it is read back.
use Rattle.std.proofs.Common.{◌≡◌, ℕ, ◌+◌, ◌-◌, ◌*◌, ◌/◌, ◌%◌, ◌<◌, ◌≤◌, Bool, true, false, cond, List, [], ◌∷◌, length, Option, Some, None, refl, sym, ap, subst, ◌∙◌, arith, inl, inr}
use Rattle.std.specs.Prelude.{◌&&◌, nat_lt, nat_le}
use Rattle.std.proofs.lemmas.Bool.{cases_lt, cases_eq, lt-ltb, le-ltb, le-leb, lt-leb, and_from, and_parts, leb-true}
use Rattle.x86_grammar.specs.declared.head.Rex.{Rex}
use Rattle.vm_law.specs.declared.insn.Mem.{Mem}
use Rattle.vm_law.specs.declared.insn.Width.{Width}
use Rattle.vm_law.specs.declared.insn.Width.TheVariants as width
use Rattle.vm_law.specs.declared.insn.Loc.{Loc}
use Rattle.vm_law.specs.declared.insn.Loc.TheVariants as loc
use Rattle.x86_grammar.specs.Operands.{general_register}
use Rattle.x86_encode.proofs.Total.{eight, rex_x, rex_base, sib_len, disp_len, short_signed_of, scale_of, address, register}
use Rattle.x86_grammar.specs.Grammar.{IsBytes}
use Rattle.x86_encode.specs.Inside.Place.{Place, fewest_mode, fewest_bytes, scale_bits, place_of}
use Rattle.x86_encode.specs.Inside.Plain.{low_of, bit_of, wants_rex, e_place}
use Rattle.x86_encode.proofs.Places.{IsDisp, at_place, mem_of, x_cases, b_cases, four_back, bare_rip, bare_base, rip_place, sib_place, bare_place, sib_none, sib_some, base_none, base_some, no_base_place, index_place, both_place, sib_back, base_low, long_disp, plain_disp, cases_both, sib_one, sib_two}
use Rattle.x86_encode.proofs.Again.{Again, again_rip, again_bare, again_sib, again_neither, again_index, again_both}

carry : (mem mem' : Mem) (pl pl' : Place) (rex : Option Rex) (mid : ℕ) → mem ≡ mem' → pl ≡ pl' → rex_x rex ≡ eight pl.x → rex_base rex ≡ eight pl.b → (rex_x rex ≡ eight pl'.x → rex_base rex ≡ eight pl'.b → Again mem' pl' rex mid) → Again mem pl rex mid
carry mem mem' pl pl' rex mid p q x b f =
    let a = f (subst (λ (k : Place). rex_x rex ≡ eight k.x) q x) (subst (λ (k : Place). rex_base rex ≡ eight k.b) q b) in
    subst (λ (k : Mem). Again k pl rex mid) (sym p) (subst (λ (k : Place). Again mem' k rex mid) (sym q) a)

small_base : (low : ℕ) (rex : Option Rex) → low < 8 → low + rex_base rex < 16
small_base low rex l = elim (b_cases rex) [ inl z ↦ omega arith | inr z ↦ omega arith ]

small_index : (low : ℕ) (rex : Option Rex) → low < 8 → low + rex_x rex < 16
small_index low rex l = elim (x_cases rex) [ inl z ↦ omega arith | inr z ↦ omega arith ]

index_low : (s : ℕ) (rex : Option Rex) → (s / 8 % 8 + rex_x rex) % 8 ≡ s / 8 % 8
index_low s rex = elim (x_cases rex) [ inl z ↦ omega arith | inr z ↦ omega arith ]

module _ (lg : Bool) (m : ℕ) (rex : Option Rex) (disp : List ℕ) (rex2 : Option Rex) (mid : ℕ) (lt : mid < 8) where
  bare_again : (m % 8 ≡ 4 → ⊥) → ((m < 64) × (m % 8 ≡ 5) → ⊥) → IsDisp lg (m / 64 * 64) (m % 8) disp → rex_x rex2 ≡ eight (place_of lg (address m rex [] disp)).x → rex_base rex2 ≡ eight (place_of lg (address m rex [] disp)).b → Again (address m rex [] disp) (place_of lg (address m rex [] disp)) rex2 mid
  bare_again no_sib no_rip i x b =
      let base = m % 8 + rex_base rex in
      let low = base_low m rex in
      let is = bare_base m rex disp no_rip in
      carry _ _ _ _ rex2 mid is (ap (place_of lg) is ∙ bare_place lg base false (short_signed_of disp) (λ f. no_sib (sym low ∙ f))) x b
      (λ x2 b2. again_bare lg base disp (m / 64 * 64) rex2 mid lt (small_base (m % 8) rex (omega arith)) (λ f. no_sib (sym low ∙ f)) (subst (λ (k : ℕ). IsDisp lg (m / 64 * 64) k disp) (sym low) i) b2)

  rip_again : m < 64 → m % 8 ≡ 5 → length disp ≡ 4 → IsBytes disp → rex_x rex2 ≡ eight (place_of lg (address m rex [] disp)).x → rex_base rex2 ≡ eight (place_of lg (address m rex [] disp)).b → Again (address m rex [] disp) (place_of lg (address m rex [] disp)) rex2 mid
  rip_again l e n bs x b =
      let is = bare_rip m rex disp l e in
      let back = four_back disp n bs in
      carry _ _ _ _ rex2 mid is (ap (place_of lg) is ∙ rip_place lg (short_signed_of disp) ∙ ap (λ (t : List ℕ). at_place 5 [] t false false) back) x b
      (λ x2 b2. again_rip (short_signed_of disp) disp rex2 mid lt n bs)

  neither_again : (s : ℕ) → m < 64 → s % 8 ≡ 5 → s / 8 % 8 + rex_x rex ≡ 4 → length disp ≡ 4 → IsBytes disp → rex_x rex2 ≡ eight (place_of lg (address m rex (s ∷ []) disp)).x → rex_base rex2 ≡ eight (place_of lg (address m rex (s ∷ []) disp)).b → Again (address m rex (s ∷ []) disp) (place_of lg (address m rex (s ∷ []) disp)) rex2 mid
  neither_again s l f g n bs x b =
      let d = short_signed_of disp in
      let is = sib_none m s rex disp g ∙ ap (λ (o : Option ℕ). mem_of o None 1 d false) (base_none m s rex l f) in
      carry _ _ _ _ rex2 mid is (ap (place_of lg) is ∙ no_base_place lg d ∙ ap (λ (t : List ℕ). at_place 4 (37 ∷ []) t false false) (four_back disp n bs)) x b
      (λ x2 b2. again_neither disp rex2 mid lt n bs x2)

  base_again : (s : ℕ) → ((m < 64) × (s % 8 ≡ 5) → ⊥) → s / 8 % 8 + rex_x rex ≡ 4 → IsDisp lg (m / 64 * 64) (s % 8) disp → rex_x rex2 ≡ eight (place_of lg (address m rex (s ∷ []) disp)).x → rex_base rex2 ≡ eight (place_of lg (address m rex (s ∷ []) disp)).b → Again (address m rex (s ∷ []) disp) (place_of lg (address m rex (s ∷ []) disp)) rex2 mid
  base_again s n g i x b =
      let d = short_signed_of disp in
      let base = s % 8 + rex_base rex in
      let low = base_low s rex in
      let is = sib_none m s rex disp g ∙ ap (λ (o : Option ℕ). mem_of o None 1 d false) (base_some m s rex n) in
      let j = subst (λ (k : ℕ). IsDisp lg (m / 64 * 64) k disp) (sym low) i in
      elim (cases_eq (base % 8) 4) [
        | inl four ↦ carry _ _ _ _ rex2 mid is (ap (place_of lg) is ∙ sib_place lg base false d four) x b
            (λ x2 b2. again_sib lg base disp (m / 64 * 64) rex2 mid lt (small_base (s % 8) rex (omega arith)) four j x2 b2)
        | inr other ↦ carry _ _ _ _ rex2 mid is (ap (place_of lg) is ∙ bare_place lg base false d other) x b
            (λ x2 b2. again_bare lg base disp (m / 64 * 64) rex2 mid lt (small_base (s % 8) rex (omega arith)) other j b2)
      ]

  index_again : (s : ℕ) → m < 64 → s < 256 → s % 8 ≡ 5 → (s / 8 % 8 + rex_x rex ≡ 4 → ⊥) → length disp ≡ 4 → IsBytes disp → rex_x rex2 ≡ eight (place_of lg (address m rex (s ∷ []) disp)).x → rex_base rex2 ≡ eight (place_of lg (address m rex (s ∷ []) disp)).b → Again (address m rex (s ∷ []) disp) (place_of lg (address m rex (s ∷ []) disp)) rex2 mid
  index_again s l st f g n bs x b =
      let d = short_signed_of disp in
      let index = s / 8 % 8 + rex_x rex in
      let is = sib_some m s rex disp g ∙ ap (λ (o : Option ℕ). mem_of o (Some index) (scale_of s) d false) (base_none m s rex l f) in
      carry _ _ _ _ rex2 mid is (ap (place_of lg) is ∙ index_place lg index (scale_of s) d ∙ ap (λ (t : List ℕ). at_place 4 ((scale_bits (scale_of s) + 8 * (index % 8) + 5) ∷ []) t (nat_le 8 index) false) (four_back disp n bs) ∙ ap (λ (k : ℕ). at_place 4 (k ∷ []) disp (nat_le 8 index) false) (sib_back s index 5 rex st refl (sym f))) x b
      (λ x2 b2. again_index s index disp rex2 mid lt st f (index_low s rex) (small_index (s / 8 % 8) rex (omega arith)) g n bs x2)

  both_again : (s : ℕ) → s < 256 → ((m < 64) × (s % 8 ≡ 5) → ⊥) → (s / 8 % 8 + rex_x rex ≡ 4 → ⊥) → IsDisp lg (m / 64 * 64) (s % 8) disp → rex_x rex2 ≡ eight (place_of lg (address m rex (s ∷ []) disp)).x → rex_base rex2 ≡ eight (place_of lg (address m rex (s ∷ []) disp)).b → Again (address m rex (s ∷ []) disp) (place_of lg (address m rex (s ∷ []) disp)) rex2 mid
  both_again s st n g i x b =
      let d = short_signed_of disp in
      let index = s / 8 % 8 + rex_x rex in
      let base = s % 8 + rex_base rex in
      let low = base_low s rex in
      let is = sib_some m s rex disp g ∙ ap (λ (o : Option ℕ). mem_of o (Some index) (scale_of s) d false) (base_some m s rex n) in
      carry _ _ _ _ rex2 mid is (ap (place_of lg) is ∙ both_place lg base index (scale_of s) d
      ∙ ap (λ (k : ℕ). at_place (fewest_mode lg k d + 4) ((scale_bits (scale_of s) + 8 * (index % 8) + k) ∷ []) (fewest_bytes lg k d) (nat_le 8 index) (nat_le 8 base)) low
      ∙ ap (λ (k : ℕ). at_place (fewest_mode lg (s % 8) d + 4) (k ∷ []) (fewest_bytes lg (s % 8) d) (nat_le 8 index) (nat_le 8 base)) (sib_back s index (s % 8) rex st refl refl)) x b
      (λ x2 b2. again_both lg s base index disp (m / 64 * 64) rex2 mid lt st low (small_base (s % 8) rex (omega arith)) (index_low s rex) (small_index (s / 8 % 8) rex (omega arith)) g i x2 b2)

-- the plain form of a place that is spelled is read back
pub place_again : (lg : Bool) → (m : ℕ) (rex : Option Rex) (sib disp : List ℕ) (rex2 : Option Rex) (mid : ℕ) → mid < 8 → m < 192 → length sib ≡ sib_len (m ∷ []) → length disp ≡ disp_len (m ∷ []) sib → IsBytes sib → IsBytes disp → (lg ≡ true → length disp ≡ 4)
    → rex_x rex2 ≡ eight (place_of lg (address m rex sib disp)).x → rex_base rex2 ≡ eight (place_of lg (address m rex sib disp)).b → Again (address m rex sib disp) (place_of lg (address m rex sib disp)) rex2 mid
place_again lg m rex [] disp rex2 mid lt l sl dl sb db long x b =
    let no_sib : m % 8 ≡ 4 → ⊥ = λ e. absurd (let one : 0 ≡ 1 = sl ∙ sib_one m l e in omega arith) in
    elim (cases_both m (m % 8)) [
      | inl c ↦ rip_again lg m rex disp rex2 mid lt c.0 c.1 (long_disp m [] disp c.0 c.1 dl) db x b
      | inr c ↦ bare_again lg m rex disp rex2 mid lt no_sib c (plain_disp lg m [] disp l c dl db long) x b
    ]
place_again lg m rex (s ∷ []) disp rex2 mid lt l sl dl sb db long x b =
    let st : s < 256 = sb 0 in
    elim (cases_both m (s % 8)) [
      | inl c ↦ elim (cases_eq (s / 8 % 8 + rex_x rex) 4) [
        | inl g ↦ neither_again lg m rex disp rex2 mid lt s c.0 c.1 g (long_disp m (s ∷ []) disp c.0 c.1 dl) db x b
        | inr g ↦ index_again lg m rex disp rex2 mid lt s c.0 st c.1 g (long_disp m (s ∷ []) disp c.0 c.1 dl) db x b
      ]
      | inr c ↦ elim (cases_eq (s / 8 % 8 + rex_x rex) 4) [
        | inl g ↦ base_again lg m rex disp rex2 mid lt s c g (plain_disp lg m (s ∷ []) disp l c dl db long) x b
        | inr g ↦ both_again lg m rex disp rex2 mid lt s st c g (plain_disp lg m (s ∷ []) disp l c dl db long) x b
      ]
    ]
place_again lg m rex (s ∷ t ∷ sib) disp rex2 mid lt l sl dl sb db long x b = absurd (sib_two m (length sib) sl)

-- ---- registers

pub record RegPart (w : Width) (rex : Option Rex) (n : ℕ) (l : Loc) : Type 0 where
  pub low : low_of l ≡ n % 8
  pub bit : bit_of l ≡ nat_le 8 n
  pub wants : wants_rex w l ≡ true → rex ≡ None → ⊥
  pub place : (lg : Bool) → e_place lg l ≡ record { mode = 192 + n % 8; sib = []; disp = []; x = false; b = nat_le 8 n }
  pub again : (rex2 : Option Rex) → (rex ≡ None → rex2 ≡ None) → (rex2 ≡ None → (wants_rex w l ≡ false) × (n < 8)) → register w rex2 n ≡ l

some_none : (r : Rex) → ◌≡◌ {A = Option Rex} (Some r) None → {P : Type 0} → P
some_none r e = absurd cc

reg_plain : (w : Width) (rex : Option Rex) (n : ℕ) → n < 16 → (wants_rex w (loc.Reg n) ≡ true → rex ≡ None → ⊥) → ((rex2 : Option Rex) → (rex ≡ None → rex2 ≡ None) → (rex2 ≡ None → (wants_rex w (loc.Reg n) ≡ false) × (n < 8)) → register w rex2 n ≡ loc.Reg n) → RegPart w rex n (loc.Reg n)
unfolding low_of bit_of e_place
reg_plain w rex n l wants again = record { low = refl; bit = refl; wants = wants; place = λ lg. refl; again = again }

byte_again : (rex2 : Option Rex) (n : ℕ) → (rex2 ≡ None → (wants_rex width.B (loc.Reg n) ≡ false) × (n < 8)) → register width.B rex2 n ≡ loc.Reg n
unfolding general_register
byte_again (Some r) n q = refl
byte_again None n q =
    let k = q refl in
    elim (cases_lt n 4) [
      | inl a ↦ ap (λ (t : Bool). cond t (loc.Reg n) (loc.High (n - 4))) (lt-ltb n 4 a)
      | inr a ↦ absurd (let t : (nat_le 4 n && nat_lt n 8) ≡ true = and_from _ _ (le-leb 4 n a) (lt-ltb n 8 k.1) in let bad : true ≡ false = sym t ∙ k.0 in cc bad)
    ]

high_place : (n : ℕ) → 4 ≤ n → n < 8 → at_place (196 + (n - 4) % 4) [] [] false false ≡ at_place (192 + n % 8) [] [] false (nat_le 8 n)
high_place n a l =
    let e : 196 + (n - 4) % 4 ≡ 192 + n % 8 = omega arith in
    ap (λ (k : ℕ). at_place k [] [] false false) e ∙ ap (λ (t : Bool). at_place (192 + n % 8) [] [] false t) (sym (lt-leb 8 n l))

byte_part : (n : ℕ) → n < 8 → RegPart width.B None n (cond (nat_lt n 4) (loc.Reg n) (loc.High (n - 4)))
unfolding general_register low_of bit_of e_place
byte_part n l =
    elim (cases_lt n 4) [
      | inl a ↦ subst (λ (t : Bool). RegPart width.B None n (cond t (loc.Reg n) (loc.High (n - 4)))) (sym (lt-ltb n 4 a))
          (record {
            low = refl;
            bit = refl;
            wants = λ e f. absurd (let k = and_parts _ _ e in let le : 4 ≤ n = leb-true _ _ k.0 in omega arith);
            place = λ lg. refl;
            again = λ rex2 p q. subst (λ (x : Option Rex). register width.B x n ≡ loc.Reg n) (sym (p refl)) (ap (λ (t : Bool). cond t (loc.Reg n) (loc.High (n - 4))) (lt-ltb n 4 a));
          })
      | inr a ↦ subst (λ (t : Bool). RegPart width.B None n (cond t (loc.Reg n) (loc.High (n - 4)))) (sym (le-ltb n 4 a))
          (record {
            low = omega arith;
            bit = sym (lt-leb 8 n l);
            wants = λ e. absurd cc;
            place = λ lg. high_place n a l;
            again = λ rex2 p q. subst (λ (x : Option Rex). register width.B x n ≡ loc.High (n - 4)) (sym (p refl)) (ap (λ (t : Bool). cond t (loc.Reg n) (loc.High (n - 4))) (le-ltb n 4 a));
          })
    ]

pub reg_part : (w : Width) (rex : Option Rex) (n : ℕ) → n < 16 → (rex ≡ None → n < 8) → RegPart w rex n (register w rex n)
unfolding general_register low_of bit_of e_place
reg_part width.W rex n l k = reg_plain width.W rex n l (λ e. absurd cc) (λ rex2 p q. refl)
reg_part width.D rex n l k = reg_plain width.D rex n l (λ e. absurd cc) (λ rex2 p q. refl)
reg_part width.Q rex n l k = reg_plain width.Q rex n l (λ e. absurd cc) (λ rex2 p q. refl)
reg_part width.B (Some r) n l k = reg_plain width.B (Some r) n l (λ e f. some_none r f) (λ rex2 p q. byte_again rex2 n q)
reg_part width.B None n l k = byte_part n (k refl)
