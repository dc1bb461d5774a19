-- The fields of a spelling against those of the plain one: registers, and all of ModRM.
use Rattle.std.proofs.Common.{◌≡◌, ℕ, zero, suc, ◌+◌, ◌*◌, ◌/◌, ◌%◌, ◌<◌, ◌≤◌, Bool, true, false, cond, List, [], ◌∷◌, ◌++◌, length, Option, Some, None, refl, sym, ap, subst, ◌∙◌, arith, ◌⊎◌, inl, inr}
use Rattle.std.specs.Prelude.{not, ◌&&◌, nat_lt, nat_le, ◌==◌, ℤ}
use Rattle.std.proofs.lemmas.Bool.{cases_lt, cases_Bool, and_parts, and_from, or_left, leb-true, ltb-true, le-leb, lt-ltb, lt-leb, eqb-true, eq-eqb, not-true}
use Rattle.std.proofs.lemmas.List.{nil_from_length, length-append, get_or_past}
use Rattle.x86_grammar.specs.declared.head.Rex.{Rex}
use Rattle.x86_grammar.specs.declared.head.Head.{Head}
use Rattle.vm_law.specs.declared.insn.Width.{Width}
use Rattle.vm_law.specs.declared.insn.Width.TheVariants as width
use Rattle.vm_law.specs.declared.insn.Loc.{Loc}
use Rattle.vm_law.specs.declared.insn.Loc.TheVariants as loc
use Rattle.x86_grammar.specs.declared.table.Form.{Form}
use Rattle.x86_grammar.specs.declared.table.Slash.{Slash}
use Rattle.x86_grammar.specs.declared.table.Slash.TheVariants as slash
use Rattle.x86_grammar.specs.declared.table.Side.{Side}
use Rattle.x86_grammar.specs.declared.table.Side.TheVariants as side
use Rattle.x86_grammar.specs.declared.table.Row.{Row}
use Rattle.x86_grammar.specs.Rows.{takes, fits, implies, fits_slash, fits_side, has_modrm}
use Rattle.x86_grammar.specs.Fields.{names_memory}
use Rattle.x86_grammar.proofs.Matching.{has_rm as has_e, has_reg as has_g}
use Rattle.x86_encode.proofs.Total.{eight, rex_x, rex_base, sib_len, disp_len, register, e_of, byte_of, register_is, memory_is}
use Rattle.x86_grammar.specs.Grammar.{IsBytes}
use Rattle.x86_encode.specs.Order.{lex_le}
use Rattle.x86_encode.specs.Inside.Place.{Place, fewest_mode, fits_none, fits_byte, no_index, with_index, place_at}
use Rattle.x86_encode.specs.Inside.Plain.{no_loc, low_of, bit_of, wants_rex, e_place, modrm_of}
use Rattle.x86_encode.proofs.Registers.{reg_part}
use Rattle.x86_encode.proofs.Operand.{operand, no_sib, no_disp, IsBytes-none}
use Rattle.x86_encode.proofs.Below.{Le, Le-same, Le-append}

-- ---- a register in three bits, with the bit of REX above them

pub record RegSlot (has : Bool) (w : Width) (rex : Option Rex) (low bit : ℕ) (l : Loc) : Type 0 where
  pub up : bit_of l ≡ true → 8 ≤ bit
  pub low_is : has ≡ true → low_of l ≡ low
  pub low_none : has ≡ false → low_of l ≡ 0
  pub bit_is : has ≡ true → bit_of l ≡ nat_le 8 (low + bit)
  pub wants : wants_rex w l ≡ true → rex ≡ None → ⊥
  pub again : (rex2 : Option Rex) (bit2 : ℕ) → (rex ≡ None → rex2 ≡ None) → (rex2 ≡ None → wants_rex w l ≡ false) → bit2 ≡ eight (bit_of l) → (rex2 ≡ None → bit2 ≡ 0) → has ≡ true → register w rex2 (low + bit2) ≡ l

pub no_loc_wants : (w : Width) → wants_rex w no_loc ≡ false
no_loc_wants width.B = refl
no_loc_wants width.W = refl
no_loc_wants width.D = refl
no_loc_wants width.Q = refl

pub no_loc_low : low_of no_loc ≡ 0
unfolding low_of
no_loc_low = refl

pub no_loc_bit : bit_of no_loc ≡ false
unfolding bit_of
no_loc_bit = refl

differ : {P : Type 0} (t : Bool) → t ≡ true → t ≡ false → P
differ t e f = absurd (let bad : true ≡ false = sym e ∙ f in cc bad)

none_slot : (w : Width) (rex : Option Rex) (low bit : ℕ) → RegSlot false w rex low bit no_loc
none_slot w rex low bit = record {
  up = λ t. differ (bit_of no_loc) t no_loc_bit;
  low_is = λ t. absurd cc;
  low_none = λ t. no_loc_low;
  bit_is = λ t. absurd cc;
  wants = λ t. differ (wants_rex w no_loc) t (no_loc_wants w);
  again = λ rex2 bit2 p q r s t. absurd cc;
}

up_is : (low bit : ℕ) → low < 8 → (bit ≡ 0) ⊎ (bit ≡ 8) → nat_le 8 (low + bit) ≡ true → 8 ≤ bit
up_is low bit l o t = let le : 8 ≤ low + bit = leb-true 8 (low + bit) t in elim o [ inl z ↦ absurd (omega arith) | inr z ↦ omega arith ]

again_is : (low bit bit2 : ℕ) → low < 8 → (bit ≡ 0) ⊎ (bit ≡ 8) → bit2 ≡ eight (nat_le 8 (low + bit)) → low + bit2 ≡ low + bit
again_is low bit bit2 l o e =
    elim o [
      | inl z ↦ let f : bit2 ≡ 0 = e ∙ ap eight (lt-leb 8 (low + bit) (omega arith)) in omega arith
      | inr z ↦ let f : bit2 ≡ 8 = e ∙ ap eight (le-leb 8 (low + bit) (omega arith)) in omega arith
    ]

some_slot : (w : Width) (rex : Option Rex) (low bit : ℕ) → low < 8 → (bit ≡ 0) ⊎ (bit ≡ 8) → (rex ≡ None → bit ≡ 0) → RegSlot true w rex low bit (register w rex (low + bit))
some_slot w rex low bit l o n =
    let small : low + bit < 16 = elim o [ inl z ↦ omega arith | inr z ↦ omega arith ] in
    let k = reg_part w rex (low + bit) small (λ e. let z : bit ≡ 0 = n e in omega arith) in
    record {
      up = λ t. up_is low bit l o (sym k.bit ∙ t);
      low_is = λ t. k.low ∙ elim o [ inl z ↦ omega arith | inr z ↦ omega arith ];
      low_none = λ t. absurd cc;
      bit_is = λ t. k.bit;
      wants = k.wants;
      again = λ rex2 bit2 p q r s t.
          let same : low + bit2 ≡ low + bit = again_is low bit bit2 l o (r ∙ ap eight k.bit) in
          ap (register w rex2) same ∙ k.again rex2 p (λ e. (q e, let z : bit2 ≡ 0 = s e in omega arith));
    }

pub reg_slot : (has : Bool) (w : Width) (rex : Option Rex) (low bit : ℕ) (l : Loc) → low < 8 → (bit ≡ 0) ⊎ (bit ≡ 8) → (rex ≡ None → bit ≡ 0) → (has ≡ true → l ≡ register w rex (low + bit)) → (has ≡ false → l ≡ no_loc) → RegSlot has w rex low bit l
reg_slot true w rex low bit l lt o n p q = subst (λ (k : Loc). RegSlot true w rex low bit k) (sym (p refl)) (some_slot w rex low bit lt o n)
reg_slot false w rex low bit l lt o n p q = subst (λ (k : Loc). RegSlot false w rex low bit k) (sym (q refl)) (none_slot w rex low bit)

-- ---- what a row says of ModRM

abbrev pub fits_rest : Slash → Side → Bool → List ℕ → Bool
fits_rest s d lock [] = not (has_modrm s)
fits_rest s d lock (m ∷ []) = fits_slash s m && (fits_side d m && implies lock (names_memory m))
fits_rest s d lock (m ∷ n ∷ ms) = false

pub fits_split : (row : Row) (h : Head) (ms : List ℕ) → fits row h ms ≡ true → (takes row h ≡ true) × (fits_rest row.slash row.side h.prefixes.lock ms ≡ true)
unfolding fits
fits_split row h [] e = and_parts _ _ e
fits_split row h (m ∷ []) e = and_parts _ _ e
fits_split row h (m ∷ n ∷ ms) e = absurd cc

pub fits_join : (row : Row) (h : Head) (ms : List ℕ) → takes row h ≡ true → fits_rest row.slash row.side h.prefixes.lock ms ≡ true → fits row h ms ≡ true
unfolding fits
fits_join row h [] t r = and_from _ _ t r
fits_join row h (m ∷ []) t r = and_from _ _ t r
fits_join row h (m ∷ n ∷ ms) t r = absurd cc

-- which forms have which ModRM byte
abbrev pub slash_ok : Form → Slash → Bool
slash_ok f slash.None = not (has_e f)
slash_ok f slash.Any = has_e f
slash_ok f (slash.Digit d) = has_e f && not (has_g f)
slash_ok f (slash.Byte b) = not (has_e f) && (nat_le 192 b && nat_lt b 256)

pub one_modrm : (f : Form) (s : Slash) (d : Side) (lock : Bool) (ms : List ℕ) → slash_ok f s ≡ true → has_e f ≡ true → fits_rest s d lock ms ≡ true → ms ≡ byte_of ms ∷ []
one_modrm f slash.None d lock ms o e r = absurd (let bad : true ≡ false = sym o ∙ ap not e in cc bad)
one_modrm f slash.Any d lock [] o e r = absurd cc
one_modrm f (slash.Digit b) d lock [] o e r = absurd cc
one_modrm f (slash.Byte b) d lock ms o e r = absurd (let k = and_parts (not (has_e f)) _ o in let bad : true ≡ false = sym k.0 ∙ ap not e in cc bad)
one_modrm f slash.Any d lock (m ∷ []) o e r = refl
one_modrm f (slash.Digit b) d lock (m ∷ []) o e r = refl
one_modrm f slash.Any d lock (m ∷ n ∷ ms) o e r = absurd cc
one_modrm f (slash.Digit b) d lock (m ∷ n ∷ ms) o e r = absurd cc

pub one_byte : (m : ℕ) → m < 256 → IsBytes (m ∷ [])
one_byte m lt zero = lt
one_byte m lt (suc i) = omega (arith, get_or_past {X = ℕ} [] i 0 (omega arith))

pub record ModrmAgain (f : Form) (s : Slash) (d : Side) (w : Width) (rex : Option Rex) (ms : List ℕ) (e : Loc) (pl : Place) (g : ℕ) : Type 0 where
  pub modrm_bytes : IsBytes (modrm_of s pl.mode g)
  pub sib_bytes : IsBytes pl.sib
  pub disp_bytes : IsBytes pl.disp
  pub e_is : has_e f ≡ true → e_of w rex (byte_of (modrm_of s pl.mode g)) pl.sib pl.disp ≡ e
  pub g_is : has_g f ≡ true → byte_of (modrm_of s pl.mode g) / 8 % 8 ≡ g
  pub same_byte : has_e f ≡ false → byte_of (modrm_of s pl.mode g) ≡ byte_of ms
  pub sib_is : length pl.sib ≡ sib_len (modrm_of s pl.mode g)
  pub disp_is : length pl.disp ≡ disp_len (modrm_of s pl.mode g) pl.sib
  pub fits : (lock : Bool) → fits_rest s d lock ms ≡ true → fits_rest s d lock (modrm_of s pl.mode g) ≡ true

pub record ModrmPart (lg : Bool) (f : Form) (s : Slash) (d : Side) (w : Width) (rex : Option Rex) (ms sib disp : List ℕ) (e : Loc) (pl : Place) (g : ℕ) : Type 0 where
  pub x : pl.x ≡ true → 8 ≤ rex_x rex
  pub b : pl.b ≡ true → 8 ≤ rex_base rex
  pub b_none : has_e f ≡ false → pl.b ≡ false
  pub wants : wants_rex w e ≡ true → rex ≡ None → ⊥
  pub long : lg ≡ true → length pl.disp ≡ 4
  pub le : Le (modrm_of s pl.mode g ++ (pl.sib ++ pl.disp)) (ms ++ (sib ++ disp))
  pub again : (rex2 : Option Rex) → (rex ≡ None → rex2 ≡ None) → (rex2 ≡ None → wants_rex w e ≡ false) → rex_x rex2 ≡ eight pl.x → (has_e f ≡ true → rex_base rex2 ≡ eight pl.b) → ModrmAgain f s d w rex2 ms e pl g

-- ---- no operand in ModRM

none_part : (lg : Bool) (f : Form) (d : Side) (w : Width) (rex : Option Rex) (g : ℕ) → has_e f ≡ false → has_g f ≡ false → (lg ≡ true → ⊥) → ModrmPart lg f slash.None d w rex [] [] [] no_loc (e_place lg no_loc) g
unfolding e_place modrm_of disp_len
none_part lg f d w rex g ne ng long = record {
  x = λ t. absurd (cc t);
  b = λ t. absurd (cc t);
  b_none = λ t. refl;
  wants = λ t. differ (wants_rex w no_loc) t (no_loc_wants w);
  long = λ t. absurd (long t);
  le = Le-same [] [] refl;
  again = λ rex2 p q x b. record {
    modrm_bytes = IsBytes-none;
    sib_bytes = IsBytes-none;
    disp_bytes = IsBytes-none;
    e_is = λ t. differ (has_e f) t ne;
    g_is = λ t. differ (has_g f) t ng;
    same_byte = λ t. refl;
    sib_is = refl;
    disp_is = refl;
    fits = λ lock t. refl;
  };
}

fixed_part : (lg : Bool) (f : Form) (c : ℕ) (d : Side) (w : Width) (rex : Option Rex) (g : ℕ) → has_e f ≡ false → has_g f ≡ false → 192 ≤ c → c < 256 → (lg ≡ true → ⊥) → ModrmPart lg f (slash.Byte c) d w rex (c ∷ []) [] [] no_loc (e_place lg no_loc) g
unfolding e_place modrm_of
fixed_part lg f c d w rex g ne ng high low long = record {
  x = λ t. absurd (cc t);
  b = λ t. absurd (cc t);
  b_none = λ t. refl;
  wants = λ t. differ (wants_rex w no_loc) t (no_loc_wants w);
  long = λ t. absurd (long t);
  le = Le-same (c ∷ []) (c ∷ []) refl;
  again = λ rex2 p q x b. record {
    modrm_bytes = one_byte c low;
    sib_bytes = IsBytes-none;
    disp_bytes = IsBytes-none;
    e_is = λ t. differ (has_e f) t ne;
    g_is = λ t. differ (has_g f) t ng;
    same_byte = λ t. refl;
    sib_is = sym (no_sib c high);
    disp_is = sym (no_disp c [] high);
    fits = λ lock t. t;
  };
}

-- ---- an operand in ModRM

abbrev mode_at : Bool → Bool → ℕ
mode_at t u = cond t 0 (cond u 64 128)

mode_at_most : (t u : Bool) → mode_at t u ≤ 128
mode_at_most true u = omega arith
mode_at_most false true = omega arith
mode_at_most false false = omega arith

fewest_small : (lg : Bool) (low : ℕ) (z : ℤ) → fewest_mode lg low z ≤ 128
unfolding fewest_mode
fewest_small lg low z = mode_at_most (fits_none lg low z) (fits_byte lg z)

either_small : (t : Bool) (p q : Place) → p.mode < 200 → q.mode < 200 → (cond t p q).mode < 200
either_small true p q a b = a
either_small false p q a b = b

place_small : (lg : Bool) (index base : Option ℕ) (rip : Bool) (scale : ℕ) (z : ℤ) → (place_at lg index base rip scale z).mode < 200
unfolding no_index with_index
place_small lg None None true scale z = omega arith
place_small lg None None false scale z = omega arith
place_small lg None (Some base) rip scale z = either_small (base % 8 == 4) _ _ (omega (arith, fewest_small lg (base % 8) z)) (omega (arith, fewest_small lg (base % 8) z))
place_small lg (Some index) None rip scale z = omega arith
place_small lg (Some index) (Some base) rip scale z = omega (arith, fewest_small lg (base % 8) z)

mode_small : (lg : Bool) (l : Loc) → (e_place lg l).mode < 200
unfolding e_place
mode_small lg (loc.Reg n) = omega arith
mode_small lg (loc.High n) = omega arith
mode_small lg (loc.Mem m) = place_small lg m.index m.base m.rip m.scale m.disp

-- the ModRM byte, the SIB byte and the displacement together
tail_le : (m m2 : ℕ) (s s2 d d2 : List ℕ) → length s2 ≤ length s → length d2 ≤ length d → (length s2 ≡ length s → length d2 ≡ length d → (m2 ≤ m) × (lex_le s2 s ≡ true) × (d2 ≡ d)) → Le ((m2 ∷ []) ++ (s2 ++ d2)) ((m ∷ []) ++ (s ++ d))
tail_le m m2 s s2 d d2 a b f =
    let l1 = length-append s2 d2 in
    let l2 = length-append s d in
    record {
      len = omega arith;
      lex = λ e.
          let es : length s2 ≡ length s = omega arith in
          let ed : length d2 ≡ length d = omega arith in
          let k = f es ed in
          elim (cases_lt m2 m) [
            | inl lt ↦ or_left (nat_lt m2 m) ((m2 == m) && lex_le (s2 ++ d2) (s ++ d)) (lt-ltb m2 m lt)
            | inr ge ↦
                let same : m2 ≡ m = omega (arith, k.0) in
                let sd : Le s2 s = record { len = a; lex = λ q. k.1 } in
                (Le-append (m2 ∷ []) (m ∷ []) (s2 ++ d2) (s ++ d) (Le-same (m2 ∷ []) (m ∷ []) (ap (λ (n : ℕ). n ∷ []) same)) (Le-append s2 s d2 d sd (Le-same d2 d k.2))).lex e
          ];
    }

in_side : (d : Side) (m m2 : ℕ) → m < 256 → m2 < 256 → (m < 192 → m2 < 192) → (192 ≤ m → 192 ≤ m2) → fits_side d m ≡ true → fits_side d m2 ≡ true
in_side side.Any m m2 l k p q t = refl
in_side side.Mem m m2 l k p q t = memory_is m2 k ∙ lt-ltb m2 192 (p (ltb-true m 192 (sym (memory_is m l) ∙ t)))
in_side side.Reg m m2 l k p q t = register_is m2 k ∙ le-leb 192 m2 (q (leb-true 192 m (sym (register_is m l) ∙ t)))

in_lock : (lock : Bool) (m m2 : ℕ) → m < 256 → m2 < 256 → (m < 192 → m2 < 192) → implies lock (names_memory m) ≡ true → implies lock (names_memory m2) ≡ true
in_lock true m m2 l k p t = memory_is m2 k ∙ lt-ltb m2 192 (p (ltb-true m 192 (sym (memory_is m l) ∙ t)))
in_lock false m m2 l k p t = refl

mid_fits : (m md mid : ℕ) → md ≡ m / 64 * 64 + m % 8 → mid ≤ m / 8 % 8 → m < 256 → md + mid * 8 ≤ m
mid_fits m md mid e l b = omega arith

module _ (lg : Bool) (f : Form) (s : Slash) (d : Side) (w : Width) (rex : Option Rex) (m : ℕ) (sib disp : List ℕ) (g mid : ℕ)
    (has : has_e f ≡ true) (byte : m < 256) (sl : length sib ≡ sib_len (m ∷ [])) (dl : length disp ≡ disp_len (m ∷ []) sib) (sb : IsBytes sib) (db : IsBytes disp) (long : lg ≡ true → length disp ≡ 4)
    (mid_low : mid ≤ m / 8 % 8) (mid_is : has_g f ≡ true → mid ≡ g)
    (modrm_is : modrm_of s (e_place lg (e_of w rex m sib disp)).mode g ≡ ((e_place lg (e_of w rex m sib disp)).mode + mid * 8) ∷ [])
    (slash_fits : (m2 : ℕ) → m2 / 8 % 8 ≡ mid → fits_slash s m2 ≡ true) where
  some_part : ModrmPart lg f s d w rex (m ∷ []) sib disp (e_of w rex m sib disp) (e_place lg (e_of w rex m sib disp)) g
  some_part =
      let e = e_of w rex m sib disp in
      let pl = e_place lg e in
      let m2 = pl.mode + mid * 8 in
      let k = operand lg w rex m sib disp byte sl dl sb db long in
      let le = tail_le m m2 sib pl.sib disp pl.disp k.sib_le k.disp_le (λ p q. let same = k.same p q in (mid_fits m pl.mode mid same.0 mid_low byte, same.1, same.2)) in
      record {
        x = k.x;
        b = k.b;
        b_none = λ t. differ (has_e f) has t;
        wants = k.wants;
        long = k.long;
        le = subst (λ (l : List ℕ). Le (l ++ (pl.sib ++ pl.disp)) ((m ∷ []) ++ (sib ++ disp))) (sym modrm_is) le;
        again = λ rex2 p q x b.
            let a = k.again rex2 mid (omega arith) p q x (b has) in
            let small = a.small in
            record {
              modrm_bytes = subst IsBytes (sym modrm_is) (one_byte m2 small);
              sib_bytes = a.sib_bytes;
              disp_bytes = a.disp_bytes;
              e_is = λ t. ap (λ (l : List ℕ). e_of w rex2 (byte_of l) pl.sib pl.disp) modrm_is ∙ a.back;
              g_is = λ t. ap (λ (l : List ℕ). byte_of l / 8 % 8) modrm_is ∙ a.mid_is ∙ mid_is t;
              same_byte = λ t. differ (has_e f) has t;
              sib_is = a.sib_is ∙ ap sib_len (sym modrm_is);
              disp_is = a.disp_is ∙ ap (λ (l : List ℕ). disp_len l pl.sib) (sym modrm_is);
              fits = λ lock t.
                  let t1 = and_parts (fits_slash s m) (fits_side d m && implies lock (names_memory m)) t in
                  let t2 = and_parts (fits_side d m) (implies lock (names_memory m)) t1.1 in
                  subst (λ (l : List ℕ). fits_rest s d lock l ≡ true) (sym modrm_is) (and_from (fits_slash s m2) (fits_side d m2 && implies lock (names_memory m2)) (slash_fits m2 a.mid_is) (and_from (fits_side d m2) (implies lock (names_memory m2)) (in_side d m m2 byte small a.in_memory a.in_register t2.0) (in_lock lock m m2 byte small a.in_memory t2.1)));
            };
      }

any_modrm : (md g : ℕ) → md < 200 → g < 8 → modrm_of slash.Any md g ≡ (md + g * 8) ∷ []
unfolding modrm_of
any_modrm md g l k = let e : (md + g * 8) % 256 ≡ md + g * 8 = omega arith in ap (λ (n : ℕ). n ∷ []) e

digit_modrm : (md g b : ℕ) → md < 200 → b < 8 → modrm_of (slash.Digit b) md g ≡ (md + b * 8) ∷ []
unfolding modrm_of
digit_modrm md g b l k = let e : (md + b * 8 % 256) % 256 ≡ md + b * 8 = omega arith in ap (λ (n : ℕ). n ∷ []) e

slash_byte : (c m : ℕ) → (m == c) ≡ true → m ≡ c
slash_byte c m e = eqb-true m c e

not_false : (t : Bool) → not t ≡ true → t ≡ false
not_false t e = not-true t e

-- ModRM as it is spelled, against its plain form
pub modrm_part : (lg : Bool) (f : Form) (s : Slash) (d : Side) (lock : Bool) (w : Width) (rex : Option Rex) (ms sib disp : List ℕ) (e : Loc) (g : ℕ)
    → slash_ok f s ≡ true → (has_e f ≡ false → has_g f ≡ false) → fits_rest s d lock ms ≡ true → IsBytes ms → length sib ≡ sib_len ms → length disp ≡ disp_len ms sib → IsBytes sib → IsBytes disp → (lg ≡ true → length disp ≡ 4)
    → (has_e f ≡ true → e ≡ e_of w rex (byte_of ms) sib disp) → (has_e f ≡ false → e ≡ no_loc) → (has_g f ≡ true → g ≡ byte_of ms / 8 % 8) → (has_g f ≡ false → g ≡ 0)
    → ModrmPart lg f s d w rex ms sib disp e (e_place lg e) g
unfolding disp_len
modrm_part lg f slash.None d lock w rex [] sib disp e g ok ge fit mb sl dl sb db long p q r u =
    let ne = not_false (has_e f) ok in
    let s0 : sib ≡ [] = nil_from_length sib sl in
    let d0 : disp ≡ [] = nil_from_length disp dl in
    subst (λ (k : Loc). ModrmPart lg f slash.None d w rex [] sib disp k (e_place lg k) g) (sym (q ne))
    (subst (λ (k : List ℕ). ModrmPart lg f slash.None d w rex [] k disp no_loc (e_place lg no_loc) g) (sym s0)
    (subst (λ (k : List ℕ). ModrmPart lg f slash.None d w rex [] [] k no_loc (e_place lg no_loc) g) (sym d0)
    (none_part lg f d w rex g ne (ge ne) (λ t. absurd (omega (arith, ap length d0, long t))))))
modrm_part lg f slash.None d lock w rex (m ∷ []) sib disp e g ok ge fit mb sl dl sb db long p q r u = absurd cc
modrm_part lg f (slash.Byte c) d lock w rex [] sib disp e g ok ge fit mb sl dl sb db long p q r u = absurd cc
modrm_part lg f (slash.Byte c) d lock w rex (m ∷ []) sib disp e g ok ge fit mb sl dl sb db long p q r u =
    let k = and_parts (not (has_e f)) (nat_le 192 c && nat_lt c 256) ok in
    let b = and_parts (nat_le 192 c) (nat_lt c 256) k.1 in
    let high : 192 ≤ c = leb-true 192 c b.0 in
    let low : c < 256 = ltb-true c 256 b.1 in
    let ne = not_false (has_e f) k.0 in
    let t = and_parts (m == c) (fits_side d m && implies lock (names_memory m)) fit in
    let same : m ≡ c = slash_byte c m t.0 in
    let highm : 192 ≤ m = omega arith in
    let s0 : sib ≡ [] = nil_from_length sib (sl ∙ no_sib m highm) in
    let d0 : disp ≡ [] = nil_from_length disp (dl ∙ no_disp m sib highm) in
    subst (λ (k : Loc). ModrmPart lg f (slash.Byte c) d w rex (m ∷ []) sib disp k (e_place lg k) g) (sym (q ne))
    (subst (λ (k : List ℕ). ModrmPart lg f (slash.Byte c) d w rex (m ∷ []) k disp no_loc (e_place lg no_loc) g) (sym s0)
    (subst (λ (k : List ℕ). ModrmPart lg f (slash.Byte c) d w rex (m ∷ []) [] k no_loc (e_place lg no_loc) g) (sym d0)
    (subst (λ (k : ℕ). ModrmPart lg f (slash.Byte c) d w rex (k ∷ []) [] [] no_loc (e_place lg no_loc) g) (sym same)
    (fixed_part lg f c d w rex g ne (ge ne) high low (λ t. absurd (omega (arith, ap length d0, long t)))))))
modrm_part lg f slash.Any d lock w rex [] sib disp e g ok ge fit mb sl dl sb db long p q r u = absurd cc
modrm_part lg f slash.Any d lock w rex (m ∷ []) sib disp e g ok ge fit mb sl dl sb db long p q r u =
    let low : g ≤ m / 8 % 8 = elim (cases_Bool (has_g f)) [ inl t ↦ omega (arith, r t) | inr t ↦ omega (arith, u t) ] in
    subst (λ (k : Loc). ModrmPart lg f slash.Any d w rex (m ∷ []) sib disp k (e_place lg k) g) (sym (p ok))
    (some_part lg f slash.Any d w rex m sib disp g g ok (mb 0) sl dl sb db long low (λ t. refl) (any_modrm (e_place lg (e_of w rex m sib disp)).mode g (mode_small lg (e_of w rex m sib disp)) (omega arith)) (λ m2 t. refl))
modrm_part lg f (slash.Digit c) d lock w rex [] sib disp e g ok ge fit mb sl dl sb db long p q r u = absurd cc
modrm_part lg f (slash.Digit c) d lock w rex (m ∷ []) sib disp e g ok ge fit mb sl dl sb db long p q r u =
    let k = and_parts (has_e f) (not (has_g f)) ok in
    let t = and_parts (m / 8 % 8 == c) (fits_side d m && implies lock (names_memory m)) fit in
    let same : m / 8 % 8 ≡ c = eqb-true (m / 8 % 8) c t.0 in
    subst (λ (l : Loc). ModrmPart lg f (slash.Digit c) d w rex (m ∷ []) sib disp l (e_place lg l) g) (sym (p k.0))
    (some_part lg f (slash.Digit c) d w rex m sib disp g c k.0 (mb 0) sl dl sb db long (omega arith) (λ t. differ (has_g f) t (not_false (has_g f) k.1)) (digit_modrm (e_place lg (e_of w rex m sib disp)).mode g c (mode_small lg (e_of w rex m sib disp)) (omega arith)) (λ m2 t. eq-eqb (m2 / 8 % 8) c t))
modrm_part lg f slash.None d lock w rex (m ∷ n ∷ ms) sib disp e g ok ge fit mb sl dl sb db long p q r u = absurd cc
modrm_part lg f slash.Any d lock w rex (m ∷ n ∷ ms) sib disp e g ok ge fit mb sl dl sb db long p q r u = absurd cc
modrm_part lg f (slash.Digit c) d lock w rex (m ∷ n ∷ ms) sib disp e g ok ge fit mb sl dl sb db long p q r u = absurd cc
modrm_part lg f (slash.Byte c) d lock w rex (m ∷ n ∷ ms) sib disp e g ok ge fit mb sl dl sb db long p q r u = absurd cc
