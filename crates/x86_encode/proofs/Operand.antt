-- The operand in a ModRM byte's last field, a register or a place.
use Rattle.std.proofs.Common.{◌≡◌, ℕ, ◌+◌, ◌*◌, ◌/◌, ◌%◌, ◌<◌, ◌≤◌, Bool, true, false, cond, List, [], ◌∷◌, length, Option, Some, None, refl, sym, ap, subst, ◌∙◌, arith, inl, inr}
use Rattle.std.specs.Prelude.{ℤ, nat_le, ◌==◌}
use Rattle.std.proofs.lemmas.Bool.{cases_lt, le-ltb, le-leb, lt-leb, and_left, leb-true}
use Rattle.std.proofs.lemmas.List.{nil_from_length, get_or_past}
use Rattle.x86_grammar.specs.declared.head.Rex.{Rex}
use Rattle.vm_law.specs.declared.insn.Mem.{Mem}
use Rattle.vm_law.specs.declared.insn.Width.{Width}
use Rattle.vm_law.specs.declared.insn.Width.TheVariants as width
use Rattle.vm_law.specs.declared.insn.Loc.{Loc}
use Rattle.vm_law.specs.declared.insn.Loc.TheVariants as loc
use Rattle.x86_encode.proofs.Total.{eight, rex_x, rex_base, sib_len, disp_len, base_field, address, register, e_of}
use Rattle.x86_grammar.specs.Grammar.{IsBytes}
use Rattle.x86_encode.specs.Order.{lex_le}
use Rattle.x86_encode.specs.Inside.Place.{Place, fewest_bytes, no_index, with_index, place_at, place_of}
use Rattle.x86_encode.specs.Inside.Plain.{wants_rex, e_place}
use Rattle.x86_encode.proofs.Places.{b_cases, below}
use Rattle.x86_encode.proofs.Registers.{reg_part, place_again}

pub record Reread (w : Width) (e : Loc) (pl : Place) (rex : Option Rex) (m mid : ℕ) : Type 0 where
  pub back : e_of w rex (pl.mode + mid * 8) pl.sib pl.disp ≡ e
  pub small : pl.mode + mid * 8 < 256
  pub mid_is : (pl.mode + mid * 8) / 8 % 8 ≡ mid
  pub in_memory : m < 192 → pl.mode + mid * 8 < 192
  pub in_register : 192 ≤ m → 192 ≤ pl.mode + mid * 8
  pub sib_is : length pl.sib ≡ sib_len ((pl.mode + mid * 8) ∷ [])
  pub disp_is : length pl.disp ≡ disp_len ((pl.mode + mid * 8) ∷ []) pl.sib
  pub sib_bytes : IsBytes pl.sib
  pub disp_bytes : IsBytes pl.disp

pub record Operand (lg : Bool) (w : Width) (rex : Option Rex) (m : ℕ) (sib disp : List ℕ) (e : Loc) (pl : Place) : Type 0 where
  pub sib_le : length pl.sib ≤ length sib
  pub disp_le : length pl.disp ≤ length disp
  pub x : pl.x ≡ true → 8 ≤ rex_x rex
  pub b : pl.b ≡ true → 8 ≤ rex_base rex
  pub same : length pl.sib ≡ length sib → length pl.disp ≡ length disp → (pl.mode ≡ m / 64 * 64 + m % 8) × (lex_le pl.sib sib ≡ true) × (pl.disp ≡ disp)
  pub long : lg ≡ true → length pl.disp ≡ 4
  pub wants : wants_rex w e ≡ true → rex ≡ None → ⊥
  pub again : (rex2 : Option Rex) (mid : ℕ) → mid < 8 → (rex ≡ None → rex2 ≡ None) → (rex2 ≡ None → wants_rex w e ≡ false) → rex_x rex2 ≡ eight pl.x → rex_base rex2 ≡ eight pl.b → Reread w e pl rex2 m mid

no_wants : (w : Width) (mem : Mem) → wants_rex w (loc.Mem mem) ≡ false
no_wants width.B mem = refl
no_wants width.W mem = refl
no_wants width.D mem = refl
no_wants width.Q mem = refl

pub e_mem : (w : Width) (rex : Option Rex) (m : ℕ) (sib disp : List ℕ) → m < 192 → e_of w rex m sib disp ≡ loc.Mem (address m rex sib disp)
unfolding e_of
e_mem w rex m sib disp l = ap (λ (t : Bool). cond t (register w rex (m % 8 + rex_base rex)) (loc.Mem (address m rex sib disp))) (lt-leb 192 m l)

pub e_reg : (w : Width) (rex : Option Rex) (m : ℕ) (sib disp : List ℕ) → 192 ≤ m → e_of w rex m sib disp ≡ register w rex (m % 8 + rex_base rex)
unfolding e_of
e_reg w rex m sib disp l = ap (λ (t : Bool). cond t (register w rex (m % 8 + rex_base rex)) (loc.Mem (address m rex sib disp))) (le-leb 192 m l)

place_mem : (lg : Bool) → (mem : Mem) → e_place lg (loc.Mem mem) ≡ place_of lg mem
unfolding e_place
place_mem lg mem = refl

base_long : (t : Bool) (p q : Place) → length p.disp ≡ 4 → length q.disp ≡ 4 → length (cond t p q).disp ≡ 4
base_long true p q a b = a
base_long false p q a b = b

long_at : (index base : Option ℕ) (rip : Bool) (scale : ℕ) (d : ℤ) → length (place_at true index base rip scale d).disp ≡ 4
unfolding no_index with_index fewest_bytes
long_at None None true scale d = refl
long_at None None false scale d = refl
long_at None (Some base) rip scale d = base_long (base % 8 == 4) _ _ refl refl
long_at (Some index) None rip scale d = refl
long_at (Some index) (Some base) rip scale d = refl

-- a long displacement has four bytes
place_long : (lg : Bool) (m : Mem) → lg ≡ true → length (place_of lg m).disp ≡ 4
place_long lg m t = subst (λ (k : Bool). length (place_of k m).disp ≡ 4) (sym t) (long_at m.index m.base m.rip m.scale m.disp)

mem_operand : (lg : Bool) → (w : Width) (rex : Option Rex) (m : ℕ) (sib disp : List ℕ) → m < 192 → length sib ≡ sib_len (m ∷ []) → length disp ≡ disp_len (m ∷ []) sib → IsBytes sib → IsBytes disp → (lg ≡ true → length disp ≡ 4) → Operand lg w rex m sib disp (loc.Mem (address m rex sib disp)) (place_of lg (address m rex sib disp))
mem_operand lg w rex m sib disp l sl dl sb db long =
    let k = below lg m rex sib disp l sl dl sb db long in
    record {
      sib_le = k.sib_le;
      disp_le = k.disp_le;
      x = k.x;
      b = k.b;
      same = k.same;
      long = λ t. place_long lg (address m rex sib disp) t;
      wants = λ t. absurd (let bad : true ≡ false = sym t ∙ no_wants w (address m rex sib disp) in cc bad);
      again = λ rex2 mid lt p q x b.
          let a = place_again lg m rex sib disp rex2 mid lt l sl dl sb db long x b in
          let low = a.low in
          let pl = place_of lg (address m rex sib disp) in
          record {
            back = e_mem w rex2 (pl.mode + mid * 8) pl.sib pl.disp a.low ∙ ap (λ (z : Mem). loc.Mem z) a.back;
            small = omega arith;
            mid_is = a.mid_is;
            in_memory = λ z. a.low;
            in_register = λ z. absurd (omega arith);
            sib_is = a.sib_is;
            disp_is = a.disp_is;
            sib_bytes = a.sib_bytes;
            disp_bytes = a.disp_bytes;
          };
    }

pub no_sib : (m : ℕ) → 192 ≤ m → sib_len (m ∷ []) ≡ 0
no_sib m l = ap (λ (t : Bool). cond t 1 0) (and_left _ _ (le-ltb m 192 l))

pub no_disp : (m : ℕ) (sib : List ℕ) → 192 ≤ m → disp_len (m ∷ []) sib ≡ 0
unfolding disp_len
no_disp m sib l = ap (λ (t : Bool). cond t 0 (cond (nat_le 128 m) 4 (cond (nat_le 64 m) 1 (cond (base_field m sib == 5) 4 0)))) (le-leb 192 m l)

base_back : (n : ℕ) (rex : Option Rex) → n < 16 → rex_base rex ≡ eight (nat_le 8 n) → n % 8 + rex_base rex ≡ n
base_back n rex lt f =
    elim (cases_lt n 8) [
      | inl l ↦ let z : rex_base rex ≡ 0 = f ∙ ap eight (lt-leb 8 n l) in omega arith
      | inr l ↦ let z : rex_base rex ≡ 8 = f ∙ ap eight (le-leb 8 n l) in omega arith
    ]

none_small : (n : ℕ) (rex : Option Rex) → rex_base rex ≡ eight (nat_le 8 n) → rex ≡ None → n < 8
none_small n rex f e =
    elim (cases_lt n 8) [
      | inl l ↦ l
      | inr l ↦ absurd (let z : 0 ≡ 8 = sym (ap rex_base e) ∙ f ∙ ap eight (le-leb 8 n l) in omega arith)
    ]

mod_is : (n mid : ℕ) → (192 + n % 8 + mid * 8) % 8 ≡ n % 8
mod_is n mid = omega arith

pub IsBytes-none : IsBytes []
IsBytes-none i = omega (arith, get_or_past {X = ℕ} [] i 0 (omega arith))

reg_operand : (lg : Bool) → (w : Width) (rex : Option Rex) (m : ℕ) (sib disp : List ℕ) → 192 ≤ m → m < 256 → length sib ≡ sib_len (m ∷ []) → length disp ≡ disp_len (m ∷ []) sib → (lg ≡ true → length disp ≡ 4)
    → Operand lg w rex m sib disp (register w rex (m % 8 + rex_base rex)) (e_place lg (register w rex (m % 8 + rex_base rex)))
reg_operand lg w rex m sib disp l lt sl dl long =
    let n = m % 8 + rex_base rex in
    let bound : n < 16 = elim (b_cases rex) [ inl z ↦ omega arith | inr z ↦ omega arith ] in
    let low : n % 8 ≡ m % 8 = elim (b_cases rex) [ inl z ↦ omega arith | inr z ↦ omega arith ] in
    let k = reg_part w rex n bound (λ e. let z : rex_base rex ≡ 0 = ap rex_base e in omega arith) in
    let sn : sib ≡ [] = nil_from_length sib (sl ∙ no_sib m l) in
    let dn : disp ≡ [] = nil_from_length disp (dl ∙ no_disp m sib l) in
    subst (λ (p : Place). Operand lg w rex m sib disp (register w rex n) p) (sym (k.place lg)) (record {
      sib_le = omega arith;
      disp_le = omega arith;
      x = λ t. absurd (cc t);
      b = λ t. let le : 8 ≤ n = leb-true 8 n t in elim (b_cases rex) [ inl z ↦ absurd (omega arith) | inr z ↦ omega arith ];
      same = λ p q. (omega arith, refl, sym dn);
      long = λ t. absurd (omega (arith, long t, ap length dn));
      wants = k.wants;
      again = λ rex2 mid ml p q x b.
          let m2 = 192 + n % 8 + mid * 8 in
          let n2 : m2 % 8 + rex_base rex2 ≡ n = ap (λ (z : ℕ). z + rex_base rex2) (mod_is n mid) ∙ base_back n rex2 bound b in
          record {
            back = e_reg w rex2 m2 [] [] (omega arith) ∙ ap (register w rex2) n2 ∙ k.again rex2 p (λ e. (q e, none_small n rex2 b e));
            small = omega arith;
            mid_is = omega arith;
            in_memory = λ z. absurd (omega arith);
            in_register = λ z. omega arith;
            sib_is = sym (no_sib m2 (omega arith));
            disp_is = sym (no_disp m2 [] (omega arith));
            sib_bytes = IsBytes-none;
            disp_bytes = IsBytes-none;
          };
    })

-- the operand as it is spelled, against its plain form
pub operand : (lg : Bool) → (w : Width) (rex : Option Rex) (m : ℕ) (sib disp : List ℕ) → m < 256 → length sib ≡ sib_len (m ∷ []) → length disp ≡ disp_len (m ∷ []) sib → IsBytes sib → IsBytes disp → (lg ≡ true → length disp ≡ 4) → Operand lg w rex m sib disp (e_of w rex m sib disp) (e_place lg (e_of w rex m sib disp))
operand lg w rex m sib disp lt sl dl sb db long =
    elim (cases_lt m 192) [
      | inl l ↦ subst (λ (e : Loc). Operand lg w rex m sib disp e (e_place lg e)) (sym (e_mem w rex m sib disp l))
          (subst (λ (p : Place). Operand lg w rex m sib disp (loc.Mem (address m rex sib disp)) p) (sym (place_mem lg (address m rex sib disp))) (mem_operand lg w rex m sib disp l sl dl sb db long))
      | inr l ↦ subst (λ (e : Loc). Operand lg w rex m sib disp e (e_place lg e)) (sym (e_reg w rex m sib disp l)) (reg_operand lg w rex m sib disp l lt sl dl long)
    ]
