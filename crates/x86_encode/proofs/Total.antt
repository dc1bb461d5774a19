-- The meaning of a spelling's parts as functions that always answer, by comparisons of whole bytes, and that they are
-- the grammar's where that answers.
use Rattle.std.proofs.Common.{◌≡◌, ℕ, ◌+◌, ◌/◌, ◌%◌, ◌<◌, ◌≤◌, Bool, true, false, cond, List, [], ◌∷◌, length, Option, Some, None, refl, sym, ap, ◌∙◌, arith, inl, inr}
use Rattle.std.specs.Prelude.{◌^◌, ℤ, pos, not, ◌&&◌, nat_lt, nat_le, ◌==◌, if◌then◌else◌}
use Rattle.std.specs.Int.{w8, w16, w32, cast_signed, from_le_bytes}
use Rattle.std.specs.Option.{option_map}
use Rattle.std.proofs.lemmas.Bool.{cases_lt, cases_Bool, lt-ltb, le-ltb, lt-leb, le-leb, eq-eqb, ne_eqb}
use Rattle.x86_grammar.specs.declared.head.Rex.{Rex}
use Rattle.vm_law.specs.declared.insn.Mem.{Mem}
use Rattle.vm_law.specs.declared.insn.Width.{Width}
use Rattle.vm_law.specs.declared.insn.Loc.{Loc}
use Rattle.vm_law.specs.declared.insn.Loc.TheVariants as loc
use Rattle.x86_grammar.specs.Fields.{eight_if, extended, names_register, names_memory, modrm_mod, modrm_rm, rex_r as r_bit, rex_x as x_bit, rex_b as b_bit}
use Rattle.x86_grammar.specs.Operands.{◌>>=◌, general_register, displacement, lacks_base, base_of as base_named, scale_of as factor_of, address as address_named, rm_operand, sib_len as sib_size, disp_len as disp_size}
use Rattle.x86_grammar.specs.Grammar.{IsBytes}
use Rattle.x86_grammar.proofs.Matching.{rm_in_register, rm_somewhere}

abbrev pub eight : Bool → ℕ
eight b = eight_if b

abbrev pub register : Width → Option Rex → ℕ → Loc
register w rex n = general_register w rex n

abbrev pub rex_r : Option Rex → ℕ
rex_r None = 0
rex_r (Some r) = eight_if r.r

abbrev pub rex_x : Option Rex → ℕ
rex_x None = 0
rex_x (Some r) = eight_if r.x

abbrev pub rex_base : Option Rex → ℕ
rex_base None = 0
rex_base (Some r) = eight_if r.b

abbrev pub sib_len : List ℕ → ℕ
sib_len [] = 0
sib_len (m ∷ ms) = if nat_lt m 192 && (m % 8 == 4) then 1 else 0

abbrev pub base_field : ℕ → List ℕ → ℕ
base_field m [] = m % 8
base_field m (s ∷ ss) = s % 8

unfoldable pub disp_len : List ℕ → List ℕ → ℕ
disp_len [] sib = 0
disp_len (m ∷ ms) sib =
    if nat_le 192 m then 0
    else (if nat_le 128 m then 4
    else (if nat_le 64 m then 1
    else (if base_field m sib == 5 then 4 else 0)))

unfoldable pub short_signed_of : List ℕ → ℤ
short_signed_of (a ∷ []) = cast_signed w8 a
short_signed_of (a ∷ b ∷ []) = cast_signed w16 (from_le_bytes w16 (a ∷ b ∷ []))
short_signed_of (a ∷ b ∷ c ∷ d ∷ []) = cast_signed w32 (from_le_bytes w32 (a ∷ b ∷ c ∷ d ∷ []))
short_signed_of _ = pos 0

abbrev pub scale_of : ℕ → ℕ
scale_of s = if nat_lt s 64 then 1 else (if nat_lt s 128 then 2 else (if nat_lt s 192 then 4 else 8))

abbrev pub base_of : ℕ → ℕ → Option Rex → Option ℕ
base_of m s rex = if nat_lt m 64 && (s % 8 == 5) then None else Some (s % 8 + rex_base rex)

unfoldable pub address : ℕ → Option Rex → List ℕ → List ℕ → Mem
address m rex [] disp =
    if nat_lt m 64 && (m % 8 == 5) then record { base = None; index = None; scale = 1; disp = short_signed_of disp; rip = true }
    else record { base = Some (m % 8 + rex_base rex); index = None; scale = 1; disp = short_signed_of disp; rip = false }
address m rex (s ∷ ss) disp =
    let index = s / 8 % 8 + rex_x rex in
    if index == 4 then record { base = base_of m s rex; index = None; scale = 1; disp = short_signed_of disp; rip = false }
    else record { base = base_of m s rex; index = Some index; scale = scale_of s; disp = short_signed_of disp; rip = false }

abbrev pub byte_of : List ℕ → ℕ
byte_of [] = 0
byte_of (m ∷ ms) = m

unfoldable pub e_of : Width → Option Rex → ℕ → List ℕ → List ℕ → Loc
e_of w rex m sib disp = if nat_le 192 m then register w rex (m % 8 + rex_base rex) else loc.Mem (address m rex sib disp)

-- ---- that they are the grammar's

pub r_is : (rex : Option Rex) → eight_if (r_bit rex) ≡ rex_r rex
r_is None = refl
r_is (Some r) = refl

pub x_is : (rex : Option Rex) → eight_if (x_bit rex) ≡ rex_x rex
x_is None = refl
x_is (Some r) = refl

pub b_is : (rex : Option Rex) → eight_if (b_bit rex) ≡ rex_base rex
b_is None = refl
b_is (Some r) = refl

pub register_is : (m : ℕ) → m < 256 → names_register m ≡ nat_le 192 m
register_is m l = elim (cases_lt m 192) [ inl a ↦ ne_eqb (m / 64) 3 (λ e. absurd (omega arith)) ∙ sym (lt-leb 192 m a) | inr a ↦ eq-eqb (m / 64) 3 (omega arith) ∙ sym (le-leb 192 m a) ]

pub memory_is : (m : ℕ) → m < 256 → names_memory m ≡ nat_lt m 192
memory_is m l = elim (cases_lt m 192) [ inl a ↦ ap not (ne_eqb (m / 64) 3 (λ e. absurd (omega arith))) ∙ sym (lt-ltb m 192 a) | inr a ↦ ap not (eq-eqb (m / 64) 3 (omega arith)) ∙ sym (le-ltb m 192 a) ]

zero_is : (m : ℕ) → (modrm_mod m == 0) ≡ nat_lt m 64
zero_is m = elim (cases_lt m 64) [ inl a ↦ eq-eqb (m / 64) 0 (omega arith) ∙ sym (lt-ltb m 64 a) | inr a ↦ ne_eqb (m / 64) 0 (λ e. absurd (omega arith)) ∙ sym (le-ltb m 64 a) ]

pub sib_len_is : (ms : List ℕ) → IsBytes ms → sib_size ms ≡ sib_len ms
sib_len_is [] b = refl
sib_len_is (m ∷ ms) b = ap (λ (t : Bool). cond (t && (m % 8 == 4)) 1 0) (memory_is m (b 0))

abbrev new_len : ℕ → ℕ → ℕ
new_len m low = cond (m / 64 == 1) 1 (cond (m / 64 == 2) 4 (cond ((m / 64 == 0) && (low == 5)) 4 0))

abbrev new_2 : ℕ → ℕ → ℕ
new_2 m low = cond (m / 64 == 2) 4 (cond ((m / 64 == 0) && (low == 5)) 4 0)

abbrev new_3 : ℕ → ℕ → ℕ
new_3 m low = cond ((m / 64 == 0) && (low == 5)) 4 0

abbrev old_2 : ℕ → ℕ → ℕ
old_2 m low = cond (nat_le 128 m) 4 (cond (nat_le 64 m) 1 (cond (low == 5) 4 0))

abbrev old_3 : ℕ → ℕ → ℕ
old_3 m low = cond (nat_le 64 m) 1 (cond (low == 5) 4 0)

abbrev old_4 : ℕ → ℕ
old_4 low = cond (low == 5) 4 0

abbrev old_len : ℕ → ℕ → ℕ
old_len m low = cond (nat_le 192 m) 0 (cond (nat_le 128 m) 4 (cond (nat_le 64 m) 1 (cond (low == 5) 4 0)))

len_is : (m low : ℕ) → m < 256 → new_len m low ≡ old_len m low
len_is m low l =
    let one : m / 64 ≡ 1 → new_len m low ≡ 1 = λ e. ap (λ (t : Bool). cond t 1 (cond (m / 64 == 2) 4 (cond ((m / 64 == 0) && (low == 5)) 4 0))) (eq-eqb (m / 64) 1 e) in
    let rest : (m / 64 ≡ 1 → ⊥) → new_len m low ≡ new_2 m low = λ e. ap (λ (t : Bool). cond t 1 (cond (m / 64 == 2) 4 (cond ((m / 64 == 0) && (low == 5)) 4 0))) (ne_eqb (m / 64) 1 e) in
    let two : m / 64 ≡ 2 → new_2 m low ≡ 4 = λ e. ap (λ (t : Bool). cond t 4 (cond ((m / 64 == 0) && (low == 5)) 4 0)) (eq-eqb (m / 64) 2 e) in
    let last : (m / 64 ≡ 2 → ⊥) → new_2 m low ≡ new_3 m low = λ e. ap (λ (t : Bool). cond t 4 (cond ((m / 64 == 0) && (low == 5)) 4 0)) (ne_eqb (m / 64) 2 e) in
    let over : 192 ≤ m → old_len m low ≡ 0 = λ e. ap (λ (t : Bool). cond t 0 (cond (nat_le 128 m) 4 (cond (nat_le 64 m) 1 (cond (low == 5) 4 0)))) (le-leb 192 m e) in
    let under : m < 192 → old_len m low ≡ old_2 m low = λ e. ap (λ (t : Bool). cond t 0 (cond (nat_le 128 m) 4 (cond (nat_le 64 m) 1 (cond (low == 5) 4 0)))) (lt-leb 192 m e) in
    let over2 : 128 ≤ m → old_2 m low ≡ 4 = λ e. ap (λ (t : Bool). cond t 4 (cond (nat_le 64 m) 1 (cond (low == 5) 4 0))) (le-leb 128 m e) in
    let under2 : m < 128 → old_2 m low ≡ old_3 m low = λ e. ap (λ (t : Bool). cond t 4 (cond (nat_le 64 m) 1 (cond (low == 5) 4 0))) (lt-leb 128 m e) in
    let over3 : 64 ≤ m → old_3 m low ≡ 1 = λ e. ap (λ (t : Bool). cond t 1 (cond (low == 5) 4 0)) (le-leb 64 m e) in
    let under3 : m < 64 → old_3 m low ≡ old_4 low = λ e. ap (λ (t : Bool). cond t 1 (cond (low == 5) 4 0)) (lt-leb 64 m e) in
    elim (cases_lt m 64) [
      | inl a ↦ rest (λ e. absurd (omega arith)) ∙ last (λ e. absurd (omega arith)) ∙ ap (λ (t : Bool). cond (t && (low == 5)) 4 0) (eq-eqb (m / 64) 0 (omega arith)) ∙ sym (under (omega arith) ∙ under2 (omega arith) ∙ under3 a)
      | inr a ↦ elim (cases_lt m 128) [
        | inl b ↦ one (omega arith) ∙ sym (under (omega arith) ∙ under2 b ∙ over3 a)
        | inr b ↦ elim (cases_lt m 192) [
          | inl c ↦ rest (λ e. absurd (omega arith)) ∙ two (omega arith) ∙ sym (under c ∙ over2 b)
          | inr c ↦ rest (λ e. absurd (omega arith)) ∙ last (λ e. absurd (omega arith)) ∙ ap (λ (t : Bool). cond (t && (low == 5)) 4 0) (ne_eqb (m / 64) 0 (λ e. absurd (omega arith))) ∙ sym (over c)
        ]
      ]
    ]

pub disp_len_is : (ms sib : List ℕ) → IsBytes ms → disp_size ms sib ≡ disp_len ms sib
unfolding disp_size disp_len
disp_len_is [] sib b = refl
disp_len_is (m ∷ ms) [] b = len_is m (m % 8) (b 0)
disp_len_is (m ∷ ms) (s ∷ ss) b = len_is m (s % 8) (b 0)

abbrev some_z : ℤ → Option ℤ
some_z v = Some v

same_z : (v w : ℤ) → some_z v ≡ Some w → w ≡ v
same_z v w e = cc

displacement_is : (l : List ℕ) (v : ℤ) → displacement l ≡ Some v → v ≡ short_signed_of l
unfolding displacement short_signed_of
displacement_is [] v e = same_z _ v e
displacement_is (a ∷ []) v e = same_z _ v e
displacement_is (a ∷ b ∷ []) v e = absurd (cc e)
displacement_is (a ∷ b ∷ c ∷ []) v e = absurd (cc e)
displacement_is (a ∷ b ∷ c ∷ d ∷ []) v e = same_z _ v e
displacement_is (a ∷ b ∷ c ∷ d ∷ f ∷ g) v e = absurd (cc e)

power_is : (s : ℕ) → s < 256 → factor_of s ≡ scale_of s
unfolding factor_of
power_is s l =
    elim (cases_lt s 64) [
      | inl a ↦ ap (λ (n : ℕ). 2 ^ n) (zero_of s a) ∙ sym (ap (λ (t : Bool). cond t 1 (cond (nat_lt s 128) 2 (cond (nat_lt s 192) 4 8))) (lt-ltb s 64 a))
      | inr a ↦ elim (cases_lt s 128) [
        | inl b ↦ ap (λ (n : ℕ). 2 ^ n) (one_of s a b) ∙ sym (ap (λ (t : Bool). cond t 1 (cond (nat_lt s 128) 2 (cond (nat_lt s 192) 4 8))) (le-ltb s 64 a) ∙ ap (λ (t : Bool). cond t 2 (cond (nat_lt s 192) 4 8)) (lt-ltb s 128 b))
        | inr b ↦ elim (cases_lt s 192) [
          | inl c ↦ ap (λ (n : ℕ). 2 ^ n) (two_of s b c) ∙ sym (ap (λ (t : Bool). cond t 1 (cond (nat_lt s 128) 2 (cond (nat_lt s 192) 4 8))) (le-ltb s 64 a) ∙ ap (λ (t : Bool). cond t 2 (cond (nat_lt s 192) 4 8)) (le-ltb s 128 b) ∙ ap (λ (t : Bool). cond t 4 8) (lt-ltb s 192 c))
          | inr c ↦ ap (λ (n : ℕ). 2 ^ n) (three_of s c l) ∙ sym (ap (λ (t : Bool). cond t 1 (cond (nat_lt s 128) 2 (cond (nat_lt s 192) 4 8))) (le-ltb s 64 a) ∙ ap (λ (t : Bool). cond t 2 (cond (nat_lt s 192) 4 8)) (le-ltb s 128 b) ∙ ap (λ (t : Bool). cond t 4 8) (le-ltb s 192 c))
        ]
      ]
    ]
  where
    zero_of : (s : ℕ) → s < 64 → s / 64 ≡ 0
    zero_of s a = omega arith

    one_of : (s : ℕ) → 64 ≤ s → s < 128 → s / 64 ≡ 1
    one_of s a b = omega arith

    two_of : (s : ℕ) → 128 ≤ s → s < 192 → s / 64 ≡ 2
    two_of s a b = omega arith

    three_of : (s : ℕ) → 192 ≤ s → s < 256 → s / 64 ≡ 3
    three_of s a b = omega arith

abbrev mem_at : Option ℕ → Option ℕ → ℕ → ℤ → Bool → Mem
mem_at base index scale d rip = record { base = base; index = index; scale = scale; disp = d; rip = rip }

abbrev some_mem : Mem → Option Mem
some_mem m = Some m

abbrev some_n : ℕ → Option ℕ
some_n n = Some n

abbrev some_loc : Loc → Option Loc
some_loc l = Some l

same_mem : (a b : Mem) → some_mem a ≡ Some b → b ≡ a
same_mem a b e = cc

same_loc : (a b : Loc) → some_loc a ≡ Some b → b ≡ a
same_loc a b e = cc

abbrev indexed : Bool → ℕ → ℕ → Option ℕ × ℕ
indexed t n f = cond t (None, 1) (Some n, f)

lacks_is : (m field : ℕ) → lacks_base m field ≡ (nat_lt m 64 && (field == 5))
lacks_is m field = ap (λ (t : Bool). t && (field == 5)) (zero_is m)

base_is : (m s : ℕ) (rex : Option Rex) → base_named m s rex ≡ base_of m s rex
base_is m s rex = ap (λ (t : Bool). cond t None (some_n (extended (b_bit rex) (s % 8)))) (lacks_is m (s % 8)) ∙ ap (λ (n : ℕ). cond (nat_lt m 64 && (s % 8 == 5)) None (some_n (s % 8 + n))) (b_is rex)

cond_some : (t : Bool) (a b : Mem) → cond t (some_mem a) (some_mem b) ≡ Some (cond t a b)
cond_some true a b = refl
cond_some false a b = refl

index_part : (t : Bool) (base : Option ℕ) (n f : ℕ) (d : ℤ) → mem_at base (indexed t n f).0 (indexed t n f).1 d false ≡ cond t (mem_at base None 1 d false) (mem_at base (Some n) f d false)
index_part true base n f d = refl
index_part false base n f d = refl

-- a place in memory, with at most one SIB byte
address_is : (m : ℕ) (rex : Option Rex) (sib disp : List ℕ) (v : ℤ) (mem : Mem) → IsBytes sib → v ≡ short_signed_of disp → address_named m rex sib v ≡ Some mem → mem ≡ address m rex sib disp
unfolding address_named address
address_is m rex [] disp v mem b d e =
    let one : some_mem mem ≡ cond (lacks_base m (m % 8)) (some_mem (mem_at None None 1 v true)) (some_mem (mem_at (Some (extended (b_bit rex) (m % 8))) None 1 v false)) = sym e in
    let two : cond (lacks_base m (m % 8)) (some_mem (mem_at None None 1 v true)) (some_mem (mem_at (Some (extended (b_bit rex) (m % 8))) None 1 v false)) ≡ Some (cond (lacks_base m (m % 8)) (mem_at None None 1 v true) (mem_at (Some (extended (b_bit rex) (m % 8))) None 1 v false)) = cond_some (lacks_base m (m % 8)) _ _ in
    same_mem _ mem (sym two ∙ sym one)
    ∙ ap (λ (t : Bool). cond t (mem_at None None 1 v true) (mem_at (Some (extended (b_bit rex) (m % 8))) None 1 v false)) (lacks_is m (m % 8))
    ∙ ap (λ (n : ℕ). cond (nat_lt m 64 && (m % 8 == 5)) (mem_at None None 1 v true) (mem_at (Some (m % 8 + n)) None 1 v false)) (b_is rex)
    ∙ ap (λ (z : ℤ). cond (nat_lt m 64 && (m % 8 == 5)) (mem_at None None 1 z true) (mem_at (Some (m % 8 + rex_base rex)) None 1 z false)) d
address_is m rex (s ∷ []) disp v mem b d e =
    let n = s / 8 % 8 + rex_x rex in
    let i = extended (x_bit rex) (s / 8 % 8) in
    let ii : i ≡ n = ap (λ (k : ℕ). s / 8 % 8 + k) (x_is rex) in
    same_mem _ mem e
    ∙ ap (λ (o : Option ℕ). mem_at o (indexed (i == 4) i (factor_of s)).0 (indexed (i == 4) i (factor_of s)).1 v false) (base_is m s rex)
    ∙ ap (λ (k : ℕ). mem_at (base_of m s rex) (indexed (k == 4) k (factor_of s)).0 (indexed (k == 4) k (factor_of s)).1 v false) ii
    ∙ ap (λ (k : ℕ). mem_at (base_of m s rex) (indexed (n == 4) n k).0 (indexed (n == 4) n k).1 v false) (power_is s (b 0))
    ∙ ap (λ (z : ℤ). mem_at (base_of m s rex) (indexed (n == 4) n (scale_of s)).0 (indexed (n == 4) n (scale_of s)).1 z false) d
    ∙ index_part (n == 4) (base_of m s rex) n (scale_of s) (short_signed_of disp)
address_is m rex (s ∷ t ∷ ss) disp v mem b d e = absurd (cc e)

abbrev to_loc : Option Mem → Option Loc
to_loc o = option_map (λ (x : Mem). loc.Mem x) o

mapped : (o : Option Mem) (l : Loc) → to_loc o ≡ Some l → (mem : Mem) × (o ≡ Some mem) × (l ≡ loc.Mem mem)
mapped None l e = absurd (cc e)
mapped (Some mem) l e = (mem, refl, same_loc (loc.Mem mem) l e)

bound : (o : Option ℤ) (f : ℤ → Option Mem) (mem : Mem) → (o >>= f) ≡ Some mem → (v : ℤ) × (o ≡ Some v) × (f v ≡ Some mem)
bound None f mem e = absurd (cc e)
bound (Some v) f mem e = (v, refl, e)

rm_memory_is : (w : Width) (rex : Option Rex) (m : ℕ) (sib disp : List ℕ) → names_register m ≡ false → rm_operand w rex (m ∷ []) sib disp ≡ to_loc (displacement disp >>= λ d. address_named m rex sib d)
unfolding rm_operand
rm_memory_is w rex m sib disp e = ap (λ (t : Bool). cond t (Some (general_register w rex (extended (b_bit rex) (modrm_rm m)))) (to_loc (displacement disp >>= λ d. address_named m rex sib d))) e

-- the operand that mod and rm name
pub e_is : (w : Width) (rex : Option Rex) (m : ℕ) (sib disp : List ℕ) (l : Loc) → m < 256 → IsBytes sib → rm_operand w rex (m ∷ []) sib disp ≡ Some l → l ≡ e_of w rex m sib disp
unfolding e_of
e_is w rex m sib disp l lt b e =
    elim (cases_Bool (names_register m)) [
      | inl t ↦
          let high : nat_le 192 m ≡ true = sym (register_is m lt) ∙ t in
          let one : some_loc (general_register w rex (extended (b_bit rex) (m % 8))) ≡ Some l = sym (rm_in_register w rex m sib disp t) ∙ e in
          same_loc _ l one ∙ ap (λ (n : ℕ). general_register w rex (m % 8 + n)) (b_is rex) ∙ sym (ap (λ (u : Bool). cond u (register w rex (m % 8 + rex_base rex)) (loc.Mem (address m rex sib disp))) high)
      | inr f ↦
          let low : nat_le 192 m ≡ false = sym (register_is m lt) ∙ f in
          let a = mapped (displacement disp >>= λ d. address_named m rex sib d) l (sym (rm_memory_is w rex m sib disp f) ∙ e) in
          let c = bound (displacement disp) (λ d. address_named m rex sib d) a.0 a.1 in
          let k = address_is m rex sib disp c.0 a.0 b (displacement_is disp c.0 c.1) c.2 in
          a.2 ∙ ap (λ (x : Mem). loc.Mem x) k ∙ sym (ap (λ (u : Bool). cond u (register w rex (m % 8 + rex_base rex)) (loc.Mem (address m rex sib disp))) low)
    ]

-- and that there is one
pub e_there : (w : Width) (rex : Option Rex) (m : ℕ) (sib disp : List ℕ) → m < 256 → IsBytes (m ∷ []) → IsBytes sib → length sib ≡ sib_len (m ∷ []) → length disp ≡ disp_len (m ∷ []) sib → rm_operand w rex (m ∷ []) sib disp ≡ Some (e_of w rex m sib disp)
e_there w rex m sib disp lt mb sb sl dl =
    let k = rm_somewhere w rex m sib disp (sl ∙ sym (sib_len_is (m ∷ []) mb)) (dl ∙ sym (disp_len_is (m ∷ []) sib mb)) in
    k.1 ∙ ap (λ (l : Loc). some_loc l) (e_is w rex m sib disp k.0 lt sb k.1)
