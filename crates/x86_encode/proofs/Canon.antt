-- Of an instruction that a row spells, the row's plain spelling is one, and none by the row is before it.
use Rattle.std.proofs.Common.{◌≡◌, ℕ, ◌+◌, ◌-◌, ◌/◌, ◌%◌, ◌<◌, ◌≤◌, Bool, true, false, cond, List, [], ◌∷◌, ◌++◌, length, Option, Some, None, refl, sym, ap, subst, ◌∙◌, arith, append_assoc, ◌⊎◌, inl, inr}
use Rattle.std.specs.Prelude.{ℤ, not, ◌&&◌, ◌||◌, nat_lt, nat_le, ◌==◌, Contains}
use Rattle.std.specs.List.{list_all}
use Rattle.std.specs.Option.{option_map}
use Rattle.std.proofs.lemmas.Bool.{cases_Bool, and_parts, and_from, or_cases, or_left, or_right, or_parts, or_from, leb-true, le-leb, lt-ltb, eqb-true, not-true}
use Rattle.x86_grammar.specs.declared.head.Rex.{Rex}
use Rattle.x86_grammar.specs.declared.head.Head.{Head}
use Rattle.vm_law.specs.declared.insn.Width.{Width}
use Rattle.vm_law.specs.declared.insn.Loc.{Loc}
use Rattle.vm_law.specs.declared.insn.Op.{Op}
use Rattle.vm_law.specs.declared.insn.Insn.{Insn}
use Rattle.x86_grammar.specs.declared.table.Map.{Map}
use Rattle.x86_grammar.specs.declared.table.Map.TheVariants.{One, Two}
use Rattle.x86_grammar.specs.declared.table.Class.{Class}
use Rattle.x86_grammar.specs.declared.table.Need.{Need}
use Rattle.x86_grammar.specs.declared.table.Need.TheVariants as need
use Rattle.x86_grammar.specs.declared.table.Form.{Form}
use Rattle.x86_grammar.specs.declared.table.Form.TheVariants as form
use Rattle.x86_grammar.specs.declared.table.Imm.{Imm}
use Rattle.x86_grammar.specs.declared.table.Row.{Row}
use Rattle.x86_grammar.specs.declared.table.TheConstants.{ROWS}
use Rattle.x86_grammar.specs.Fields.{rex_w, rex_b}
use Rattle.x86_grammar.specs.Rows.{takes, takes_size, fits, same_map, same_bool, implies, meets}
use Rattle.x86_grammar.specs.declared.operands.Immediate.{Immediate}
use Rattle.x86_grammar.specs.declared.operands.Operands.{Operands}
use Rattle.x86_grammar.specs.Operands.{◌>>=◌, width_of, sib_len as sib_size, disp_len as disp_size, imm_len, rm_operand, reg_operand, opcode_operand, immediate, operands_of, row_operands}
use Rattle.x86_grammar.specs.Meaning.{rm_width, op_of, meaning}
use Rattle.x86_grammar.proofs.Matching.{has_rm as has_e, has_reg as has_g, has_immediate, has_imm, same_truth, no_reg}
use Rattle.x86_encode.proofs.Total.{eight, rex_r, rex_x, rex_base, sib_len, disp_len, register, e_of, byte_of, sib_len_is, disp_len_is, e_is, e_there, r_is, b_is}
use Rattle.x86_grammar.specs.Grammar.{IsBytes, IsHead, IsOpcode, Spells}
use Rattle.x86_grammar.proofs.Finding.{all_at}
use Rattle.x86_grammar.proofs.Opcodes.{takes_parts}
use Rattle.x86_decode.proofs.HeadPart.{no_clash}
use Rattle.x86_decode.proofs.Whole.{live_from}
use Rattle.x86_encode.specs.declared.labels.Labels.{Labels}
use Rattle.x86_encode.specs.Order.{before}
use Rattle.x86_encode.specs.Inside.Place.{Place}
use Rattle.x86_encode.specs.Inside.Plain.{Parts, e_loc, g_loc, o_loc, condition_of, number_of, number_bytes, low_of, bit_of, wants_rex, e_place, modrm_of, is_quad, takes_wide, must_have_rex, is_wide, is_sized, rex_for, head_of, plain, prefix_bytes, rex_bytes, opcode_bytes, head_bytes, written}
use Rattle.x86_encode.specs.Inside.Selecting.{Fitting, HoldsLabels, Fits, plain_by}
use Rattle.x86_encode.proofs.Widths.{wide_is_needed, size_is_needed, sized_takes, width_again}
use Rattle.x86_encode.proofs.Rexes.{Bits, rex_bits, any_of, none_for, rex_below}
use Rattle.x86_encode.proofs.Below.{Le, Le-same, Le-append, Le-before, prefixes_below}
use Rattle.x86_encode.proofs.Slots.{back, has_condition, condition_by, has_o, named, bound, mapped, same_loc, operands_same, e_none, g_none, o_none, no_rm_o}
use Rattle.x86_encode.proofs.Numbers.{IsNumberOf, no_bytes}
use Rattle.x86_encode.proofs.Fields.{reg_slot, no_loc_bit, fits_split, fits_join, slash_ok, one_modrm, modrm_part}

-- ---- the bits of a REX byte

pub record Falses (must w r x b : Bool) : Type 0 where
  pub f_must : must ≡ false
  pub f_w : w ≡ false
  pub f_r : r ≡ false
  pub f_x : x ≡ false
  pub f_b : b ≡ false

falses : (must w r x b : Bool) → any_of must w r x b ≡ false → Falses must w r x b
falses must w r x b f =
    let p1 = or_parts must (w || (r || (x || b))) f in
    let p2 = or_parts w (r || (x || b)) p1.1 in
    let p3 = or_parts r (x || b) p2.1 in
    let p4 = or_parts x b p3.1 in
    record { f_must = p1.0; f_w = p2.0; f_r = p3.0; f_x = p4.0; f_b = p4.1 }

rex_for_w : (must w r x b : Bool) → rex_w (rex_for must w r x b) ≡ w
rex_for_w must w r x b =
    elim (cases_Bool (any_of must w r x b)) [
      | inl t ↦ ap (λ (q : Bool). rex_w (cond q (Some (rex_bits w r x b)) None)) t
      | inr f ↦ ap (λ (q : Bool). rex_w (cond q (Some (rex_bits w r x b)) None)) f ∙ sym (falses must w r x b f).f_w
    ]

rex_for_r : (must w r x b : Bool) → rex_r (rex_for must w r x b) ≡ eight r
rex_for_r must w r x b =
    elim (cases_Bool (any_of must w r x b)) [
      | inl t ↦ ap (λ (q : Bool). rex_r (cond q (Some (rex_bits w r x b)) None)) t
      | inr f ↦ ap (λ (q : Bool). rex_r (cond q (Some (rex_bits w r x b)) None)) f ∙ sym (ap eight (falses must w r x b f).f_r)
    ]

rex_for_x : (must w r x b : Bool) → rex_x (rex_for must w r x b) ≡ eight x
rex_for_x must w r x b =
    elim (cases_Bool (any_of must w r x b)) [
      | inl t ↦ ap (λ (q : Bool). rex_x (cond q (Some (rex_bits w r x b)) None)) t
      | inr f ↦ ap (λ (q : Bool). rex_x (cond q (Some (rex_bits w r x b)) None)) f ∙ sym (ap eight (falses must w r x b f).f_x)
    ]

rex_for_b : (must w r x b : Bool) → rex_base (rex_for must w r x b) ≡ eight b
rex_for_b must w r x b =
    elim (cases_Bool (any_of must w r x b)) [
      | inl t ↦ ap (λ (q : Bool). rex_base (cond q (Some (rex_bits w r x b)) None)) t
      | inr f ↦ ap (λ (q : Bool). rex_base (cond q (Some (rex_bits w r x b)) None)) f ∙ sym (ap eight (falses must w r x b f).f_b)
    ]

rex_for_bit : (must w r x b : Bool) → rex_b (rex_for must w r x b) ≡ b
rex_for_bit must w r x b =
    elim (cases_Bool (any_of must w r x b)) [
      | inl t ↦ ap (λ (q : Bool). rex_b (cond q (Some (rex_bits w r x b)) None)) t
      | inr f ↦ ap (λ (q : Bool). rex_b (cond q (Some (rex_bits w r x b)) None)) f ∙ sym (falses must w r x b f).f_b
    ]

abbrev some_rex : Rex → Option Rex
some_rex r = Some r

none_any : (must w r x b : Bool) → rex_for must w r x b ≡ None → any_of must w r x b ≡ false
none_any must w r x b e =
    elim (cases_Bool (any_of must w r x b)) [
      | inl t ↦ absurd (let bad : some_rex (rex_bits w r x b) ≡ None = sym (ap (λ (q : Bool). cond q (Some (rex_bits w r x b)) None) t) ∙ e in cc bad)
      | inr f ↦ f
    ]

any_none : (must w r x b : Bool) → any_of must w r x b ≡ false → rex_for must w r x b ≡ None
any_none must w r x b e = ap (λ (q : Bool). cond q (Some (rex_bits w r x b)) None) e

eight_some : (t : Bool) → (eight t ≡ 0) ⊎ (eight t ≡ 8)
eight_some true = inr refl
eight_some false = inl refl

r_cases : (rex : Option Rex) → (rex_r rex ≡ 0) ⊎ (rex_r rex ≡ 8)
r_cases None = inl refl
r_cases (Some x) = eight_some x.r

b_cases : (rex : Option Rex) → (rex_base rex ≡ 0) ⊎ (rex_base rex ≡ 8)
b_cases None = inl refl
b_cases (Some x) = eight_some x.b

b_eight : (rex : Option Rex) → rex_b rex ≡ true → rex_base rex ≡ 8
b_eight None e = absurd cc
b_eight (Some x) e = ap eight e

must_cases : (ew w : Width) (e g o : Loc) (P : Type 0) → must_have_rex ew w e g o ≡ true → (wants_rex ew e ≡ true → P) → (wants_rex w g ≡ true → P) → (wants_rex w o ≡ true → P) → P
unfolding must_have_rex
must_cases ew w e g o P q f k l =
    elim (or_cases (wants_rex ew e) (wants_rex w g || wants_rex w o) q) [
      | inl t ↦ f t
      | inr u ↦ elim (or_cases (wants_rex w g) (wants_rex w o) u) [ inl t ↦ k t | inr t ↦ l t ]
    ]

must_parts : (ew w : Width) (e g o : Loc) → must_have_rex ew w e g o ≡ false → (wants_rex ew e ≡ false) × (wants_rex w g ≡ false) × (wants_rex w o ≡ false)
unfolding must_have_rex
must_parts ew w e g o q =
    let a = or_parts (wants_rex ew e) (wants_rex w g || wants_rex w o) q in
    let b = or_parts (wants_rex w g) (wants_rex w o) a.1 in
    (a.0, b.0, b.1)

-- ---- tests on a row

map_same : (a : Map) → same_map a a ≡ true
map_same One = refl
map_same Two = refl

map_is : (a b : Map) → same_map a b ≡ true → a ≡ b
map_is One One e = refl
map_is Two Two e = refl
map_is One Two e = absurd cc
map_is Two One e = absurd cc

bool_same : (a : Bool) → same_bool a a ≡ true
bool_same true = refl
bool_same false = refl

bool_is : (a b : Bool) → same_bool a b ≡ true → b ≡ true → a ≡ true
bool_is true b e f = refl
bool_is false true e f = absurd cc
bool_is false false e f = absurd cc

implied : (a b : Bool) → (a ≡ true → b ≡ true) → implies a b ≡ true
implied true b f = f refl
implied false b f = refl

takes_from : (row : Row) (h : Head) → same_map row.map h.map ≡ true → row.byte ≤ h.byte → h.byte < row.byte + row.span → implies h.prefixes.size (takes_size row.class) ≡ true → implies h.prefixes.lock row.lock ≡ true → same_bool h.prefixes.rep row.rep ≡ true → meets row.need h.rex (h.byte - row.byte) ≡ true → takes row h ≡ true
unfolding takes
takes_from row h a b c d e f g = and_from _ _ a (and_from _ _ (le-leb _ _ b) (and_from _ _ (lt-ltb _ _ c) (and_from _ _ d (and_from _ _ e (and_from _ _ f g)))))

opcode_is : (a b : Map) (x : ℕ) (l : List ℕ) → a ≡ b → IsOpcode b x l → opcode_bytes a x ≡ l
unfolding opcode_bytes
opcode_is a One x l p i = ap (λ (z : Map). opcode_bytes z x) p ∙ sym i
opcode_is a Two x l p i = ap (λ (z : Map). opcode_bytes z x) p ∙ sym i

pub is_opcode : (a : Map) (x : ℕ) → IsOpcode a x (opcode_bytes a x)
unfolding opcode_bytes
is_opcode One x = refl
is_opcode Two x = refl

-- where the low bits of an opcode name a condition or a register, the row begins at a multiple of their number
abbrev offset_ok : Bool → Bool → ℕ → ℕ → Bool
offset_ok true o first span = not o && (nat_le span 16 && (first % 16 == 0))
offset_ok false true first span = nat_le span 8 && (first % 8 == 0)
offset_ok false false first span = span == 1

abbrev need_ok : Need → Form → Class → Bool
need_ok need.None f c = true
need_ok need.Wide f c = not (takes_wide c)
need_ok need.NoB f c = not (has_e f) && not (has_o f)
need_ok need.NotAcc f c = has_o f

-- its parts fit together
abbrev lawful : Row → Bool
lawful row =
    same_truth (has_immediate row.form) (has_imm row.imm) && (nat_le (row.byte + row.span) 256 && (offset_ok (has_condition row.kind) (has_o row.form) row.byte row.span
    && (slash_ok row.form row.slash && need_ok row.need row.form row.class)))

rows_lawful : list_all lawful ROWS ≡ true
rows_lawful = refl

record Lawful (row : Row) : Type 0 where
  imm : same_truth (has_immediate row.form) (has_imm row.imm) ≡ true
  small : row.byte + row.span ≤ 256
  offset : offset_ok (has_condition row.kind) (has_o row.form) row.byte row.span ≡ true
  slash : slash_ok row.form row.slash ≡ true
  need : need_ok row.need row.form row.class ≡ true

lawful_row : (row : Row) → Contains ROWS row → Lawful row
lawful_row row c =
    let t1 = and_parts (same_truth (has_immediate row.form) (has_imm row.imm)) _ (all_at lawful ROWS row rows_lawful c) in
    let t2 = and_parts (nat_le (row.byte + row.span) 256) _ t1.1 in
    let t3 = and_parts (offset_ok (has_condition row.kind) (has_o row.form) row.byte row.span) _ t2.1 in
    let t4 = and_parts (slash_ok row.form row.slash) _ t3.1 in
    record { imm = t1.0; small = leb-true _ _ t2.0; offset = t3.0; slash = t4.0; need = t4.1 }

-- ---- the opcode byte

byte_back : (hc ho : Bool) (first span byte c low : ℕ) → offset_ok hc ho first span ≡ true → first ≤ byte → byte < first + span → first + span ≤ 256
    → c ≡ condition_by hc byte → (ho ≡ true → low ≡ byte % 8) → (ho ≡ false → low ≡ 0) → (first + (c + low) % 256) % 256 ≡ byte
byte_back true true first span byte c low k a b s e f g = absurd (let t = and_parts false (nat_le span 16 && (first % 16 == 0)) k in let bad : false ≡ true = t.0 in cc bad)
byte_back true false first span byte c low k a b s e f g =
    let z : low ≡ 0 = g refl in
    let t = and_parts (nat_le span 16) (first % 16 == 0) k in
    let n : span ≤ 16 = leb-true span 16 t.0 in
    let m : first % 16 ≡ 0 = eqb-true (first % 16) 0 t.1 in
    omega arith
byte_back false true first span byte c low k a b s e f g =
    let z : low ≡ byte % 8 = f refl in
    let t = and_parts (nat_le span 8) (first % 8 == 0) k in
    let n : span ≤ 8 = leb-true span 8 t.0 in
    let m : first % 8 ≡ 0 = eqb-true (first % 8) 0 t.1 in
    omega arith
byte_back false false first span byte c low k a b s e f g = let z : low ≡ 0 = g refl in let n : span ≡ 1 = eqb-true span 1 k in omega arith

-- ---- what an opcode needs

meets_wide : (n : Need) (c : Class) (w : Width) (rex rex2 : Option Rex) (k : ℕ) (f : Form) → need_ok n f c ≡ true → meets n rex k ≡ true → rex_w rex2 ≡ is_wide n c w
    → (has_e f ≡ false → has_o f ≡ false → rex_b rex2 ≡ false) → (has_o f ≡ true → rex_b rex ≡ true → rex_b rex2 ≡ true) → meets n rex2 k ≡ true
unfolding is_wide
meets_wide need.None c w rex rex2 k f ok m e b o = refl
meets_wide need.Wide c w rex rex2 k f ok m e b o = e
meets_wide need.NoB c w rex rex2 k f ok m e b o =
    let t = and_parts (not (has_e f)) (not (has_o f)) ok in
    ap not (b (not-true (has_e f) t.0) (not-true (has_o f) t.1))
meets_wide need.NotAcc c w rex rex2 k f ok m e b o =
    elim (or_cases (rex_b rex) (nat_lt 0 k) m) [
      | inl t ↦ or_left (rex_b rex2) (nat_lt 0 k) (o ok t)
      | inr t ↦ or_right (rex_b rex2) (nat_lt 0 k) t
    ]

wide_quad : (n : Need) (f : Form) (c : Class) (w : Width) → need_ok n f c ≡ true → takes_wide c ≡ true → is_wide n c w ≡ is_quad w
unfolding is_wide
wide_quad need.None f c w ok t = ap (λ (q : Bool). q && is_quad w) t
wide_quad need.Wide f c w ok t = absurd (let bad : true ≡ false = sym ok ∙ ap not t in cc bad)
wide_quad need.NoB f c w ok t = ap (λ (q : Bool). q && is_quad w) t
wide_quad need.NotAcc f c w ok t = ap (λ (q : Bool). q && is_quad w) t

-- ---- the meaning by its operands and its operation

abbrev some_place : Loc → Option Loc
some_place l = Some l

abbrev insn_of : Bool → Width → Op → Insn
insn_of lock w o = record { lock = lock; width = w; op = o }

-- what is meant has operands and an operation
record Meant (row : Row) (h : Head) (ms sib disp imm : List ℕ) (insn : Insn) : Type 0 where
  operands : Operands
  op : Op
  operands_are : operands_of row.form (rm_operand (rm_width row.kind (width_of row.class h.prefixes h.rex)) h.rex ms sib disp) (reg_operand (width_of row.class h.prefixes h.rex) h.rex ms) (opcode_operand (width_of row.class h.prefixes h.rex) h.rex h.byte) (immediate imm) ≡ Some operands
  op_is : op_of row.kind h.byte operands ≡ Some op
  insn_is : insn_of h.prefixes.lock (width_of row.class h.prefixes h.rex) op ≡ insn

meant_from : (row : Row) (h : Head) (ms sib disp imm : List ℕ) (insn : Insn) → meaning row h ms sib disp imm ≡ Some insn → Meant row h ms sib disp imm insn
unfolding meaning row_operands
meant_from row h ms sib disp imm insn e =
    let m = bound (operands_of row.form (rm_operand (rm_width row.kind (width_of row.class h.prefixes h.rex)) h.rex ms sib disp) (reg_operand (width_of row.class h.prefixes h.rex) h.rex ms) (opcode_operand (width_of row.class h.prefixes h.rex) h.rex h.byte) (immediate imm)) _ insn e in
    let n = mapped _ (op_of row.kind h.byte m.0) insn m.2 in
    record { operands = m.0; op = n.0; operands_are = m.1; op_is = n.1; insn_is = n.2 }

abbrev row_part : Row → Head → Width → List ℕ → List ℕ → List ℕ → List ℕ → Option Operands
row_part row h w ms sib disp imm = operands_of row.form (rm_operand (rm_width row.kind w) h.rex ms sib disp) (reg_operand w h.rex ms) (opcode_operand w h.rex h.byte) (immediate imm)

abbrev finished : Row → Head → Width → Option Operands → Option Insn
finished row h w o = o >>= λ p. option_map (λ x. insn_of h.prefixes.lock w x) (op_of row.kind h.byte p)

-- it is meant again where width, operands and operation are the same
meant_again : (row : Row) (h : Head) (ms sib disp imm : List ℕ) (w : Width) (o : Operands) (x : Op) → width_of row.class h.prefixes h.rex ≡ w
    → row_part row h w ms sib disp imm ≡ Some o → op_of row.kind h.byte o ≡ Some x → meaning row h ms sib disp imm ≡ Some (insn_of h.prefixes.lock w x)
unfolding meaning row_operands
meant_again row h ms sib disp imm w o x e p q =
    ap (λ (v : Width). finished row h v (row_part row h v ms sib disp imm)) e
    ∙ ap (λ (r : Option Operands). finished row h w r) p
    ∙ ap (λ (r : Option Op). option_map (λ x. insn_of h.prefixes.lock w x) r) q

reg_there : (w : Width) (rex : Option Rex) (ms : List ℕ) → ms ≡ byte_of ms ∷ [] → reg_operand w rex ms ≡ Some (register w rex (byte_of ms / 8 % 8 + rex_r rex))
unfolding reg_operand
reg_there w rex [] e = absurd (cc e)
reg_there w rex (m ∷ []) e = ap (λ (n : ℕ). some_place (register w rex (m / 8 % 8 + n))) (r_is rex)
reg_there w rex (m ∷ n ∷ ms) e = absurd (cc e)

opcode_there : (w : Width) (rex : Option Rex) (byte : ℕ) → opcode_operand w rex byte ≡ register w rex (byte % 8 + rex_base rex)
unfolding opcode_operand
opcode_there w rex byte = ap (λ (n : ℕ). register w rex (byte % 8 + n)) (b_is rex)

or_none : (t u : Bool) → u ≡ false → (t || u) ≡ t
or_none true u e = refl
or_none false u e = e

none_or : (t u : Bool) → t ≡ false → (t || u) ≡ u
none_or true u e = absurd cc
none_or false u e = refl

no_o_e : (f : Form) → has_o f ≡ true → has_e f ≡ false
no_o_e form.OI h = refl
no_o_e form.OA h = refl
no_o_e form.O h = refl
no_o_e f h = absurd (cc h)

imm_back : (f : Form) (i : Imm) (w : Width) (l : List ℕ) (v : ℤ) → same_truth (has_immediate f) (has_imm i) ≡ true → length l ≡ imm_len i w → IsBytes l → (has_immediate f ≡ true → (j : Immediate) × (immediate l ≡ Some j) × IsNumberOf j v) → number_bytes (imm_len i w) v ≡ l
imm_back f i w l v t n b g =
    elim (cases_Bool (has_immediate f)) [
      | inl y ↦ let k = g y in ap (λ (m : ℕ). number_bytes m v) (sym n) ∙ k.2 l b k.1
      | inr y ↦ no_bytes i w l v (none_too (has_immediate f) (has_imm i) t y) n
    ]
  where
    none_too : (a c : Bool) → same_truth a c ≡ true → a ≡ false → c ≡ false
    none_too true c e f = absurd (cc f)
    none_too false c e f = not-true c e

g_has : (f : Form) → has_g f ≡ true → has_e f ≡ true
g_has form.EG h = refl
g_has form.GE h = refl
g_has form.GEI h = refl
g_has f h = absurd (cc h)

one_small : (ms : List ℕ) → IsBytes ms → ms ≡ byte_of ms ∷ [] → byte_of ms < 256
one_small [] b e = absurd (cc e)
one_small (m ∷ ms) b e = b 0

-- ---- a spelling by a row against the plain one

pub record Good (labels : Labels) (row : Row) (insn : Insn) (b : List ℕ) : Type 0 where
  pub fits : Fits labels insn row
  pub first : before (written (plain_by labels row insn)) b ≡ true

abbrev parts_at : Head → List ℕ → List ℕ → List ℕ → List ℕ → Parts
parts_at h ms sib disp imm = record { head = h; modrm = ms; sib = sib; disp = disp; imm = imm }

abbrev head_at : Bool → Bool → Bool → Option Rex → Map → ℕ → Head
head_at size lock rep rex map byte = record { prefixes = record { size = size; lock = lock; rep = rep }; rex = rex; map = map; byte = byte }

head_is : (row : Row) (w : Width) (lock : Bool) (c : ℕ) (e g o : Loc) (pl : Place) (byte : ℕ) → (row.byte + (c + low_of o) % 256) % 256 ≡ byte
    → head_of row w lock c e g o pl ≡ head_at (is_sized row.class w) lock row.rep (rex_for (must_have_rex (rm_width row.kind w) w e g o) (is_wide row.need row.class w) (bit_of g) pl.x (pl.b || bit_of o)) row.map byte
unfolding head_of
head_is row w lock c e g o pl byte q = ap (λ (n : ℕ). head_at (is_sized row.class w) lock row.rep (rex_for (must_have_rex (rm_width row.kind w) w e g o) (is_wide row.need row.class w) (bit_of g) pl.x (pl.b || bit_of o)) row.map n) q

plain_is : (long : Bool) (row : Row) (lock : Bool) (w : Width) (o : Op) (h : Head) (imm : List ℕ)
    → head_of row w lock (condition_of o) (e_loc row.form o) (g_loc row.form o) (o_loc row.form o) (e_place long (e_loc row.form o)) ≡ h
    → number_bytes (imm_len row.imm w) (number_of o) ≡ imm
    → plain long row (insn_of lock w o) ≡ parts_at h (modrm_of row.slash (e_place long (e_loc row.form o)).mode (low_of (g_loc row.form o))) (e_place long (e_loc row.form o)).sib (e_place long (e_loc row.form o)).disp imm
unfolding plain
plain_is long row lock w o h imm p q =
    let pl = e_place long (e_loc row.form o) in
    let ms = modrm_of row.slash pl.mode (low_of (g_loc row.form o)) in
    ap (λ (k : Head). parts_at k ms pl.sib pl.disp (number_bytes (imm_len row.imm w) (number_of o))) p ∙ ap (λ (l : List ℕ). parts_at h ms pl.sib pl.disp l) q

written_is : (h : Head) (ms sib disp imm : List ℕ) → written (parts_at h ms sib disp imm) ≡ (prefix_bytes h.prefixes.size h.prefixes.lock h.prefixes.rep ++ (rex_bytes h.rex ++ opcode_bytes h.map h.byte)) ++ (ms ++ (sib ++ (disp ++ imm)))
unfolding written head_bytes
written_is h ms sib disp imm = refl

regroup : (a b c d : List ℕ) → (a ++ (b ++ c)) ++ d ≡ a ++ (b ++ (c ++ d))
regroup a b c d = simp append_assoc

module _ (labels : Labels) (row : Row) (among : Contains ROWS row) (h : Head) (first ms sib disp imm : List ℕ)
    (is_head : IsHead h first) (fit : fits row h ms ≡ true) (ms_bytes : IsBytes ms) (sib_bytes : IsBytes sib) (disp_bytes : IsBytes disp) (imm_bytes : IsBytes imm)
    (sib_size_is : length sib ≡ sib_size ms) (disp_size_is : length disp ≡ disp_size ms sib) (imm_is : length imm ≡ imm_len row.imm (width_of row.class h.prefixes h.rex))
    (long : labels.displacement ≡ true → length disp ≡ 4) (long_imm : labels.immediate ≡ true → length imm ≡ 4) (insn_meant : Insn) (value : meaning row h ms sib disp imm ≡ Some insn_meant) where
  good : Good labels row insn_meant (first ++ (ms ++ (sib ++ (disp ++ imm))))
  good =
      let law = lawful_row row among in
      let lg = labels.displacement in
      let p = h.prefixes in
      let rx = h.rex in
      let k = row.kind in
      let f = row.form in
      let w = width_of row.class p rx in
      let ew = rm_width k w in
      let m = byte_of ms in
      let c = h.byte - row.byte in
      let gn = m / 8 % 8 in
      let on = h.byte % 8 in
      let e = e_of ew rx m sib disp in
      let g = register w rx (gn + rex_r rx) in
      let o = register w rx (on + rex_base rx) in
      let sib_is : length sib ≡ sib_len ms = sib_size_is ∙ sib_len_is ms ms_bytes in
      let disp_is : length disp ≡ disp_len ms sib = disp_size_is ∙ disp_len_is ms sib ms_bytes in
      let rm = rm_operand ew rx ms sib disp in
      let reg = reg_operand w rx ms in
      let code = opcode_operand w rx h.byte in
      let meant = meant_from row h ms sib disp imm insn_meant value in
      let op = meant.op in
      let insn = insn_of p.lock w op in
      let kept = back k h.byte meant.operands op meant.op_is in
      let names = named rm reg code (immediate imm) meant.operands op kept.facts f meant.operands_are in
      let fs = fits_split row h ms fit in
      let t = takes_parts row h fs.0 in
      let one : has_e f ≡ true → ms ≡ m ∷ [] = λ has. one_modrm f row.slash row.side p.lock ms law.slash has fs.1 in
      -- the operands
      let e2 = e_loc f op in
      let g2 = g_loc f op in
      let o2 = o_loc f op in
      let e_known : has_e f ≡ true → e2 ≡ e = λ has. e_is ew rx m sib disp e2 (one_small ms ms_bytes (one has)) sib_bytes (ap (λ (l : List ℕ). rm_operand ew rx l sib disp) (sym (one has)) ∙ names.rm_is has) in
      let g_known : has_g f ≡ true → g2 ≡ g = λ has. same_loc g g2 (sym (reg_there w rx ms (one (g_has f has))) ∙ names.reg_is has) in
      let o_known : has_o f ≡ true → o2 ≡ o = λ has. same_loc code o2 (names.opcode_is has) ∙ opcode_there w rx h.byte in
      let rg = reg_slot (has_g f) w rx gn (rex_r rx) g2 (omega arith) (r_cases rx) (λ q. ap rex_r q) g_known (g_none f op) in
      let ro = reg_slot (has_o f) w rx on (rex_base rx) o2 (omega arith) (b_cases rx) (λ q. ap rex_base q) o_known (o_none f op) in
      let pl = e_place lg e2 in
      let lowg = low_of g2 in
      let mp = modrm_part lg f row.slash row.side p.lock ew rx ms sib disp e2 lowg law.slash (no_reg f) fs.1 ms_bytes sib_is disp_is sib_bytes disp_bytes long e_known (e_none f op) rg.low_is rg.low_none in
      -- the REX byte
      let must = must_have_rex ew w e2 g2 o2 in
      let wide = is_wide row.need row.class w in
      let r = bit_of g2 in
      let b = pl.b || bit_of o2 in
      let bits : Bits must wide r pl.x b rx = record {
        has_must = λ q. must_cases ew w e2 g2 o2 (rx ≡ None → ⊥) q mp.wants rg.wants ro.wants;
        has_w = λ q. wide_is_needed row.need row.class p rx c t.need q;
        has_r = rg.up;
        has_x = mp.x;
        has_b = λ q. elim (or_cases pl.b (bit_of o2) q) [ inl z ↦ mp.b z | inr z ↦ ro.up z ];
      } in
      let rex2 = rex_for must wide r pl.x b in
      let none2 : rx ≡ None → rex2 ≡ None = λ q. any_none must wide r pl.x b (none_for must wide r pl.x b rx bits q) in
      let musts : rex2 ≡ None → must ≡ false = λ q. (falses must wide r pl.x b (none_any must wide r pl.x b q)).f_must in
      let o_bit_none : has_o f ≡ false → bit_of o2 ≡ false = λ q. ap bit_of (o_none f op q) ∙ no_loc_bit in
      let b_e : has_e f ≡ true → rex_base rex2 ≡ eight pl.b = λ q. rex_for_b must wide r pl.x b ∙ ap eight (or_none pl.b (bit_of o2) (o_bit_none (no_rm_o f q))) in
      let mg = mp.again rex2 none2 (λ q. (must_parts ew w e2 g2 o2 (musts q)).0) (rex_for_x must wide r pl.x b) b_e in
      let ms2 = modrm_of row.slash pl.mode lowg in
      -- the opcode, the prefixes and the width
      let cond_is = kept.condition in
      let byte_is : (row.byte + (condition_of op + low_of o2) % 256) % 256 ≡ h.byte = byte_back (has_condition k) (has_o f) row.byte row.span h.byte (condition_of op) (low_of o2) law.offset t.low t.high law.small cond_is ro.low_is ro.low_none in
      let size2 = is_sized row.class w in
      let h2 : Head = head_at size2 p.lock row.rep rex2 row.map h.byte in
      let head2 = head_is row w p.lock (condition_of op) e2 g2 o2 pl h.byte byte_is in
      let w2 : width_of row.class h2.prefixes rex2 ≡ w = width_again row.class p h2.prefixes rx rex2 refl (λ q. rex_for_w must wide r pl.x b ∙ wide_quad row.need f row.class w law.need q) in
      let meet2 : meets row.need rex2 c ≡ true = meets_wide row.need row.class w rx rex2 c f law.need t.need (rex_for_w must wide r pl.x b)
      (λ q u. rex_for_bit must wide r pl.x b ∙ or_from pl.b (bit_of o2) (mp.b_none q) (o_bit_none u))
      (λ q u. rex_for_bit must wide r pl.x b ∙ or_right pl.b (bit_of o2) (ro.bit_is q ∙ le-leb 8 (on + rex_base rx) (omega (arith, b_eight rx u)))) in
      let taken2 : takes row h2 ≡ true = takes_from row h2 (map_same row.map) t.low t.high (implied size2 (takes_size row.class) (λ q. sized_takes row.class w q)) t.lock (bool_same row.rep) meet2 in
      let fit2 : fits row h2 ms2 ≡ true = fits_join row h2 ms2 taken2 (mg.fits p.lock fs.1) in
      -- it is read back
      let g_again : has_g f ≡ true → register w rex2 (byte_of ms2 / 8 % 8 + rex_r rex2) ≡ g = λ q.
      ap (λ (n : ℕ). register w rex2 (n + rex_r rex2)) (mg.g_is q ∙ rg.low_is q) ∙ rg.again rex2 (rex_r rex2) none2 (λ z. (must_parts ew w e2 g2 o2 (musts z)).1) (rex_for_r must wide r pl.x b) (λ z. ap rex_r z) q ∙ g_known q in
      let o_again : has_o f ≡ true → register w rex2 (on + rex_base rex2) ≡ o = λ q.
      ro.again rex2 (rex_base rex2) none2 (λ z. (must_parts ew w e2 g2 o2 (musts z)).2) (rex_for_b must wide r pl.x b ∙ ap eight (none_or pl.b (bit_of o2) (mp.b_none (no_o_e f q)))) (λ z. ap rex_base z) q ∙ o_known q in
      let one2 : has_e f ≡ true → ms2 ≡ byte_of ms2 ∷ [] = λ has. one_modrm f row.slash row.side p.lock ms2 law.slash has (mg.fits p.lock fs.1) in
      let rm2 : has_e f ≡ true → rm_operand ew rex2 ms2 pl.sib pl.disp ≡ rm = λ q.
      let s2 = one2 q in
      let mb : IsBytes (byte_of ms2 ∷ []) = subst IsBytes s2 mg.modrm_bytes in
      ap (λ (l : List ℕ). rm_operand ew rex2 l pl.sib pl.disp) s2
      ∙ e_there ew rex2 (byte_of ms2) pl.sib pl.disp (mb 0) mb mg.sib_bytes (mg.sib_is ∙ ap sib_len s2) (mg.disp_is ∙ ap (λ (l : List ℕ). disp_len l pl.sib) s2)
      ∙ ap some_place (mg.e_is q) ∙ sym (names.rm_is q) in
      let reg2 : has_g f ≡ true → reg_operand w rex2 ms2 ≡ reg = λ q. reg_there w rex2 ms2 (one2 (g_has f q)) ∙ ap some_place (g_again q) ∙ sym (reg_there w rx ms (one (g_has f q))) in
      let code2 : has_o f ≡ true → opcode_operand w rex2 h.byte ≡ code = λ q. opcode_there w rex2 h.byte ∙ o_again q ∙ sym (opcode_there w rx h.byte) in
      let mean2 : meaning row h2 ms2 pl.sib pl.disp imm ≡ Some insn =
      meant_again row h2 ms2 pl.sib pl.disp imm w meant.operands op w2
      (operands_same f rm reg (rm_operand ew rex2 ms2 pl.sib pl.disp) (reg_operand w rex2 ms2) code (opcode_operand w rex2 h.byte) (immediate imm) rm2 reg2 code2 ∙ meant.operands_are) meant.op_is in
      let imm2 : number_bytes (imm_len row.imm w) (number_of op) ≡ imm = imm_back f row.imm w imm (number_of op) law.imm imm_is imm_bytes names.value_is in
      let parts2 = parts_at h2 ms2 pl.sib pl.disp imm in
      let plain2 : plain_by labels row insn ≡ parts2 = plain_is lg row p.lock w op h2 imm head2 imm2 in
      let fitting : Fitting row parts2 insn = record {
        bytes = (mg.modrm_bytes, mg.sib_bytes, mg.disp_bytes, imm_bytes);
        fits = fit2;
        sib_len = mg.sib_is ∙ sym (sib_len_is ms2 mg.modrm_bytes);
        disp_len = mg.disp_is ∙ sym (disp_len_is ms2 pl.sib mg.modrm_bytes);
        imm_len = imm_is ∙ ap (imm_len row.imm) (sym w2);
        value = mean2;
      } in
      let holds : HoldsLabels labels parts2 = record { displacement = mp.long; immediate = long_imm } in
      let all_fits : Fits labels insn row = subst (λ (q : Parts). Fitting row q insn × HoldsLabels labels q) {x = parts2} {y = plain_by labels row insn} (sym plain2) (fitting, holds) in
      -- and no later
      let pre = prefix_bytes size2 p.lock row.rep in
      let rexb = rex_bytes rex2 in
      let opb = opcode_bytes row.map h.byte in
      let calm = no_clash h (live_from row h ms among fit) in
      let rb = rex_below must wide r pl.x b rx is_head.rex bits is_head.is_rex in
      let le_first : Le (pre ++ (rexb ++ opb)) first = subst (λ (l : List ℕ). Le (pre ++ (rexb ++ opb)) l) {x = is_head.prefixes ++ (is_head.rex ++ is_head.opcode)} {y = first} (sym is_head.parts)
      (Le-append pre is_head.prefixes (rexb ++ opb) (is_head.rex ++ is_head.opcode)
      (prefixes_below size2 p.lock row.rep p is_head.prefixes is_head.are_prefixes (λ q. size_is_needed row.class p rx q) (λ q. q) (λ q. bool_is p.rep row.rep t.rep q) calm)
      (Le-append rexb is_head.rex opb is_head.opcode (record { len = rb.0; lex = rb.1 })
      (Le-same opb is_head.opcode (opcode_is row.map h.map h.byte is_head.opcode (map_is row.map h.map t.map) is_head.is_opcode)))) in
      let le_tail : Le (ms2 ++ (pl.sib ++ (pl.disp ++ imm))) (ms ++ (sib ++ (disp ++ imm))) =
      subst (λ (l : List ℕ). Le l (ms ++ (sib ++ (disp ++ imm)))) {x = (ms2 ++ (pl.sib ++ pl.disp)) ++ imm} {y = ms2 ++ (pl.sib ++ (pl.disp ++ imm))} (regroup ms2 pl.sib pl.disp imm)
      (subst (λ (l : List ℕ). Le ((ms2 ++ (pl.sib ++ pl.disp)) ++ imm) l) {x = (ms ++ (sib ++ disp)) ++ imm} {y = ms ++ (sib ++ (disp ++ imm))} (regroup ms sib disp imm)
      (Le-append (ms2 ++ (pl.sib ++ pl.disp)) (ms ++ (sib ++ disp)) imm imm mp.le (Le-same imm imm refl))) in
      let whole : Le (written (plain_by labels row insn)) (first ++ (ms ++ (sib ++ (disp ++ imm)))) =
      subst (λ (l : List ℕ). Le l (first ++ (ms ++ (sib ++ (disp ++ imm))))) {x = (pre ++ (rexb ++ opb)) ++ (ms2 ++ (pl.sib ++ (pl.disp ++ imm)))} {y = written (plain_by labels row insn)} (sym (ap written plain2 ∙ written_is h2 ms2 pl.sib pl.disp imm))
      (Le-append (pre ++ (rexb ++ opb)) first (ms2 ++ (pl.sib ++ (pl.disp ++ imm))) (ms ++ (sib ++ (disp ++ imm))) le_first le_tail) in
      subst (λ (i : Insn). Good labels row i (first ++ (ms ++ (sib ++ (disp ++ imm))))) {x = insn} {y = insn_meant} meant.insn_is (record { fits = all_fits; first = Le-before (written (plain_by labels row insn)) (first ++ (ms ++ (sib ++ (disp ++ imm)))) whole })

-- the row's plain spelling is one, and no later than any that it has
pub plain_good : (labels : Labels) (row : Row) (insn : Insn) (b : List ℕ) → Contains ROWS row → (s : Spells row b insn) → (labels.displacement ≡ true → length s.disp ≡ 4) → (labels.immediate ≡ true → length s.imm ≡ 4) → Good labels row insn b
plain_good labels row insn b among s ld li =
    subst (λ (l : List ℕ). Good labels row insn l) (sym s.parts)
    (good labels row among s.head s.first s.modrm s.sib s.disp s.imm s.is_head s.fits s.bytes.0 s.bytes.1 s.bytes.2 s.bytes.3 s.sib_len s.disp_len s.imm_len ld li insn s.value)
