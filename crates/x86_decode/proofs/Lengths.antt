-- How long a spelling is.
use Rattle.std.proofs.Common.{◌≡◌, ℕ, ◌+◌, ◌*◌, ◌≤◌, Bool, true, false, List, [], ◌∷◌, ◌++◌, length, Option, Some, None, refl, sym, ap, ◌∙◌, arith, zero-add, inl, inr}
use Rattle.std.specs.Prelude.{Contains, not, ◌&&◌, ◌||◌}
use Rattle.std.specs.List.{list_all}
use Rattle.std.proofs.lemmas.Bool.{cases_Bool, or_cases, not-true}
use Rattle.std.proofs.lemmas.Bool.Decides.{nat_tests}
use Rattle.std.proofs.lemmas.List.{length-append}
use Rattle.x86_grammar.specs.declared.head.Prefixes.{Prefixes}
use Rattle.x86_grammar.specs.declared.head.Rex.{Rex}
use Rattle.x86_grammar.specs.declared.head.Head.{Head}
use Rattle.vm_law.specs.declared.insn.Insn.{Insn}
use Rattle.vm_law.specs.declared.insn.Width.{Width}
use Rattle.vm_law.specs.declared.insn.Width.TheVariants as width
use Rattle.x86_grammar.specs.declared.table.Map.{Map}
use Rattle.x86_grammar.specs.declared.table.Map.TheVariants.{One, Two}
use Rattle.x86_grammar.specs.declared.table.Imm.{Imm}
use Rattle.x86_grammar.specs.declared.table.Imm.TheVariants as imm
use Rattle.x86_grammar.specs.declared.table.Row.{Row}
use Rattle.x86_grammar.specs.declared.table.TheConstants.{ROWS}
use Rattle.x86_grammar.specs.Rows.{add_prefix, clashes, fits, has_modrm}
use Rattle.x86_grammar.specs.Operands.{width_of, sib_len, disp_len, imm_len}
use Rattle.x86_grammar.specs.Rows.{no_prefix}
use Rattle.x86_grammar.specs.Grammar.{ArePrefixes, IsRex, IsOpcode, Spelled}
use Rattle.x86_grammar.proofs.Finding.{all_at}
use Rattle.x86_grammar.proofs.Opcodes.{fits_parts, no_second, slash_has}
use Rattle.x86_decode.proofs.HeadPart.{no_clash}
use Rattle.x86_decode.proofs.Whole.{live_from}

abbrev one_if : Bool → ℕ
one_if true = 1
one_if false = 0

abbrev count_of : Prefixes → ℕ
count_of p = one_if p.size + one_if p.lock + one_if p.rep

add_counts : (b : ℕ) (p q : Prefixes) → add_prefix b p ≡ Some q → count_of q ≡ count_of p + 1
unfolding add_prefix
add_counts b p q e = grind (arith, nat_tests)

prefixes_count : (ps : List ℕ) (p q : Prefixes) → ArePrefixes p ps q → length ps + count_of p ≡ count_of q
prefixes_count [] p q a = zero-add (count_of p) ∙ ap count_of a
prefixes_count (b ∷ ps) p q a =
    let one = add_counts b p a.0 a.1 in
    let more = prefixes_count ps a.0 q a.2 in
    omega arith

calm_two : (s l : Bool) → (s || l) ≡ false → one_if s + one_if l + 1 ≤ 2
calm_two true l e = absurd cc
calm_two false true e = absurd cc
calm_two false false e = omega arith

calm_flags : (s l r : Bool) → (r && (s || l)) ≡ false → one_if s + one_if l + one_if r ≤ 2
calm_flags s l true e = elim (cases_Bool (s || l)) [ inl t ↦ absurd (let bad : true ≡ false = sym t ∙ e in cc bad) | inr f ↦ calm_two s l f ]
calm_flags true true false e = omega arith
calm_flags true false false e = omega arith
calm_flags false true false e = omega arith
calm_flags false false false e = omega arith

calm_count : (p : Prefixes) → clashes p ≡ false → count_of p ≤ 2
calm_count p e = calm_flags p.size p.lock p.rep e

rex_length : (r : Option Rex) (bs : List ℕ) → IsRex r bs → length bs ≤ 1
rex_length None bs i = omega (arith, ap length i)
rex_length (Some r) bs i = omega (arith, ap length i.1)

opcode_length : (m : Map) (b : ℕ) (bs : List ℕ) → IsOpcode m b bs → length bs ≤ 2
opcode_length One b bs i = omega (arith, ap length i)
opcode_length Two b bs i = omega (arith, ap length i)

modrm_length : (row : Row) (h : Head) (ms : List ℕ) → fits row h ms ≡ true → length ms ≤ 1
modrm_length row h [] e = omega arith
modrm_length row h (m ∷ []) e = omega arith
modrm_length row h (m ∷ n ∷ ms) e = absurd (no_second row h m n ms e)

sib_short : (ms : List ℕ) → sib_len ms ≤ length ms
sib_short [] = omega arith
sib_short (m ∷ ms) = grind (arith, nat_tests)

disp_short : (ms sib : List ℕ) → disp_len ms sib ≤ 4 * length ms
unfolding disp_len
disp_short [] sib = omega arith
disp_short (m ∷ ms) sib = grind (arith, nat_tests)

-- only rows without a ModRM byte have an immediate of eight bytes
abbrev full : Imm → Bool
full imm.V = true
full imm.None = false
full imm.B = false
full imm.W = false
full imm.D = false
full imm.Z = false

abbrev brief : Row → Bool
brief row = not (full row.imm) || not (has_modrm row.slash)

rows_brief : list_all brief ROWS ≡ true
rows_brief = refl

imm_short : (i : Imm) (w : Width) → (full i ≡ true → ⊥) → imm_len i w ≤ 4
unfolding imm_len
imm_short imm.None w n = omega arith
imm_short imm.B w n = omega arith
imm_short imm.W w n = omega arith
imm_short imm.D w n = omega arith
imm_short imm.Z width.B n = omega arith
imm_short imm.Z width.W n = omega arith
imm_short imm.Z width.D n = omega arith
imm_short imm.Z width.Q n = omega arith
imm_short imm.V w n = absurd (n refl)

imm_any : (i : Imm) (w : Width) → imm_len i w ≤ 8
unfolding imm_len
imm_any imm.None w = omega arith
imm_any imm.B w = omega arith
imm_any imm.W w = omega arith
imm_any imm.D w = omega arith
imm_any imm.Z width.B = omega arith
imm_any imm.Z width.W = omega arith
imm_any imm.Z width.D = omega arith
imm_any imm.Z width.Q = omega arith
imm_any imm.V width.B = omega arith
imm_any imm.V width.W = omega arith
imm_any imm.V width.D = omega arith
imm_any imm.V width.Q = omega arith

-- the ModRM part and the immediate together
modrm_imm : (row : Row) (h : Head) (ms : List ℕ) (w : Width) → Contains ROWS row → fits row h ms ≡ true → 6 * length ms + imm_len row.imm w ≤ 10
modrm_imm row h [] w c f = omega (arith, imm_any row.imm w)
modrm_imm row h (m ∷ []) w c f =
    elim (or_cases (not (full row.imm)) (not (has_modrm row.slash)) (all_at brief ROWS row rows_brief c)) [
      | inl n ↦
          let four : imm_len row.imm w ≤ 4 = imm_short row.imm w (λ t. let bad : true ≡ false = sym t ∙ not-true (full row.imm) n in cc bad) in
          omega arith
      | inr n ↦ absurd (let bad : true ≡ false = sym (slash_has row.slash m (fits_parts row h m f).slash) ∙ not-true _ n in cc bad)
    ]
modrm_imm row h (m ∷ n ∷ ms) w c f = absurd (no_second row h m n ms f)

pub at_most_15 : (bs : List ℕ) (insn : Insn) → Spelled bs insn → length bs ≤ 15
at_most_15 bs insn (row, c, s) =
    let h = s.head in
    let i = s.is_head in
    let live = live_from row h s.modrm c s.fits in
    let a = prefixes_count i.prefixes no_prefix h.prefixes i.are_prefixes in
    let b = calm_count h.prefixes (no_clash h live) in
    let d = rex_length h.rex i.rex i.is_rex in
    let e = opcode_length h.map h.byte i.opcode i.is_opcode in
    let f = modrm_length row h s.modrm s.fits in
    let g = sib_short s.modrm in
    let k = disp_short s.modrm s.sib in
    let l = modrm_imm row h s.modrm (width_of row.class h.prefixes h.rex) c s.fits in
    let first : length s.first ≤ 5 = omega (arith, ap length i.parts, length-append i.prefixes (i.rex ++ i.opcode), length-append i.rex i.opcode) in
    let sib = s.sib_len in
    let disp = s.disp_len in
    let imm = s.imm_len in
    let sizes : length bs ≡ length s.first + (length s.modrm + (length s.sib + (length s.disp + length s.imm))) = ap length s.parts ∙ simp length-append in
    omega arith
