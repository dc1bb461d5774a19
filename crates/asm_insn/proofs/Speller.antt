-- A function that gives each instruction's canonical spelling: the least of the plain spellings over the table's rows.
use Rattle.std.proofs.Common.{◌≡◌, ◌==◌, ◌&&◌, ℕ, zero, suc, Bool, true, false, List, [], ◌∷◌, ◌++◌, length, Option, Some, None, refl, sym, ap, subst, append_assoc, append-nil, eqb-true, eq-eqb, ltb-true, lt-ltb, nat_lt, arith, lit<}
use Rattle.vm_law.specs.declared.insn.Insn.{Insn}
use Rattle.x86_grammar.specs.declared.table.Row.{Row}
use Rattle.x86_grammar.specs.declared.table.TheConstants.{ROWS}
use Rattle.x86_grammar.specs.Grammar.{IsBytes}
use Rattle.x86_grammar.specs.Rows.{fits}
use Rattle.x86_grammar.specs.Operands.{width_of, sib_len, disp_len, imm_len}
use Rattle.x86_grammar.specs.Meaning.{meaning}
use Rattle.x86_encode.specs.declared.labels.Labels.{Labels}
use Rattle.x86_encode.specs.Inside.Plain.{Parts, written}
use Rattle.x86_encode.specs.Inside.Selecting.{Fitting, HoldsLabels, Fits, NoneFits, plain_by, better_of}
use Rattle.x86_encode.proofs.Best.{Best, ByRow, step}
use Rattle.x86_encode.proofs.Minimum.{found}
use Rattle.asm_insn.specs.Spelling.{Speller, IsSpeller}
use Rattle.asm_insn.specs.Law.{SpellerLaw}
use Rattle.asm_insn.proofs.Trees.{and_left, and_right}
use Rattle.asm_insn.proofs.Same.{same_insn, same_insn_true, same_insn_refl}

both : (x y : Bool) → x ≡ true → y ≡ true → x && y ≡ true
both true y e h = h
both false y e h = e

-- ---- tests of bytes, labels and meaning

abbrev are_bytes : List ℕ → Bool
are_bytes [] = true
are_bytes (b ∷ bs) = nat_lt b 256 && are_bytes bs

are_bytes_true : (bs : List ℕ) → are_bytes bs ≡ true → IsBytes bs
are_bytes_true [] h i = lit< tt
are_bytes_true (b ∷ bs) h zero = ltb-true b 256 (and_left (nat_lt b 256) (are_bytes bs) h)
are_bytes_true (b ∷ bs) h (suc i) = are_bytes_true bs (and_right (nat_lt b 256) (are_bytes bs) h) i

bytes_are : (bs : List ℕ) → IsBytes bs → are_bytes bs ≡ true
bytes_are [] h = refl
bytes_are (b ∷ bs) h = both (nat_lt b 256) (are_bytes bs) (lt-ltb b 256 (h 0)) (bytes_are bs (λ i. h (suc i)))

abbrev if_label : Bool → List ℕ → Bool
if_label false field = true
if_label true field = length field == 4

if_label_true : (t : Bool) (field : List ℕ) → if_label t field ≡ true → t ≡ true → length field ≡ 4
if_label_true false field h e = absurd (let no : ⊥ = cc in no)
if_label_true true field h e = eqb-true (length field) 4 h

label_if : (t : Bool) (field : List ℕ) → (t ≡ true → length field ≡ 4) → if_label t field ≡ true
label_if false field h = refl
label_if true field h = eq-eqb (length field) 4 (h refl)

abbrev means : Option Insn → Insn → Bool
means None insn = false
means (Some i) insn = same_insn i insn

means_true : (o : Option Insn) (insn : Insn) → means o insn ≡ true → o ≡ Some insn
means_true None insn h = absurd (let no : ⊥ = cc in no)
means_true (Some i) insn h = ap (λ (x : Insn). Some x) (same_insn_true i insn h)

meant : (o : Option Insn) (insn : Insn) → o ≡ Some insn → means o insn ≡ true
meant o insn e = subst (λ (q : Option Insn). means q insn ≡ true) (sym e) (same_insn_refl insn)

-- ---- the test of a row

abbrev size_tests : Row → Parts → Bool
size_tests row p = (length p.sib == sib_len p.modrm) && ((length p.disp == disp_len p.modrm p.sib) && (length p.imm == imm_len row.imm (width_of row.class p.head.prefixes p.head.rex)))

abbrev byte_tests : Parts → Bool
byte_tests p = are_bytes p.modrm && (are_bytes p.sib && (are_bytes p.disp && are_bytes p.imm))

abbrev label_tests : Labels → Parts → Bool
label_tests labels p = if_label labels.displacement p.disp && if_label labels.immediate p.imm

abbrev part_tests : Row → Parts → Insn → Bool
part_tests row p insn = fits row p.head p.modrm && means (meaning row p.head p.modrm p.sib p.disp p.imm) insn

abbrev tests : Labels → Row → Parts → Insn → Bool
tests labels row p insn = byte_tests p && (size_tests row p && (label_tests labels p && part_tests row p insn))

fitting_from : (row : Row) (p : Parts) (insn : Insn) → byte_tests p ≡ true → size_tests row p ≡ true → part_tests row p insn ≡ true → Fitting row p insn
fitting_from row p insn b s t =
    let b1 : are_bytes p.sib && (are_bytes p.disp && are_bytes p.imm) ≡ true = and_right (are_bytes p.modrm) _ b in
    let b2 : are_bytes p.disp && are_bytes p.imm ≡ true = and_right (are_bytes p.sib) _ b1 in
    let s1 : (length p.disp == disp_len p.modrm p.sib) && (length p.imm == imm_len row.imm (width_of row.class p.head.prefixes p.head.rex)) ≡ true = and_right (length p.sib == sib_len p.modrm) _ s in
    record {
      bytes = (are_bytes_true p.modrm (and_left (are_bytes p.modrm) _ b), are_bytes_true p.sib (and_left (are_bytes p.sib) _ b1), are_bytes_true p.disp (and_left (are_bytes p.disp) _ b2), are_bytes_true p.imm (and_right (are_bytes p.disp) _ b2));
      fits = and_left (fits row p.head p.modrm) _ t;
      sib_len = eqb-true (length p.sib) (sib_len p.modrm) (and_left (length p.sib == sib_len p.modrm) _ s);
      disp_len = eqb-true (length p.disp) (disp_len p.modrm p.sib) (and_left (length p.disp == disp_len p.modrm p.sib) _ s1);
      imm_len = eqb-true (length p.imm) (imm_len row.imm (width_of row.class p.head.prefixes p.head.rex)) (and_right (length p.disp == disp_len p.modrm p.sib) _ s1);
      value = means_true (meaning row p.head p.modrm p.sib p.disp p.imm) insn (and_right (fits row p.head p.modrm) _ t);
    }

labels_from : (labels : Labels) (p : Parts) → label_tests labels p ≡ true → HoldsLabels labels p
labels_from labels p t = record {
  displacement = if_label_true labels.displacement p.disp (and_left (if_label labels.displacement p.disp) _ t);
  immediate = if_label_true labels.immediate p.imm (and_right (if_label labels.displacement p.disp) _ t);
}

tests_true : (labels : Labels) (row : Row) (p : Parts) (insn : Insn) → tests labels row p insn ≡ true → Fitting row p insn × HoldsLabels labels p
tests_true labels row p insn t =
    let t1 : size_tests row p && (label_tests labels p && part_tests row p insn) ≡ true = and_right (byte_tests p) _ t in
    let t2 : label_tests labels p && part_tests row p insn ≡ true = and_right (size_tests row p) _ t1 in (
      fitting_from row p insn (and_left (byte_tests p) _ t) (and_left (size_tests row p) _ t1) (and_right (label_tests labels p) _ t2),
      labels_from labels p (and_left (label_tests labels p) _ t2),
    )

byte_tests_are : (p : Parts) → IsBytes p.modrm → IsBytes p.sib → IsBytes p.disp → IsBytes p.imm → byte_tests p ≡ true
byte_tests_are p a b c d = both (are_bytes p.modrm) _ (bytes_are p.modrm a) (both (are_bytes p.sib) _ (bytes_are p.sib b) (both (are_bytes p.disp) (are_bytes p.imm) (bytes_are p.disp c) (bytes_are p.imm d)))

size_tests_are : (row : Row) (p : Parts) (insn : Insn) → Fitting row p insn → size_tests row p ≡ true
size_tests_are row p insn f =
    both (length p.sib == sib_len p.modrm) _ (eq-eqb (length p.sib) (sib_len p.modrm) f.sib_len)
    (both (length p.disp == disp_len p.modrm p.sib) _ (eq-eqb (length p.disp) (disp_len p.modrm p.sib) f.disp_len)
    (eq-eqb (length p.imm) (imm_len row.imm (width_of row.class p.head.prefixes p.head.rex)) f.imm_len))

tests_are : (labels : Labels) (row : Row) (p : Parts) (insn : Insn) → Fitting row p insn → HoldsLabels labels p → tests labels row p insn ≡ true
tests_are labels row p insn f l =
    both (byte_tests p) _ (byte_tests_are p f.bytes.0 f.bytes.1 f.bytes.2 f.bytes.3)
    (both (size_tests row p) _ (size_tests_are row p insn f)
    (both (label_tests labels p) _
    (both (if_label labels.displacement p.disp) _ (label_if labels.displacement p.disp l.displacement) (label_if labels.immediate p.imm l.immediate))
    (both (fits row p.head p.modrm) _ f.fits (meant (meaning row p.head p.modrm p.sib p.disp p.imm) insn f.value))))

-- ---- the search

abbrev some_if : Bool → List ℕ → Option (List ℕ)
some_if true b = Some b
some_if false b = None

by_row : Labels → Insn → Row → Option (List ℕ)
by_row labels insn row = some_if (tests labels row (plain_by labels row insn) insn) (written (plain_by labels row insn))

by_test : (labels : Labels) (insn : Insn) (row : Row) (t : Bool) → (t ≡ true → Fits labels insn row) → (Fits labels insn row → t ≡ true) → ByRow labels insn row (some_if t (written (plain_by labels row insn)))
by_test labels insn row true to from = (refl, to refl)
by_test labels insn row false to from = λ f. absurd (let e : false ≡ true = from f in let no : ⊥ = cc in no)

by_row_is : (labels : Labels) (insn : Insn) (row : Row) → ByRow labels insn row (by_row labels insn row)
unfolding by_row
by_row_is labels insn row =
    by_test labels insn row (tests labels row (plain_by labels row insn) insn)
    (λ t. tests_true labels row (plain_by labels row insn) insn t)
    (λ f. tests_are labels row (plain_by labels row insn) insn f.0 f.1)

search_rows : Labels → Insn → Option (List ℕ) → List Row → Option (List ℕ)
search_rows labels insn best [] = best
search_rows labels insn best (r ∷ rs) = search_rows labels insn (better_of best (by_row labels insn r)) rs

search_is : (labels : Labels) (insn : Insn) (done : List Row) (best : Option (List ℕ)) (rows : List Row) → Best labels insn done best → Best labels insn (done ++ rows) (search_rows labels insn best rows)
unfolding search_rows
search_is labels insn done best [] b = subst (λ (rs : List Row). Best labels insn rs best) (sym (append-nil done)) b
search_is labels insn done best (r ∷ rs) b =
    subst (λ (q : List Row). Best labels insn q (search_rows labels insn (better_of best (by_row labels insn r)) rs)) (append_assoc done (r ∷ []) rs)
    (search_is labels insn (done ++ r ∷ []) (better_of best (by_row labels insn r)) rs (step labels insn done r best (by_row labels insn r) b (by_row_is labels insn r)))

pub speller : Speller
speller labels insn = search_rows labels insn None ROWS

none_in : (labels : Labels) (insn : Insn) → NoneFits labels insn []
none_in labels insn row c f = absurd (omega (arith, c.1))

pub speller_is : IsSpeller speller
unfolding speller
speller_is labels insn = found (λ (t : List ℕ). t) labels insn (search_rows labels insn None ROWS) (search_is labels insn [] None ROWS (none_in labels insn))

pub speller_law : SpellerLaw
speller_law = (speller, speller_is)
