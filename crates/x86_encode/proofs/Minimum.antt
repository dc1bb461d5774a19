-- The least of the plain spellings over the table is the least of all spellings.
use Rattle.std.proofs.Common.{ℕ, ◌≤◌, Bool, false, List, length, refl, sym, subst, Option, Some, None}
use Rattle.std.specs.Prelude.{Contains, MatchOption, IsTrue, IsSome, IfSome, ◌↔◌}
use Rattle.x86_grammar.specs.declared.head.Head.{Head}
use Rattle.vm_law.specs.declared.insn.Insn.{Insn}
use Rattle.x86_grammar.specs.declared.table.Row.{Row}
use Rattle.x86_grammar.specs.declared.table.TheConstants.{ROWS}
use Rattle.x86_grammar.specs.Grammar.{IsHead, Spells, Spelled}
use Rattle.x86_decode.proofs.Lengths.{at_most_15}
use Rattle.x86_encode.specs.declared.labels.Labels.{Labels}
use Rattle.x86_encode.specs.Inside.Plain.{Parts, prefix_bytes, rex_bytes, opcode_bytes, head_bytes, written}
use Rattle.x86_encode.specs.Canonical.{HasSpelling, IsCanonical, Labelled, HasLabelled, IsCanonicalWith}
use Rattle.x86_encode.specs.Inside.Selecting.{Fitting, HoldsLabels, IsLeast, NoneFits, plain_by}
use Rattle.x86_encode.proofs.Order.{before_trans}
use Rattle.x86_encode.proofs.Rexes.{is_rex_for, prefixes_are}
use Rattle.x86_encode.proofs.Canon.{is_opcode, plain_good}

head_spelled : (h : Head) → IsHead h (head_bytes h)
unfolding head_bytes
head_spelled h = record {
  prefixes = prefix_bytes h.prefixes.size h.prefixes.lock h.prefixes.rep;
  rex = rex_bytes h.rex;
  opcode = opcode_bytes h.map h.byte;
  parts = refl;
  are_prefixes = prefixes_are h.prefixes.size h.prefixes.lock h.prefixes.rep;
  is_rex = is_rex_for h.rex;
  is_opcode = is_opcode h.map h.byte;
}

-- parts that fit are those of a spelling
spells_from : (row : Row) (p : Parts) (insn : Insn) → Fitting row p insn → Spells row (written p) insn
unfolding written
spells_from row p insn f = record {
  head = p.head;
  first = head_bytes p.head;
  modrm = p.modrm;
  sib = p.sib;
  disp = p.disp;
  imm = p.imm;
  parts = refl;
  bytes = f.bytes;
  is_head = head_spelled p.head;
  fits = f.fits;
  sib_len = f.sib_len;
  disp_len = f.disp_len;
  imm_len = f.imm_len;
  value = f.value;
}

labelled_from : (labels : Labels) (row : Row) (p : Parts) (insn : Insn) → Contains ROWS row → Fitting row p insn → HoldsLabels labels p → Labelled labels (written p) insn
unfolding spells_from
labelled_from labels row p insn c f l = record { row = row; among = c; spells = spells_from row p insn f; displacement = l.displacement; immediate = l.immediate }

pub least_canonical : (labels : Labels) (insn : Insn) (b : List ℕ) → IsLeast labels insn ROWS b → IsCanonicalWith labels insn b
least_canonical labels insn b l = record {
  labelled = subst (λ (q : List ℕ). Labelled labels q insn) (sym l.is) (labelled_from labels l.row (plain_by labels l.row insn) insn l.among l.fits.0 l.fits.1);
  least = λ c s.
      let g = plain_good labels s.row insn c s.among s.spells s.displacement s.immediate in
      before_trans b (written (plain_by labels s.row insn)) c (l.least s.row s.among g.fits) g.first;
}

pub none_labelled : (labels : Labels) (insn : Insn) → NoneFits labels insn ROWS → HasLabelled labels insn → ⊥
none_labelled labels insn n (b, s) = n s.row s.among (plain_good labels s.row insn b s.among s.spells s.displacement s.immediate).fits

abbrev pub no_labels : Labels
no_labels = record { displacement = false; immediate = false }

pub labelled_spelled : (labels : Labels) (insn : Insn) (b : List ℕ) → Labelled labels b insn → Spelled b insn
labelled_spelled labels insn b s = (s.row, s.among, s.spells)

pub spelled_labelled : (insn : Insn) (b : List ℕ) → Spelled b insn → Labelled no_labels b insn
spelled_labelled insn b (row, among, s) = record { row = row; among = among; spells = s; displacement = λ e. absurd cc; immediate = λ e. absurd cc }

pub canonical_plain : (insn : Insn) (b : List ℕ) → IsCanonicalWith no_labels insn b → IsCanonical insn b
canonical_plain insn b k = record {
  spelled = labelled_spelled no_labels insn b k.labelled;
  least = λ c s. k.least c (spelled_labelled insn c s);
}

pub brief : (labels : Labels) (insn : Insn) (b : List ℕ) → Labelled labels b insn → length b ≤ 15
brief labels insn b s = at_most_15 b insn (labelled_spelled labels insn b s)

-- what the search of the rows finds is canonical
pub found : {X : Type 0} (f : X → List ℕ) (labels : Labels) (insn : Insn) (o : Option X) → MatchOption o (NoneFits labels insn ROWS) (λ t. IsLeast labels insn ROWS (f t)) → MatchOption o (HasLabelled labels insn → ⊥) (λ t. IsCanonicalWith labels insn (f t))
found f labels insn None m = none_labelled labels insn m
found f labels insn (Some t) m = least_canonical labels insn (f t) m

pub found_brief : {X : Type 0} (f : X → List ℕ) (labels : Labels) (insn : Insn) (o : Option X) → MatchOption o (NoneFits labels insn ROWS) (λ t. IsLeast labels insn ROWS (f t)) → IfSome o (λ t. length (f t) ≤ 15)
found_brief f labels insn None m = tt
found_brief f labels insn (Some t) m = brief labels insn (f t) (least_canonical labels insn (f t) m).labelled

-- whether it finds one tells whether there is one
pub found_one : {X : Type 0} (f : X → List ℕ) (labels : Labels) (insn : Insn) (o : Option X) (t : Bool) → (IsTrue t ↔ IsSome o) → MatchOption o (HasLabelled labels insn → ⊥) (λ x. IsCanonicalWith labels insn (f x)) → IsTrue t ↔ HasLabelled labels insn
found_one f labels insn None t e m = (λ k. absurd (cc (e.0 k)), λ k. absurd (m k))
found_one f labels insn (Some x) t e m = (λ k. (f x, m.labelled), λ k. e.1 refl)

-- of instructions without a label
pub same_spelled : (insn : Insn) (t : Bool) → (IsTrue t ↔ HasLabelled no_labels insn) → IsTrue t ↔ HasSpelling insn
same_spelled insn t e = (λ k. let s = e.0 k in (s.0, labelled_spelled no_labels insn s.0 s.1), λ k. e.1 (k.0, spelled_labelled insn k.0 k.1))
