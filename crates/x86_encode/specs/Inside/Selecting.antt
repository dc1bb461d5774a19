-- The least of the plain spellings over the rows.
use Rattle.std.specs.Prelude.{◌≡◌, ℕ, true, Option, Some, None, List, Contains, length, if◌then◌else◌}
use Rattle.vm_law.specs.declared.insn.Insn.{Insn}
use Rattle.x86_grammar.specs.declared.table.Row.{Row}
use Rattle.x86_grammar.specs.Rows.{fits}
use Rattle.x86_grammar.specs.Operands.{width_of, sib_len, disp_len, imm_len}
use Rattle.x86_grammar.specs.Meaning.{meaning}
use Rattle.x86_grammar.specs.Grammar.{IsBytes}
use Rattle.x86_encode.specs.declared.labels.Labels.{Labels}
use Rattle.x86_encode.specs.Order.{before}
use Rattle.x86_encode.specs.Inside.Plain.{Parts, plain, written}

-- the parts are those of a spelling of the instruction by the row
pub record Fitting (row : Row) (p : Parts) (insn : Insn) : Type 0 where
  pub bytes : IsBytes p.modrm × IsBytes p.sib × IsBytes p.disp × IsBytes p.imm
  pub fits : fits row p.head p.modrm ≡ true
  pub sib_len : length p.sib ≡ sib_len p.modrm
  pub disp_len : length p.disp ≡ disp_len p.modrm p.sib
  pub imm_len : length p.imm ≡ imm_len row.imm (width_of row.class p.head.prefixes p.head.rex)
  pub value : meaning row p.head p.modrm p.sib p.disp p.imm ≡ Some insn

-- each field that holds a label has 32 bits
pub record HoldsLabels (labels : Labels) (p : Parts) : Type 0 where
  pub displacement : labels.displacement ≡ true → length p.disp ≡ 4
  pub immediate : labels.immediate ≡ true → length p.imm ≡ 4

abbrev pub plain_by : Labels → Row → Insn → Parts
plain_by labels row insn = plain labels.displacement row insn

-- the row's plain spelling is one
abbrev pub Fits : Labels → Insn → Row → Type 0
Fits labels insn row = Fitting row (plain_by labels row insn) insn × HoldsLabels labels (plain_by labels row insn)

-- the bytes are the plain spelling by one of these rows, and none by another is before them
pub record IsLeast (labels : Labels) (insn : Insn) (rows : List Row) (b : List ℕ) : Type 0 where
  pub row : Row
  pub among : Contains rows row
  pub fits : Fits labels insn row
  pub is : b ≡ written (plain_by labels row insn)
  pub least : (other : Row) → Contains rows other → Fits labels insn other → before b (written (plain_by labels other insn)) ≡ true

-- none of these rows has one
abbrev pub NoneFits : Labels → Insn → List Row → Type 0
NoneFits labels insn rows = (row : Row) → Contains rows row → Fits labels insn row → ⊥

abbrev pub lesser : List ℕ → List ℕ → List ℕ
lesser a b = if before a b then a else b

abbrev pub better_of : Option (List ℕ) → Option (List ℕ) → Option (List ℕ)
better_of None b = b
better_of (Some a) None = Some a
better_of (Some a) (Some b) = Some (lesser a b)
