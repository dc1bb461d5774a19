-- The canonical spelling of an instruction: the least of all its spellings.
use Rattle.std.specs.Prelude.{◌≡◌, ℕ, true, List, length, Contains}
use Rattle.vm_law.specs.declared.insn.Insn.{Insn}
use Rattle.x86_grammar.specs.declared.table.Row.{Row}
use Rattle.x86_grammar.specs.declared.table.TheConstants.{ROWS}
use Rattle.x86_grammar.specs.Grammar.{Spells, Spelled}
use Rattle.x86_encode.specs.declared.labels.Labels.{Labels}
use Rattle.x86_encode.specs.Order.{before}

-- the instruction has a spelling
abbrev pub HasSpelling : Insn → Type 0
HasSpelling insn = (b : List ℕ) × Spelled b insn

-- the bytes are a spelling of the instruction, and no spelling of it is before them
pub record IsCanonical (insn : Insn) (b : List ℕ) : Type 0 where
  pub spelled : Spelled b insn
  pub least : (c : List ℕ) → Spelled c insn → before b c ≡ true

-- the bytes are a spelling of the instruction with 32 bits in each field that holds a label
pub record Labelled (labels : Labels) (b : List ℕ) (insn : Insn) : Type 0 where
  pub row : Row
  pub among : Contains ROWS row
  pub spells : Spells row b insn
  pub displacement : labels.displacement ≡ true → length spells.disp ≡ 4
  pub immediate : labels.immediate ≡ true → length spells.imm ≡ 4

-- the instruction has such a spelling
abbrev pub HasLabelled : Labels → Insn → Type 0
HasLabelled labels insn = (b : List ℕ) × Labelled labels b insn

-- the bytes are such a spelling of the instruction, and none is before them
pub record IsCanonicalWith (labels : Labels) (insn : Insn) (b : List ℕ) : Type 0 where
  pub labelled : Labelled labels b insn
  pub least : (c : List ℕ) → Labelled labels c insn → before b c ≡ true
