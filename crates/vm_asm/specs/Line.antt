-- Lines: a label and a statement, each where it stands, and a comment.
use Rattle.std.specs.Prelude.{ℕ, List, Option, Some, None, Ok, Err, option_map, option_and_then, unwrap_or, if◌then◌else◌}
use Rattle.std.specs.Str.{is_utf8}
use Rattle.text_reader.specs.Line.{without_indent}
use Rattle.text_reader.specs.Word.{cut_at}
use Rattle.vm_asm.specs.declared.fault.AsmKind.TheVariants as kind
use Rattle.asm_words.specs.declared.label.Value.{Value}
use Rattle.asm_words.specs.declared.label.Value.TheVariants.{Undefined}
use Rattle.vm_asm.specs.declared.line.Line.{Line}
use Rattle.vm_asm.specs.declared.statement.Statement.{Statement}
use Rattle.asm_words.specs.Blank.{trimmed, before}
use Rattle.asm_words.specs.Label.{is_label, label_of}
use Rattle.asm_insn.specs.Spelling.{Speller}
use Rattle.vm_asm.specs.Statement.{Reading, statement_of}

-- the line before a `;` (59), at its first `:` (58)
abbrev pub at_colon : List ℕ → Option (List ℕ × List ℕ)
at_colon text = cut_at 58 (before 59 text)

abbrev pub behind_or : Option (List ℕ × List ℕ) → List ℕ → List ℕ
behind_or None text = text
behind_or (Some (front, back)) text = back

-- what stands before the colon, if there is one, behind blanks
abbrev pub label_text : List ℕ → Option (List ℕ)
label_text text = option_map (λ (front, back). without_indent front) (at_colon text)

-- what stands behind it, or in the line where there is none
abbrev pub statement_text : List ℕ → List ℕ
statement_text text = trimmed (behind_or (at_colon text) (before 59 text))

abbrev pub if_label : List ℕ → Option (List ℕ)
if_label name = if is_label name then Some name else None

-- the name that a line defines
unfoldable pub name_in : List ℕ → Option (List ℕ)
name_in line = if is_utf8 line then option_and_then if_label (label_text line) else None

-- the label of a word before a colon, and Undefined for one that isn't of a label's form
abbrev pub marked : List (List ℕ) → Option (List ℕ) → Option Value
marked names label = option_map (λ text. unwrap_or (label_of names text) Undefined) label

abbrev pub with_label : Option Value → Reading Statement → Reading Line
with_label label (Ok s) = Ok (record { label = label; statement = s })
with_label label (Err fault) = Err fault

-- what a line says, or the first kind of fault that it has by itself: Text, Word or Operand
unfoldable pub line_of : Speller → List (List ℕ) → List ℕ → Reading Line
line_of spell names line =
    if is_utf8 line then with_label (marked names (label_text line)) (statement_of spell names (statement_text line)) else Err kind.Text
