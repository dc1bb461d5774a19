-- Directives and their operands.
use Rattle.std.specs.Prelude.{ℕ, List, [], ◌∷◌, Option, Some, None, codes}
use Rattle.std.specs.Str.{bytes_eq}
use Rattle.std.specs.Map.{lookup}
use Rattle.vm_law.specs.declared.insn.Width.TheVariants as width
use Rattle.asm_words.specs.declared.label.Value.{Value}
use Rattle.asm_words.specs.declared.label.Value.TheVariants as value
use Rattle.asm_words.specs.declared.operand.Operand.TheVariants as operand
use Rattle.asm_words.specs.declared.operand.Operands.{Operands}
use Rattle.asm_words.specs.declared.operand.Operands.TheVariants as operands
use Rattle.vm_asm.specs.declared.statement.Statement.{Statement}
use Rattle.vm_asm.specs.declared.statement.Statement.TheVariants as statement
use Rattle.vm_asm.specs.declared.directive.Directive.{Directive}
use Rattle.vm_asm.specs.declared.directive.Directive.TheVariants as directive

abbrev pub directive_words : List (List ℕ × Directive)
directive_words = (codes ".entry", directive.Entry) ∷ (codes ".data", directive.Data) ∷ (codes ".org", directive.Org) ∷ (codes ".byte", directive.Number width.B) ∷ (codes ".word", directive.Number width.W) ∷ (codes ".dword", directive.Number width.D) ∷ (codes ".qword", directive.Number width.Q) ∷ []

abbrev pub directive_of : List ℕ → Option Directive
directive_of word = lookup (bytes_eq word) directive_words

-- `.entry` takes a label, `.org` and the data a number, and `.qword` a label too
abbrev pub with_value : Directive → Value → Option Statement
with_value directive.Org (value.Number n) = Some (statement.Org n)
with_value (directive.Number w) (value.Number n) = Some (statement.Number w (value.Number n))
with_value directive.Entry (value.Label k) = Some (statement.Entry (value.Label k))
with_value directive.Entry value.Undefined = Some (statement.Entry value.Undefined)
with_value (directive.Number width.Q) (value.Label k) = Some (statement.Number width.Q (value.Label k))
with_value (directive.Number width.Q) value.Undefined = Some (statement.Number width.Q value.Undefined)
with_value _ _ = None

-- the statement of a directive with its operands, where it takes them
abbrev pub directed : Directive → Operands → Option Statement
directed directive.Data operands.None = Some statement.Data
directed d (operands.One (operand.Value v)) = with_value d v
directed _ _ = None
