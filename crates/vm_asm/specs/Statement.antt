-- Statements: directives and instructions.
use Rattle.std.specs.Prelude.{◌≡◌, ◌==◌, ℕ, Bool, true, false, List, length, Option, Some, None, Result, Ok, Err, ⊤, codes, if◌then◌else◌}
use Rattle.std.specs.Str.{bytes_eq}
use Rattle.vm_asm.specs.declared.fault.AsmKind.{AsmKind}
use Rattle.vm_asm.specs.declared.fault.AsmKind.TheVariants as kind
use Rattle.vm_asm.specs.declared.fault.Refusal.{Refusal}
use Rattle.vm_asm.specs.declared.fault.Refusal.TheVariants.{Kind, Memory}
use Rattle.asm_words.specs.declared.number.Field.TheVariants.{Whole}
use Rattle.asm_insn.specs.declared.instruction.Instruction.{Instruction}
use Rattle.vm_asm.specs.declared.statement.Statement.{Statement}
use Rattle.vm_asm.specs.declared.statement.Statement.TheVariants as statement
use Rattle.vm_asm.specs.declared.directive.Directive.{Directive}
use Rattle.asm_words.specs.Blank.{word_in, behind_word}
use Rattle.asm_words.specs.Mnemonic.{mnemonic_of}
use Rattle.asm_words.specs.Operand.{operands_of}
use Rattle.asm_insn.specs.Spelling.{Speller}
use Rattle.vm_asm.specs.Directive.{directive_of, directed}
use Rattle.asm_insn.specs.Fitting.{is_defined_value, are_defined, value_fits}
use Rattle.asm_insn.specs.Instruction.{numbers_fit, has_operands}

-- each label that it uses is defined
abbrev pub is_defined : Statement → Bool
is_defined (statement.Entry v) = is_defined_value v
is_defined (statement.Number w v) = is_defined_value v
is_defined (statement.Instruction i) = are_defined i.operands
is_defined _ = true

-- each of its numbers is one that a field in its place can hold
abbrev pub fits : Speller → Statement → Bool
fits spell (statement.Number w v) = value_fits (Whole w) v
fits spell (statement.Instruction i) = numbers_fit spell i
fits spell _ = true

abbrev pub Reading : Type 0 → Type 0
Reading A = Result A AsmKind

-- the kind of fault where there is no value
abbrev pub need : {A B : Type 0} → AsmKind → Option A → (A → Reading B) → Reading B
need fault None next = Err fault
need fault (Some x) next = next x

abbrev pub taken : Speller → Instruction → Reading Statement
taken spell i = if has_operands spell i then Ok (statement.Instruction i) else Err kind.Operand

-- an instruction, with LOCK or without it
unfoldable pub instruction_of : Speller → List (List ℕ) → Bool → List ℕ → List ℕ → Reading Statement
instruction_of spell names lock word rest =
    need kind.Word (mnemonic_of word) (λ m. need kind.Operand (operands_of names rest) (λ os.
    taken spell (record { lock = lock; mnemonic = m; operands = os })))

unfoldable pub directive_with : List (List ℕ) → Directive → List ℕ → Reading Statement
directive_with names d rest = need kind.Operand (operands_of names rest) (λ os. need kind.Operand (directed d os) (λ s. Ok s))

abbrev pub worded : Speller → List (List ℕ) → List ℕ → List ℕ → Option Directive → Reading Statement
worded spell names word rest (Some d) = directive_with names d rest
worded spell names word rest None =
    if bytes_eq word (codes "lock") then instruction_of spell names true (word_in rest) (behind_word rest)
    else instruction_of spell names false word rest

-- the statement of a text without blanks at its ends, where the labels have these names
unfoldable pub statement_of : Speller → List (List ℕ) → List ℕ → Reading Statement
statement_of spell names text =
    if length text == 0 then Ok statement.Nothing
    else worded spell names (word_in text) (behind_word text) (directive_of (word_in text))

-- the refusal is that kind of fault; Memory says nothing
abbrev pub Refuses : {X : Type 0} → Refusal → Reading X → Type 0
Refuses (Kind fault) read = read ≡ Err fault
Refuses Memory read = ⊤

abbrev pub Answers : {X : Type 0} → Result X Refusal → Reading X → Type 0
Answers (Ok x) read = read ≡ Ok x
Answers (Err e) read = Refuses e read
