-- A mnemonic with its operands: the instruction that they name, and how it is spelled.
use Rattle.std.specs.Prelude.{◌&&◌, ℕ, Bool, false, List, [], length, Option, Some, None, option_map, is_some, unwrap_or}
use Rattle.vm_law.specs.declared.insn.Insn.{Insn}
use Rattle.x86_encode.specs.declared.labels.Labels.{Labels}
use Rattle.x86_grammar.specs.Operands.{◌>>=◌}
use Rattle.asm_words.specs.declared.operand.Operands.{Operands}
use Rattle.asm_insn.specs.declared.instruction.Instruction.{Instruction}
use Rattle.asm_insn.specs.Naming.{named_of, field_of}
use Rattle.asm_insn.specs.Spelling.{Speller}
use Rattle.asm_insn.specs.Resolving.{is_jump, Places, arguments_with, sampled}
use Rattle.asm_insn.specs.Fitting.{labels_of, all_fit}

abbrev pub labels_in : Instruction → Labels
labels_in i = labels_of i.operands

-- the instruction with the number 1 for each of its own, where its operands name one
abbrev pub sample_of : Instruction → Option Insn
sample_of i = named_of i.lock i.mnemonic (sampled i.operands)

-- the instruction, where labels have these places and the next instruction stands at `next`
abbrev pub insn_with : Instruction → Places → ℕ → Option Insn
insn_with i places next = named_of i.lock i.mnemonic (arguments_with i.operands places next (is_jump i.mnemonic))

abbrev pub fit_into : Option Insn → Operands → Bool
fit_into None os = false
fit_into (Some insn) os = all_fit (field_of insn) os

-- its bytes, where labels have these places and the next instruction stands at `next`
abbrev pub spelled_with : Speller → Instruction → Places → ℕ → Option (List ℕ)
spelled_with spell i places next = insn_with i places next >>= spell (labels_in i)

-- each number is one that a field in its place can hold, and there is a spelling with them
unfoldable pub numbers_fit : Speller → Instruction → Bool
numbers_fit spell i = fit_into (sample_of i) i.operands && is_some (spelled_with spell i [] 0)

-- how many bytes it takes, by 0 in each field that holds a label, whose bytes are 4 whatever it is
unfoldable pub instruction_size : Speller → Instruction → ℕ
instruction_size spell i = unwrap_or (option_map length (spelled_with spell i [] 0)) 0

-- its mnemonic has such operands: with the number 1 for each of its own it has a spelling
unfoldable pub has_operands : Speller → Instruction → Bool
has_operands spell i = is_some (sample_of i >>= spell (labels_in i))
