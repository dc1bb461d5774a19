-- The numbers that stand for the values of operands, once each label has its place.
use Rattle.std.specs.Prelude.{ℕ, ℤ, pos, ◌-ℤ◌, Bool, true, false, List, Option, None, unwrap_or, slice_get, if◌then◌else◌}
use Rattle.asm_insn.specs.declared.argument.Argument.{Argument}
use Rattle.asm_insn.specs.declared.argument.Arguments.{Arguments}
use Rattle.asm_insn.specs.declared.argument.Arguments.TheVariants as arguments
use Rattle.asm_words.specs.declared.label.Value.{Value}
use Rattle.asm_words.specs.declared.label.Value.TheVariants as value
use Rattle.asm_words.specs.declared.mnemonic.Form.TheVariants as form
use Rattle.asm_words.specs.declared.mnemonic.Mnemonic.{Mnemonic}
use Rattle.asm_words.specs.declared.mnemonic.Mnemonic.TheVariants as mnemonic
use Rattle.asm_words.specs.declared.operand.Operand.{Operand}
use Rattle.asm_words.specs.declared.operand.Operand.TheVariants as operand
use Rattle.asm_words.specs.declared.operand.Operands.{Operands}
use Rattle.asm_words.specs.declared.operand.Operands.TheVariants as operands
use Rattle.asm_insn.specs.Argument.{argument_of}

-- a jump's label stands for how far it is away
abbrev pub is_jump : Mnemonic → Bool
is_jump (mnemonic.Jcc c) = true
is_jump (mnemonic.Form form.Jmp) = true
is_jump (mnemonic.Form form.Call) = true
is_jump _ = false

-- the places of the labels, in the order of their names; those that have none yet are at 0
abbrev pub Places : Type 0
Places = List (Option ℕ)

abbrev pub place_at : Places → ℕ → ℕ
place_at places k = unwrap_or (unwrap_or (slice_get places k) None) 0

-- the number of a value: of a label how far its place is from another
abbrev pub resolved : Value → Places → ℕ → ℤ
resolved (value.Number n) places from = n
resolved (value.Label k) places from = pos (place_at places k) -ℤ pos from
resolved value.Undefined places from = pos 0

-- the number of an operand; behind `rip` and in a jump a label counts from the next instruction
abbrev pub operand_number : Operand → Places → ℕ → Bool → ℤ
operand_number (operand.Register w r) places next jump = pos 0
operand_number (operand.Memory w m) places next jump = resolved m.displacement places (if m.rip then next else 0)
operand_number (operand.Value v) places next jump = resolved v places (if jump then next else 0)
operand_number (operand.Distance n) places next jump = n

abbrev pub argument_with : Operand → Places → ℕ → Bool → Argument
argument_with o places next jump = argument_of o (operand_number o places next jump)

abbrev pub map_operands : (Operand → Argument) → Operands → Arguments
map_operands f operands.None = arguments.None
map_operands f (operands.One a) = arguments.One (f a)
map_operands f (operands.Two a b) = arguments.Two (f a) (f b)
map_operands f (operands.Three a b c) = arguments.Three (f a) (f b) (f c)

-- the operands with their numbers
abbrev pub arguments_with : Operands → Places → ℕ → Bool → Arguments
arguments_with os places next jump = map_operands (λ o. argument_with o places next jump) os

-- the operands with the number 1 for each of theirs
abbrev pub sampled : Operands → Arguments
sampled os = map_operands (λ o. argument_of o (pos 1)) os
