-- Which fields hold a label, and whether labels are defined and numbers fit their fields.
use Rattle.std.specs.Prelude.{◌&&◌, ◌||◌, Bool, true, false}
use Rattle.vm_law.specs.declared.insn.Width.TheVariants as width
use Rattle.x86_encode.specs.declared.labels.Labels.{Labels}
use Rattle.asm_words.specs.declared.label.Value.{Value}
use Rattle.asm_words.specs.declared.label.Value.TheVariants as value
use Rattle.asm_words.specs.declared.number.Field.{Field}
use Rattle.asm_words.specs.declared.number.Field.TheVariants.{Extended}
use Rattle.asm_words.specs.declared.operand.Operand.{Operand}
use Rattle.asm_words.specs.declared.operand.Operand.TheVariants as operand
use Rattle.asm_words.specs.declared.operand.Operands.{Operands}
use Rattle.asm_words.specs.declared.operand.Operands.TheVariants as operands
use Rattle.asm_insn.specs.Argument.{is_scale}
use Rattle.asm_words.specs.Label.{names_label}
use Rattle.asm_words.specs.Number.{holds}

abbrev pub any_operand : (Operand → Bool) → Operands → Bool
any_operand test operands.None = false
any_operand test (operands.One a) = test a
any_operand test (operands.Two a b) = test a || test b
any_operand test (operands.Three a b c) = test a || (test b || test c)

abbrev pub each_operand : (Operand → Bool) → Operands → Bool
each_operand test operands.None = true
each_operand test (operands.One a) = test a
each_operand test (operands.Two a b) = test a && test b
each_operand test (operands.Three a b c) = test a && (test b && test c)

abbrev pub has_displacement_label : Operand → Bool
has_displacement_label (operand.Memory w m) = names_label m.displacement
has_displacement_label _ = false

abbrev pub is_label_operand : Operand → Bool
is_label_operand (operand.Value v) = names_label v
is_label_operand _ = false

-- which fields hold a label
abbrev pub labels_of : Operands → Labels
labels_of os = record { displacement = any_operand has_displacement_label os; immediate = any_operand is_label_operand os }

abbrev pub is_defined_value : Value → Bool
is_defined_value value.Undefined = false
is_defined_value _ = true

abbrev pub is_defined_operand : Operand → Bool
is_defined_operand (operand.Memory w m) = is_defined_value m.displacement
is_defined_operand (operand.Value v) = is_defined_value v
is_defined_operand _ = true

abbrev pub are_defined : Operands → Bool
are_defined os = each_operand is_defined_operand os

-- a label, or a number that the field holds
abbrev pub value_fits : Field → Value → Bool
value_fits field (value.Number n) = holds field n
value_fits field _ = true

-- the numbers of an operand fit, an immediate into the field: a displacement and a distance are extended from 32 bits
abbrev pub operand_fits : Field → Operand → Bool
operand_fits field (operand.Register w r) = true
operand_fits field (operand.Memory w m) = is_scale m.scale && value_fits (Extended width.D) m.displacement
operand_fits field (operand.Value v) = value_fits field v
operand_fits field (operand.Distance n) = holds (Extended width.D) n

abbrev pub all_fit : Field → Operands → Bool
all_fit field os = each_operand (operand_fits field) os
