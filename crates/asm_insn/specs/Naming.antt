-- Which instruction a mnemonic and its operands name, and the field that holds its number.
-- Source: Intel SDM volume 2, chapters 3 and 4, the first lines of the instructions' pages.
use Rattle.std.specs.Prelude.{Bool, Option, option_map}
use Rattle.vm_law.specs.declared.insn.Width.{Width}
use Rattle.vm_law.specs.declared.insn.Width.TheVariants as width
use Rattle.vm_law.specs.declared.insn.Loc.{Loc}
use Rattle.vm_law.specs.declared.insn.Loc.TheVariants as loc
use Rattle.vm_law.specs.declared.insn.Op.{Op}
use Rattle.vm_law.specs.declared.insn.Op.TheVariants as op
use Rattle.vm_law.specs.declared.insn.Insn.{Insn}
use Rattle.asm_insn.specs.declared.argument.Arguments.{Arguments}
use Rattle.asm_insn.specs.declared.argument.Arguments.TheVariants as arguments
use Rattle.asm_words.specs.declared.mnemonic.Mnemonic.{Mnemonic}
use Rattle.asm_words.specs.declared.number.Field.{Field}
use Rattle.asm_words.specs.declared.number.Field.TheVariants.{Whole, Extended}
use Rattle.asm_insn.specs.OperandKind.{Named}
use Rattle.asm_insn.specs.OneOperand.{none_of, one_of}
use Rattle.asm_insn.specs.TwoOperands.{two_of, three_of}

abbrev pub op_of : Mnemonic → Arguments → Named
op_of m arguments.None = none_of m
op_of m (arguments.One a) = one_of m a
op_of m (arguments.Two a b) = two_of m a b
op_of m (arguments.Three a b c) = three_of m a b c

-- the instruction that a mnemonic and its operands name, with LOCK or without it; it may have no spelling
abbrev pub named_of : Bool → Mnemonic → Arguments → Option Insn
named_of lock m given = option_map (λ p. record { lock = lock; width = p.0; op = p.1 }) (op_of m given)

-- at 64 bits, 32 with their sign
abbrev pub immediate_field : Width → Field
immediate_field width.B = Whole width.B
immediate_field width.W = Whole width.W
immediate_field width.D = Whole width.D
immediate_field width.Q = Extended width.D

-- MOV into a register has a number as wide as the register
abbrev pub moved_field : Width → Loc → Field
moved_field w (loc.Mem m) = immediate_field w
moved_field w _ = Whole w

-- the widest that a spelling of the operation has at the width
abbrev pub field_at : Width → Op → Field
field_at w (op.Mov l s) = moved_field w l
field_at w (op.Shift k l n) = Whole width.B
field_at w (op.In p) = Whole width.B
field_at w (op.Out p) = Whole width.B
field_at w (op.Int n) = Whole width.B
field_at w (op.Ret n) = Whole width.W
field_at w (op.Bit k l s) = Extended width.B
field_at w _ = immediate_field w

abbrev pub field_of : Insn → Field
field_of insn = field_at insn.width insn.op
