-- What an operation touches besides the registers and flags of its vCPU.
-- Source: Intel SDM volume 2, the pages of the instructions.
use Rattle.std.specs.Prelude.{Bool, true, false, Option, Some, None}
use Rattle.vm_law.specs.declared.insn.Width.{Width}
use Rattle.vm_law.specs.declared.insn.Mem.{Mem}
use Rattle.vm_law.specs.declared.insn.Loc.{Loc}
use Rattle.vm_law.specs.declared.insn.Loc.TheVariants as loc
use Rattle.vm_law.specs.declared.insn.Src.{Src}
use Rattle.vm_law.specs.declared.insn.Src.TheVariants as src
use Rattle.vm_law.specs.declared.insn.UnaryOp.{UnaryOp}
use Rattle.vm_law.specs.declared.insn.UnaryOp.TheVariants as unary
use Rattle.x86_op.specs.declared.access.Way.{Way}
use Rattle.x86_op.specs.declared.access.Way.TheVariants as way
use Rattle.x86_op.specs.declared.touch.Touch.{Touch}
use Rattle.x86_op.specs.declared.touch.Touch.TheVariants as touch

-- an operand, where it is in memory
unfoldable pub in_memory : Way → Loc → Option (Way × Mem)
in_memory k (loc.Mem a) = Some (k, a)
in_memory k (loc.Reg r) = None
in_memory k (loc.High r) = None

unfoldable pub source_in_memory : Src → Option (Way × Mem)
source_in_memory (src.Loc l) = in_memory way.Load l
source_in_memory (src.Imm value) = None

-- the first of two operands that is in memory; no instruction has two
unfoldable pub either : Option (Way × Mem) → Option (Way × Mem) → Option (Way × Mem)
either (Some x) y = Some x
either None y = y

unfoldable pub operand : Width → Option (Way × Mem) → Touch
operand w None = touch.Nothing
operand w (Some x) = touch.Operand x.0 w x.1

-- one operand, which may be in memory
abbrev pub loads : Width → Loc → Touch
loads w l = operand w (in_memory way.Load l)

abbrev pub stores : Width → Loc → Touch
stores w l = operand w (in_memory way.Store l)

abbrev pub modifies : Width → Loc → Touch
modifies w l = operand w (in_memory way.Modify l)

abbrev pub compares : Width → Loc → Touch
compares w l = operand w (in_memory way.Compare l)

-- a destination and a source
abbrev pub with_source : Way → Width → Loc → Src → Touch
with_source k w l s = operand w (either (in_memory k l) (source_in_memory s))

-- CMP and BT only read their destination
unfoldable pub stores_unless : Bool → Way
stores_unless true = way.Load
stores_unless false = way.Modify

-- NOT and NEG store their result where the operand stood, the others in registers
abbrev pub only_reads : UnaryOp → Bool
only_reads unary.Not = false
only_reads unary.Neg = false
only_reads unary.Mul = true
only_reads unary.Imul = true
only_reads unary.Div = true
only_reads unary.Idiv = true
