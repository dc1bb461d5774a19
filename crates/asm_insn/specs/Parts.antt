-- The mnemonic and the operands that name an instruction.
use Rattle.std.specs.Prelude.{◌==◌, ℕ, ℤ, pos, Option, Some, None, if◌then◌else◌}
use Rattle.vm_law.specs.declared.insn.Width.{Width}
use Rattle.vm_law.specs.declared.insn.Width.TheVariants as width
use Rattle.vm_law.specs.declared.insn.Mem.{Mem}
use Rattle.vm_law.specs.declared.insn.Loc.{Loc}
use Rattle.vm_law.specs.declared.insn.Loc.TheVariants as loc
use Rattle.vm_law.specs.declared.insn.Src.{Src}
use Rattle.vm_law.specs.declared.insn.Src.TheVariants as src
use Rattle.vm_law.specs.declared.insn.Count.{Count}
use Rattle.vm_law.specs.declared.insn.Count.TheVariants as count
use Rattle.vm_law.specs.declared.insn.UnaryOp.{UnaryOp}
use Rattle.vm_law.specs.declared.insn.UnaryOp.TheVariants as unary
use Rattle.vm_law.specs.declared.insn.Op.{Op}
use Rattle.vm_law.specs.declared.insn.Op.TheVariants as op
use Rattle.vm_law.specs.declared.insn.Insn.{Insn}
use Rattle.asm_words.specs.declared.label.Value.TheVariants as value
use Rattle.asm_words.specs.declared.memory.Memory.{Memory}
use Rattle.asm_words.specs.declared.mnemonic.Form.{Form}
use Rattle.asm_words.specs.declared.mnemonic.Form.TheVariants as form
use Rattle.asm_words.specs.declared.mnemonic.Mnemonic.{Mnemonic}
use Rattle.asm_words.specs.declared.mnemonic.Mnemonic.TheVariants as mnemonic
use Rattle.asm_words.specs.declared.operand.Operand.{Operand}
use Rattle.asm_words.specs.declared.operand.Operand.TheVariants as operand
use Rattle.asm_words.specs.declared.operand.Operands.{Operands}
use Rattle.asm_words.specs.declared.operand.Operands.TheVariants.{One, Two, Three}
use Rattle.asm_words.specs.declared.operand.Operands.TheVariants as operands
use Rattle.asm_insn.specs.declared.instruction.Instruction.{Instruction}

-- ---- operands

abbrev pub memory_in : Mem → Memory
memory_in m = record { rip = m.rip; base = m.base; index = m.index; scale = pos m.scale; displacement = value.Number m.disp }

abbrev pub operand_at : Width → Loc → Operand
operand_at w (loc.Reg r) = operand.Register w (loc.Reg r)
operand_at w (loc.High r) = operand.Register w (loc.High r)
operand_at w (loc.Mem m) = operand.Memory (Some w) (memory_in m)

abbrev pub register_at : Width → ℕ → Operand
register_at w r = operand.Register w (loc.Reg r)

-- a place in memory without a width
abbrev pub address_at : Mem → Operand
address_at m = operand.Memory None (memory_in m)

abbrev pub number_at : ℤ → Operand
number_at n = operand.Value (value.Number n)

abbrev pub source_at : Width → Src → Operand
source_at w (src.Loc l) = operand_at w l
source_at w (src.Imm n) = number_at n

abbrev pub count_at : Count → Operand
count_at (count.Imm n) = number_at (pos n)
count_at count.Cl = register_at width.B 1

abbrev pub port_at : Option ℕ → Operand
port_at (Some n) = number_at (pos n)
port_at None = register_at width.W 2

abbrev pub distance_at : ℤ → Operands
distance_at d = One (operand.Distance d)

abbrev pub one : Width → Loc → Operands
one w l = One (operand_at w l)

abbrev pub two : Width → Loc → Src → Operands
two w l s = Two (operand_at w l) (source_at w s)

abbrev pub pair : Width → Loc → Loc → Operands
pair w a b = Two (operand_at w a) (operand_at w b)

abbrev pub into : Width → ℕ → Width → Loc → Operands
into w r from l = Two (register_at w r) (operand_at from l)

-- ---- the operation

-- MOVSXD is from 32 bits
abbrev pub sign_extended : Width → Form
sign_extended width.D = form.MovSxd
sign_extended _ = form.MovSx

abbrev pub unary_of : UnaryOp → Mnemonic
unary_of unary.Imul = mnemonic.Form form.Imul
unary_of k = mnemonic.Unary k

abbrev pub return_of : ℕ → Mnemonic × Operands
return_of n = if n == 0 then (mnemonic.Form form.Ret, operands.None) else (mnemonic.Form form.Ret, One (number_at (pos n)))

abbrev pub interrupt_of : Width → ℕ → Mnemonic × Operands
interrupt_of w n = if n == 3 then (mnemonic.Alone w (op.Int 3), operands.None) else (mnemonic.Form form.Int, One (number_at (pos n)))

-- what moves control, or pushes or pops; and operations without operands
unfoldable pub control_of : Width → Op → Mnemonic × Operands
control_of w (op.Jcc c d) = (mnemonic.Jcc c, distance_at d)
control_of w (op.Jmp d) = (mnemonic.Form form.Jmp, distance_at d)
control_of w (op.Call d) = (mnemonic.Form form.Call, distance_at d)
control_of w (op.JmpTo l) = (mnemonic.Form form.Jmp, one w l)
control_of w (op.CallReg r) = (mnemonic.Form form.Call, One (register_at w r))
control_of w (op.Ret n) = return_of n
control_of w (op.Push s) = (mnemonic.Form form.Push, One (source_at w s))
control_of w (op.Pop r) = (mnemonic.Form form.Pop, One (register_at w r))
control_of w (op.Int n) = interrupt_of w n
control_of w (op.Lidt m) = (mnemonic.Form form.Lidt, One (address_at m))
control_of w (op.Nop None) = (mnemonic.Form form.Nop, operands.None)
control_of w (op.Nop (Some l)) = (mnemonic.Form form.Nop, one w l)
control_of w o = (mnemonic.Alone w o, operands.None)

-- what goes into a register, or through a port
unfoldable pub moving_of : Width → Op → Mnemonic × Operands
moving_of w (op.Imul2 r l) = (mnemonic.Form form.Imul, into w r w l)
moving_of w (op.Imul3 r l n) = (mnemonic.Form form.Imul, Three (register_at w r) (operand_at w l) (number_at n))
moving_of w (op.MovZx r from l) = (mnemonic.Form form.MovZx, into w r from l)
moving_of w (op.MovSx r from l) = (mnemonic.Form (sign_extended from), into w r from l)
moving_of w (op.Lea r m) = (mnemonic.Form form.Lea, Two (register_at w r) (address_at m))
moving_of w (op.Bsf r l) = (mnemonic.Form form.Bsf, into w r w l)
moving_of w (op.Bsr r l) = (mnemonic.Form form.Bsr, into w r w l)
moving_of w (op.Bswap r) = (mnemonic.Form form.Bswap, One (register_at w r))
moving_of w (op.SetCc c l) = (mnemonic.SetCc c, one w l)
moving_of w (op.CMov c r l) = (mnemonic.CMov c, into w r w l)
moving_of w (op.In p) = (mnemonic.Form form.In, Two (register_at w 0) (port_at p))
moving_of w (op.Out p) = (mnemonic.Form form.Out, Two (port_at p) (register_at w 0))
moving_of w o = control_of w o

-- the mnemonic and the operands of an operation of the width
unfoldable pub parts_of : Width → Op → Mnemonic × Operands
parts_of w (op.Alu k l s) = (mnemonic.Arithmetic k, two w l s)
parts_of w (op.Test l s) = (mnemonic.Form form.Test, two w l s)
parts_of w (op.Unary k l) = (unary_of k, one w l)
parts_of w (op.Inc l) = (mnemonic.Form form.Inc, one w l)
parts_of w (op.Dec l) = (mnemonic.Form form.Dec, one w l)
parts_of w (op.Mov l s) = (mnemonic.Form form.Mov, two w l s)
parts_of w (op.Xchg a b) = (mnemonic.Form form.Xchg, pair w a b)
parts_of w (op.CmpXchg a b) = (mnemonic.Form form.CmpXchg, pair w a b)
parts_of w (op.Xadd a b) = (mnemonic.Form form.Xadd, pair w a b)
parts_of w (op.Shift k l n) = (mnemonic.Shift k, Two (operand_at w l) (count_at n))
parts_of w (op.Bit k l s) = (mnemonic.BitTest k, two w l s)
parts_of w o = moving_of w o

-- the mnemonic and the operands that name an instruction
abbrev pub taken_apart : Insn → Instruction
taken_apart insn = record { lock = insn.lock; mnemonic = (parts_of insn.width insn.op).0; operands = (parts_of insn.width insn.op).1 }
