-- Operands with the numbers that stand for their values.
use Rattle.std.specs.Prelude.{◌||◌, ℕ, ℤ, pos, Bool, Some, None, if◌then◌else◌, unsigned_abs}
use Rattle.std.specs.Ordering.{int_eq}
use Rattle.vm_law.specs.declared.insn.Width.TheVariants as width
use Rattle.vm_law.specs.declared.insn.Loc.TheVariants as loc
use Rattle.vm_law.specs.declared.insn.Mem.{Mem}
use Rattle.asm_words.specs.declared.label.Value.TheVariants as value
use Rattle.asm_words.specs.declared.memory.Memory.{Memory}
use Rattle.asm_words.specs.declared.operand.Operand.{Operand}
use Rattle.asm_words.specs.declared.operand.Operand.TheVariants as operand
use Rattle.asm_insn.specs.declared.argument.Argument.{Argument}
use Rattle.asm_insn.specs.declared.argument.Argument.TheVariants.{Place, Address, Number, Label, Distance}
use Rattle.asm_words.specs.Number.{signed32_in}

-- the factors that an index may have
abbrev pub is_scale : ℤ → Bool
is_scale n = int_eq n (pos 1) || (int_eq n (pos 2) || (int_eq n (pos 4) || int_eq n (pos 8)))

-- such a factor, and 1 for another number
abbrev pub scale_in : ℤ → ℕ
scale_in n = if is_scale n then unsigned_abs n else 1

-- the place in memory with this displacement
unfoldable pub mem_of : Memory → ℤ → Mem
mem_of m displacement = record { base = m.base; index = m.index; scale = scale_in m.scale; disp = signed32_in width.D displacement; rip = m.rip }

-- the operand with this number for its value, where it has one
abbrev pub argument_of : Operand → ℤ → Argument
argument_of (operand.Register w r) n = Place w r
argument_of (operand.Memory (Some w) m) n = Place w (loc.Mem (mem_of m n))
argument_of (operand.Memory None m) n = Address (mem_of m n)
argument_of (operand.Value (value.Number k)) n = Number n
argument_of (operand.Value (value.Label k)) n = Label n
argument_of (operand.Value value.Undefined) n = Label n
argument_of (operand.Distance k) n = Distance n
