-- Addresses of operands in memory. c is the context behind the instruction, so its RIP is that of the next one.
-- Source: Intel SDM volume 1, section 3.7.5, and volume 2, section 2.2.1.6.
use Rattle.std.specs.Prelude.{ℕ, ◌+◌, ◌*◌, ◌%◌, ◌^◌, Option, Some, None, if◌then◌else◌}
use Rattle.std.specs.Int.{w64, cast_unsigned}
use Rattle.vm_law.specs.declared.context.Ctx.{Ctx}
use Rattle.vm_law.specs.declared.insn.Mem.{Mem}
use Rattle.x86_op.specs.Operand.{register}

-- a register that may be left out
unfoldable pub part : Ctx → Option ℕ → ℕ
part c None = 0
part c (Some r) = register c r

-- base + index * scale + displacement, and RIP where the displacement counts from it, modulo 2 to the 64
unfoldable pub address_of : Ctx → Mem → ℕ
address_of c a = (part c a.base + part c a.index * a.scale + cast_unsigned w64 a.disp + (if a.rip then c.rip else 0)) % 2 ^ 64
