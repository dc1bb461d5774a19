-- Which memory an instruction accesses, and whether it is local, by its line of the table.
-- Source: Intel SDM volume 2, the pages of the instructions.
use Rattle.std.specs.Prelude.{◌≡◌, ◌⊎◌, ℕ, ◌/◌, Bool, true, false, Option, Some, None}
use Rattle.vm_law.specs.declared.context.Ctx.{Ctx}
use Rattle.vm_law.specs.declared.insn.Insn.{Insn}
use Rattle.x86_alu.specs.Operand.{size_of}
use Rattle.x86_op.specs.Operand.{RSP, RBP, register, passed}
use Rattle.x86_op.specs.Address.{address_of}
use Rattle.x86_op.specs.Flow.{top_of}
use Rattle.x86_op.specs.Table.{line_of}
use Rattle.x86_op.specs.declared.access.Way.TheVariants as way
use Rattle.x86_op.specs.declared.access.Access.{Access}
use Rattle.x86_op.specs.declared.touch.Touch.{Touch}
use Rattle.x86_op.specs.declared.touch.Touch.TheVariants.{Nothing, Operand, Push, Pop, Frame, System}

-- the access to what is touched, from the context behind the instruction. That of IRETQ and LIDT, which pop five numbers
-- and read ten bytes, is left to whoever runs them
unfoldable pub access_to : Ctx → Touch → Option Access
access_to c Nothing = None
access_to c (Operand k w a) = Some (record { way = k; at = address_of c a; len = size_of w / 8 })
access_to c Push = Some (record { way = way.Store; at = top_of c; len = 8 })
access_to c Pop = Some (record { way = way.Load; at = register c RSP; len = 8 })
access_to c Frame = Some (record { way = way.Load; at = register c RBP; len = 8 })
access_to c System = None

-- the instruction's access, where it makes one; c is the context before it
unfoldable pub access_of : Ctx → Insn → ℕ → Option Access
access_of c insn len = access_to (passed c len) (line_of insn).touch

-- how many bytes an access has
abbrev pub IsLength : ℕ → Type 0
IsLength n = (n ≡ 1) ⊎ (n ≡ 2) ⊎ (n ≡ 4) ⊎ (n ≡ 8)

unfoldable pub is_nothing : Touch → Bool
is_nothing Nothing = true
is_nothing (Operand k w a) = false
is_nothing Push = false
is_nothing Pop = false
is_nothing Frame = false
is_nothing System = false

-- the instruction touches its vCPU's own registers and flags alone
unfoldable pub is_local : Insn → Bool
is_local insn = is_nothing (line_of insn).touch
