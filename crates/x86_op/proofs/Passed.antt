-- What doesn't change behind an instruction: registers, and so the parts of an address.
use Rattle.std.proofs.Common.{◌≡◌, ℕ, ◌+◌, ◌*◌, ◌%◌, ◌^◌, IsTrue, Option, Some, None, refl, w64, if◌then◌else◌}
use Rattle.std.specs.Int.{cast_unsigned}
use Rattle.std.proofs.lemmas.Bool.{false≢true}
use Rattle.vm_law.specs.declared.context.Ctx.{Ctx}
use Rattle.vm_law.specs.declared.insn.Mem.{Mem}
use Rattle.vm_law.specs.declared.insn.Insn.{Insn}
use Rattle.x86_op.specs.declared.touch.Touch.{Touch}
use Rattle.x86_op.specs.declared.touch.Touch.TheVariants.{Nothing, Operand, Push, Pop, Frame, System}
use Rattle.x86_op.specs.Operand.{register, passed}
use Rattle.x86_op.specs.Address.{part, address_of}
use Rattle.x86_op.specs.Flow.{top_of}
use Rattle.x86_op.specs.Table.{line_of}
use Rattle.x86_op.specs.Access.{access_to, access_of, is_nothing, is_local}

part_passed : (c : Ctx) (len : ℕ) (o : Option ℕ) → part (passed c len) o ≡ part c o
unfolding part passed register
part_passed c len None = refl
part_passed c len (Some r) = refl

pub address_of_passed : (c : Ctx) (len : ℕ) (a : Mem) → address_of (passed c len) a
    ≡ (part c a.base + part c a.index * a.scale + cast_unsigned w64 a.disp + (if a.rip then (c.rip + len) % 2 ^ 64 else 0)) % 2 ^ 64
unfolding address_of passed
address_of_passed c len a = rw (part_passed c len a.base, part_passed c len a.index) refl

pub top_of_passed : (c : Ctx) (len : ℕ) → top_of (passed c len) ≡ top_of c
unfolding top_of passed register
top_of_passed c len = refl

pub register_passed : (c : Ctx) (len r : ℕ) → register (passed c len) r ≡ register c r
unfolding passed register
register_passed c len r = refl

pub ruleset as_before = (top_of_passed, register_passed)

nothing_has_none : (c : Ctx) (t : Touch) → IsTrue (is_nothing t) → access_to c t ≡ None
unfolding access_to is_nothing
nothing_has_none c Nothing h = refl
nothing_has_none c (Operand k w a) h = absurd (false≢true h)
nothing_has_none c Push h = absurd (false≢true h)
nothing_has_none c Pop h = absurd (false≢true h)
nothing_has_none c Frame h = absurd (false≢true h)
nothing_has_none c System h = absurd (false≢true h)

pub local_has_none : (c : Ctx) (insn : Insn) (len : ℕ) → IsTrue (is_local insn) → access_of c insn len ≡ None
unfolding access_of is_local
local_has_none c insn len h = nothing_has_none (passed c len) (line_of insn).touch h
