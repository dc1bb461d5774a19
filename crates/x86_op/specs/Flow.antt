-- Jumps, calls, the stack, and instructions on flags alone. c is the context behind the instruction, so its RIP is that of
-- the next one. Source: Intel SDM volume 2, the pages of the instructions, and volume 1, section 3.4.3.
use Rattle.std.specs.Prelude.{ℕ, ◌+◌, ◌-◌, ◌%◌, ◌^◌, ℤ, List, [], ◌∷◌, map, sum, Bool, true, false, not, bit_and, bit_or, if◌then◌else◌}
use Rattle.std.specs.Int.{w64, cast_unsigned}
use Rattle.vm_law.specs.declared.context.Ctx.{Ctx}
use Rattle.vm_law.specs.declared.insn.Width.TheVariants as width
use Rattle.vm_law.specs.declared.insn.Src.{Src}
use Rattle.vm_law.specs.declared.insn.Condition.{Condition}
use Rattle.x86_alu.specs.Flags.{CF, PF, AF, ZF, SF, IF, DF, OF, is_set, with_bit}
use Rattle.x86_op.specs.Operand.{RSP, RBP, register, with_register, source_at}
use Rattle.x86_op.specs.Condition.{holds}
use Rattle.x86_op.specs.Done.{Done, flagged}

unfoldable pub jumped_to : Ctx → ℕ → Ctx
jumped_to c rip = record c { rip = rip }

-- by a displacement from the next instruction on
unfoldable pub jumped : Ctx → ℤ → Ctx
jumped c by = jumped_to c ((c.rip + cast_unsigned w64 by) % 2 ^ 64)

unfoldable pub jcc_done : Ctx → Condition → ℤ → Ctx
jcc_done c cc by = if holds c.rflags cc then jumped c by else c

-- RSP moved, modulo 2 to the 64
unfoldable pub moved_stack : Ctx → ℕ → Ctx
moved_stack c by = with_register c RSP ((register c RSP + by) % 2 ^ 64)

-- 8 bytes down, modulo 2 to the 64
abbrev pub down : ℕ
down = 2 ^ 64 - 8

-- where the next push goes to
unfoldable pub top_of : Ctx → ℕ
top_of c = (register c RSP + down) % 2 ^ 64

-- the old value of RSP is pushed where it is the source
unfoldable pub push_done : Ctx → ℕ → Src → Done
push_done c read s = record { ctx = moved_stack c down; stored = source_at c width.Q read s }

-- RSP takes the popped value where it is the destination
unfoldable pub pop_done : Ctx → ℕ → ℕ → Ctx
pop_done c read r = with_register (moved_stack c 8) r read

unfoldable pub call_done : Ctx → ℤ → Done
call_done c by = record { ctx = jumped (moved_stack c down) by; stored = c.rip }

-- the target is read before RSP moves
unfoldable pub call_register_done : Ctx → ℕ → Done
call_register_done c r = record { ctx = jumped_to (moved_stack c down) (register c r); stored = c.rip }

-- n bytes are dropped besides
unfoldable pub ret_done : Ctx → ℕ → ℕ → Ctx
ret_done c read n = jumped_to (moved_stack c (8 + n)) read

-- LEAVE: RSP becomes RBP, from where RBP is popped
unfoldable pub leave_done : Ctx → ℕ → Ctx
leave_done c read = with_register (with_register c RSP ((register c RBP + 8) % 2 ^ 64)) RBP read

-- the flags that a program may write
abbrev pub writable_flags : List ℕ
writable_flags = CF ∷ PF ∷ AF ∷ ZF ∷ SF ∷ IF ∷ DF ∷ OF ∷ []

-- these as in value; bit 1 is always 1, and all others are 0
unfoldable pub masked_flags : ℕ → ℕ
masked_flags value = bit_or (bit_and value (sum (map (λ flag. 2 ^ flag) writable_flags))) (2 ^ 1)

unfoldable pub pushf_done : Ctx → Done
pushf_done c = record { ctx = moved_stack c down; stored = c.rflags }

unfoldable pub popf_done : Ctx → ℕ → Ctx
popf_done c read = flagged (moved_stack c 8) (masked_flags read)

-- CLC, STC, CMC, CLD, STD
unfoldable pub carry_done : Ctx → Bool → Ctx
carry_done c on = flagged c (with_bit c.rflags CF on)

unfoldable pub direction_done : Ctx → Bool → Ctx
direction_done c on = flagged c (with_bit c.rflags DF on)

-- STI holds interrupts off until the next instruction is done, where they weren't enabled before
unfoldable pub sti_done : Ctx → Ctx
sti_done c = record c { rflags = with_bit c.rflags IF true; shadow = not (is_set c.rflags IF) }

unfoldable pub cli_done : Ctx → Ctx
cli_done c = flagged c (with_bit c.rflags IF false)
