-- Shifts, rotates, tests and scans of bits. c is the context behind the instruction.
-- Source: Intel SDM volume 2, the pages of the instructions.
use Rattle.std.specs.Prelude.{ℕ, ◌%◌, ◌^◌, ◌==◌, Bool, true, false, if◌then◌else◌}
use Rattle.vm_law.specs.declared.context.Ctx.{Ctx}
use Rattle.vm_law.specs.declared.insn.Width.{Width}
use Rattle.vm_law.specs.declared.insn.Width.TheVariants as width
use Rattle.vm_law.specs.declared.insn.Loc.{Loc}
use Rattle.vm_law.specs.declared.insn.Loc.TheVariants as loc
use Rattle.vm_law.specs.declared.insn.Src.{Src}
use Rattle.vm_law.specs.declared.insn.ShiftOp.{ShiftOp}
use Rattle.vm_law.specs.declared.insn.BitTestOp.{BitTestOp}
use Rattle.vm_law.specs.declared.insn.BitTestOp.TheVariants as test
use Rattle.vm_law.specs.declared.insn.Count.{Count}
use Rattle.vm_law.specs.declared.insn.Count.TheVariants as count
use Rattle.x86_alu.specs.Operand.{size_of}
use Rattle.x86_alu.specs.declared.op.BitOp.{BitOp}
use Rattle.x86_alu.specs.declared.op.BitOp.TheVariants as bit
use Rattle.x86_alu.specs.Shift.{shift_result, shift_flags}
use Rattle.x86_alu.specs.BitTest.{bit_result, bit_flags}
use Rattle.x86_op.specs.Operand.{RCX, register, value_at, source_at, with_value}
use Rattle.x86_op.specs.Done.{Done, flagged, only}

unfoldable pub count_at : Ctx → Count → ℕ
count_at c (count.Imm n) = n
count_at c count.Cl = register c RCX % 2 ^ 8

unfoldable pub shift_done : Ctx → Width → ℕ → ShiftOp → Loc → Count → Done
shift_done c w read k l n =
    let a = value_at c w read l in
    let r = shift_result k w a (count_at c n) in
    record { ctx = with_value (flagged c (shift_flags k w a (count_at c n) c.rflags)) w l r; stored = r }

-- the test with its result and its flags
unfoldable pub bit_of : BitTestOp → BitOp
bit_of test.Bt = bit.Bt
bit_of test.Bts = bit.Bts
bit_of test.Btr = bit.Btr
bit_of test.Btc = bit.Btc

-- BT only reads
abbrev pub only_tests : BitTestOp → Bool
only_tests test.Bt = true
only_tests test.Bts = false
only_tests test.Btr = false
only_tests test.Btc = false

-- no test or scan has a form of 8 bits; at that width the context stays
abbrev pub is_byte : Width → Bool
is_byte width.B = true
is_byte w = false

-- BT leaves its operand; l is the place that held a, and b the index
unfoldable pub tested : Ctx → Width → BitTestOp → Loc → ℕ → ℕ → Done
tested c w k l a b =
    let r = bit_result (bit_of k) (size_of w) a b in
    let after = flagged c (bit_flags (bit_of k) (size_of w) a b c.rflags) in
    if only_tests k then only after else record { ctx = with_value after w l r; stored = r }

unfoldable pub bit_done : Ctx → Width → ℕ → BitTestOp → Loc → Src → Done
bit_done c w read k l s = if is_byte w then only c else tested c w k l (value_at c w read l) (source_at c w read s)

-- a scan of 0 leaves the whole register
unfoldable pub scanned : Ctx → BitOp → Width → ℕ → ℕ → Ctx
scanned c op w r b =
    let after = flagged c (bit_flags op (size_of w) 0 b c.rflags) in
    if b == 0 then after else with_value after w (loc.Reg r) (bit_result op (size_of w) 0 b)

unfoldable pub scan_done : Ctx → BitOp → Width → ℕ → ℕ → Loc → Ctx
scan_done c op w read r l = if is_byte w then c else scanned c op w r (value_at c w read l)
