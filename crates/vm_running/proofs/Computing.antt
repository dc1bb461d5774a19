-- Whatever an instruction computes, RFLAGS has only the bits that are built after it, where it had only those before.
use Rattle.std.specs.Prelude.{◌==◌, if◌then◌else◌}
use Rattle.std.proofs.Common.{ℕ, Bool, true, false, not}
use Rattle.vm_law.specs.declared.context.Ctx.{Ctx}
use Rattle.vm_law.specs.declared.insn.Insn.{Insn}
use Rattle.vm_law.specs.declared.insn.Width.{Width}
use Rattle.vm_law.specs.declared.insn.Width.TheVariants as width
use Rattle.vm_law.specs.declared.insn.Loc.{Loc}
use Rattle.vm_law.specs.declared.insn.Loc.TheVariants as loc
use Rattle.vm_law.specs.declared.insn.Src.{Src}
use Rattle.vm_law.specs.declared.insn.Count.{Count}
use Rattle.vm_law.specs.declared.insn.ArithmeticOp.{ArithmeticOp}
use Rattle.vm_law.specs.declared.insn.UnaryOp.{UnaryOp}
use Rattle.vm_law.specs.declared.insn.UnaryOp.TheVariants as unary
use Rattle.vm_law.specs.declared.insn.ShiftOp.{ShiftOp}
use Rattle.vm_law.specs.declared.insn.BitTestOp.{BitTestOp}
use Rattle.vm_law.specs.declared.insn.Op.{Op}
use Rattle.vm_law.specs.declared.insn.Op.TheVariants as op
use Rattle.x86_alu.specs.Operand.{span, size_of}
use Rattle.x86_alu.specs.Flags.{carry_of}
use Rattle.x86_alu.specs.Product.{div_faults}
use Rattle.x86_alu.specs.declared.op.AluOp.{AluOp}
use Rattle.x86_alu.specs.declared.op.AluOp.TheVariants as alu
use Rattle.x86_alu.specs.declared.op.BitOp.{BitOp}
use Rattle.x86_alu.specs.declared.op.BitOp.TheVariants as bit
use Rattle.x86_op.specs.Operand.{RAX, value_at, source_at, with_register, with_value, with_pair, upper_half, passed}
use Rattle.x86_op.specs.Condition.{holds}
use Rattle.x86_op.specs.Done.{Done, flagged, only}
use Rattle.x86_op.specs.Arithmetic.{alu_of, drops_result, alu_done, operated, compared, multiplied, multiplied_to, divided, unary_done, imul2_done, imul3_done}
use Rattle.x86_op.specs.Moves.{mov_done, movzx_done, movsx_done, lea_done, xchg_done, cmpxchg_done, xadd_done, bswap_done, is_equal, setcc_done, cmov_done, widen_done, sign_fill_done}
use Rattle.x86_op.specs.Bits.{bit_of, only_tests, is_byte, count_at, shift_done, tested, bit_done, scanned, scan_done}
use Rattle.x86_op.specs.Flow.{jumped, jumped_to, jcc_done, moved_stack, push_done, pop_done, call_done, call_register_done, ret_done, leave_done, pushf_done, popf_done, carry_done, direction_done, sti_done, cli_done}
use Rattle.x86_op.specs.Table.{line, computed}
use Rattle.vm_running.proofs.Flags.{IsBuilt, masked_built, carry_built, interrupt_built, direction_built, alu_built, shift_built, bits_built, mul_built, div_built}

-- RFLAGS has only the bits that are built
abbrev pub HasFlags : Ctx → Type 0
HasFlags c = IsBuilt c.rflags

either : (b : Bool) (x y : Ctx) → HasFlags x → HasFlags y → HasFlags (if b then x else y)
either true x y p q = p
either false x y p q = q

either_done : (b : Bool) (x y : Done) → HasFlags x.ctx → HasFlags y.ctx → HasFlags (if b then x else y).ctx
either_done true x y p q = p
either_done false x y p q = q

-- ---- registers

pub register_fits : (c : Ctx) (r value : ℕ) → HasFlags c → HasFlags (with_register c r value)
unfolding with_register
register_fits c r value h = h

pub value_fits : (c : Ctx) (w : Width) (l : Loc) (value : ℕ) → HasFlags c → HasFlags (with_value c w l value)
unfolding with_value
value_fits c w (loc.Reg r) value h = register_fits c r _ h
value_fits c w (loc.High r) value h = register_fits c r _ h
value_fits c w (loc.Mem a) value h = h

pair_fits : (c : Ctx) (w : Width) (lower upper : ℕ) → HasFlags c → HasFlags (with_pair c w lower upper)
unfolding with_pair
pair_fits c w lower upper h = value_fits _ w (upper_half w) upper (value_fits c w (loc.Reg RAX) lower h)

pub passed_fits : (c : Ctx) (len : ℕ) → HasFlags c → HasFlags (passed c len)
unfolding passed
passed_fits c len h = h

flagged_fits : (c : Ctx) (rflags : ℕ) → IsBuilt rflags → HasFlags (flagged c rflags)
unfolding flagged
flagged_fits c rflags h = h

-- ---- sums, products and quotients

operated_fits : (c : Ctx) (op : AluOp) (w : Width) (l : Loc) (a b : ℕ) → HasFlags c → HasFlags (operated c op w l a b).ctx
unfolding operated
operated_fits c op w l a b h = value_fits _ w l _ (flagged_fits c _ (alu_built op (span w) a b c.rflags h))

compared_fits : (c : Ctx) (op : AluOp) (w : Width) (a b : ℕ) → HasFlags c → HasFlags (compared c op w a b)
unfolding compared
compared_fits c op w a b h = flagged_fits c _ (alu_built op (span w) a b c.rflags h)

alu_fits : (c : Ctx) (w : Width) (read : ℕ) (k : ArithmeticOp) (l : Loc) (s : Src) → HasFlags c → HasFlags (alu_done c w read k l s).ctx
unfolding alu_done
alu_fits c w read k l s h =
    let a = value_at c w read l in
    let b = source_at c w read s in
    either_done (drops_result k) (only (compared c (alu_of k) w a b)) (operated c (alu_of k) w l a b) (compared_fits c (alu_of k) w a b h) (operated_fits c (alu_of k) w l a b h)

multiplied_fits : (c : Ctx) (s : Bool) (w : Width) (b : ℕ) → HasFlags c → HasFlags (multiplied c s w b)
unfolding multiplied
multiplied_fits c s w b h = pair_fits _ w _ _ (flagged_fits c _ (mul_built s (span w) _ b c.rflags h))

multiplied_to_fits : (c : Ctx) (w : Width) (r a b : ℕ) → HasFlags c → HasFlags (multiplied_to c w r a b)
unfolding multiplied_to
multiplied_to_fits c w r a b h = value_fits _ w (loc.Reg r) _ (flagged_fits c _ (mul_built true (span w) a b c.rflags h))

divided_fits : (c : Ctx) (s : Bool) (w : Width) (by : ℕ) → HasFlags c → HasFlags (divided c s w by)
unfolding divided
divided_fits c s w by h =
    either (div_faults s (span w) (value_at c w 0 (upper_half w)) (value_at c w 0 (loc.Reg RAX)) by) c _ h (pair_fits _ w _ _ (flagged_fits c _ (div_built c.rflags h)))

unary_fits : (c : Ctx) (w : Width) (read : ℕ) (k : UnaryOp) (l : Loc) → HasFlags c → HasFlags (unary_done c w read k l).ctx
unfolding unary_done
unary_fits c w read unary.Not l h = operated_fits c alu.Not w l _ 0 h
unary_fits c w read unary.Neg l h = operated_fits c alu.Neg w l _ 0 h
unary_fits c w read unary.Mul l h = multiplied_fits c false w _ h
unary_fits c w read unary.Imul l h = multiplied_fits c true w _ h
unary_fits c w read unary.Div l h = divided_fits c false w _ h
unary_fits c w read unary.Idiv l h = divided_fits c true w _ h

-- ---- bits

shift_fits : (c : Ctx) (w : Width) (read : ℕ) (k : ShiftOp) (l : Loc) (n : Count) → HasFlags c → HasFlags (shift_done c w read k l n).ctx
unfolding shift_done
shift_fits c w read k l n h = value_fits _ w l _ (flagged_fits c _ (shift_built k w (value_at c w read l) (count_at c n) c.rflags h))

tested_fits : (c : Ctx) (w : Width) (k : BitTestOp) (l : Loc) (a b : ℕ) → HasFlags c → HasFlags (tested c w k l a b).ctx
unfolding tested
tested_fits c w k l a b h =
    let after = flagged_fits c _ (bits_built (bit_of k) (size_of w) a b c.rflags h) in
    either_done (only_tests k) _ _ after (value_fits _ w l _ after)

bit_fits : (c : Ctx) (w : Width) (read : ℕ) (k : BitTestOp) (l : Loc) (s : Src) → HasFlags c → HasFlags (bit_done c w read k l s).ctx
unfolding bit_done
bit_fits c w read k l s h = either_done (is_byte w) (only c) _ h (tested_fits c w k l _ _ h)

scanned_fits : (c : Ctx) (op : BitOp) (w : Width) (r b : ℕ) → HasFlags c → HasFlags (scanned c op w r b)
unfolding scanned
scanned_fits c op w r b h =
    let after = flagged_fits c _ (bits_built op (size_of w) 0 b c.rflags h) in
    either (b == 0) _ _ after (value_fits _ w (loc.Reg r) _ after)

scan_fits : (c : Ctx) (op : BitOp) (w : Width) (read r : ℕ) (l : Loc) → HasFlags c → HasFlags (scan_done c op w read r l)
unfolding scan_done
scan_fits c op w read r l h = either (is_byte w) c _ h (scanned_fits c op w r _ h)

-- ---- moves

cmpxchg_fits : (c : Ctx) (w : Width) (read : ℕ) (a b : Loc) → HasFlags c → HasFlags (cmpxchg_done c w read a b).ctx
unfolding cmpxchg_done
cmpxchg_fits c w read a b h =
    let after = compared_fits c alu.Cmp w (value_at c w read (loc.Reg RAX)) (value_at c w read a) h in
    either_done (is_equal c w read a) _ _ (value_fits _ w a _ after) (value_fits _ w (loc.Reg RAX) _ after)

-- ---- jumps, and the stack

jumped_fits : (c : Ctx) (rip : ℕ) → HasFlags c → HasFlags (jumped_to c rip)
unfolding jumped_to
jumped_fits c rip h = h

stack_fits : (c : Ctx) (by : ℕ) → HasFlags c → HasFlags (moved_stack c by)
unfolding moved_stack
stack_fits c by h = register_fits c _ _ h

-- ---- the table

line_fits : (c : Ctx) (read : ℕ) (w : Width) (o : Op) → HasFlags c → HasFlags ((line w o).done c read).ctx
unfolding line mov_done movzx_done movsx_done lea_done xchg_done xadd_done bswap_done setcc_done cmov_done widen_done sign_fill_done imul2_done imul3_done jcc_done jumped push_done pop_done call_done call_register_done ret_done leave_done pushf_done popf_done carry_done direction_done sti_done cli_done
line_fits c read w (op.Alu k l s) h = alu_fits c w read k l s h
line_fits c read w (op.Test l s) h = compared_fits c alu.Test w _ _ h
line_fits c read w (op.Unary k l) h = unary_fits c w read k l h
line_fits c read w (op.Inc l) h = operated_fits c alu.Inc w l _ 0 h
line_fits c read w (op.Dec l) h = operated_fits c alu.Dec w l _ 0 h
line_fits c read w (op.Imul2 r l) h = multiplied_to_fits c w r _ _ h
line_fits c read w (op.Imul3 r l value) h = multiplied_to_fits c w r _ _ h
line_fits c read w (op.Mov l s) h = value_fits c w l _ h
line_fits c read w (op.MovZx r from l) h = value_fits c w (loc.Reg r) _ h
line_fits c read w (op.MovSx r from l) h = value_fits c w (loc.Reg r) _ h
line_fits c read w (op.Lea r a) h = value_fits c w (loc.Reg r) _ h
line_fits c read w (op.Xchg a b) h = value_fits _ w b _ (value_fits c w a _ h)
line_fits c read w (op.CmpXchg a b) h = cmpxchg_fits c w read a b h
line_fits c read w (op.Xadd a b) h = operated_fits _ alu.Add w a _ _ (value_fits c w b _ h)
line_fits c read w (op.Shift k l n) h = shift_fits c w read k l n h
line_fits c read w (op.Bit k l s) h = bit_fits c w read k l s h
line_fits c read w (op.Bsf r l) h = scan_fits c bit.Bsf w read r l h
line_fits c read w (op.Bsr r l) h = scan_fits c bit.Bsr w read r l h
line_fits c read w (op.Bswap r) h = value_fits c w (loc.Reg r) _ h
line_fits c read w (op.SetCc cc l) h = value_fits c width.B l _ h
line_fits c read w (op.CMov cc r l) h = value_fits c w (loc.Reg r) _ h
line_fits c read w (op.Jcc cc by) h = either (holds c.rflags cc) (jumped c by) c (jumped_fits c _ h) h
line_fits c read w (op.Jmp by) h = jumped_fits c _ h
line_fits c read w (op.Call by) h = jumped_fits _ _ (stack_fits c _ h)
line_fits c read w (op.JmpTo l) h = jumped_fits c _ h
line_fits c read w (op.CallReg r) h = jumped_fits _ _ (stack_fits c _ h)
line_fits c read w (op.Ret n) h = jumped_fits _ _ (stack_fits c _ h)
line_fits c read w (op.Push s) h = stack_fits c _ h
line_fits c read w (op.Pop r) h = register_fits _ r _ (stack_fits c _ h)
line_fits c read w op.Leave h = register_fits _ _ _ (register_fits c _ _ h)
line_fits c read w op.PushF h = stack_fits c _ h
line_fits c read w op.PopF h = flagged_fits _ _ (masked_built read)
line_fits c read w op.Widen h = value_fits c w (loc.Reg RAX) _ h
line_fits c read w op.SignFill h = value_fits c w _ _ h
line_fits c read w op.Clc h = flagged_fits c _ (carry_built c.rflags false h)
line_fits c read w op.Stc h = flagged_fits c _ (carry_built c.rflags true h)
line_fits c read w op.Cmc h = flagged_fits c _ (carry_built c.rflags (not (carry_of c.rflags)) h)
line_fits c read w op.Cld h = flagged_fits c _ (direction_built c.rflags false h)
line_fits c read w op.Std h = flagged_fits c _ (direction_built c.rflags true h)
line_fits c read w op.Sti h = interrupt_built c.rflags true h
line_fits c read w op.Cli h = flagged_fits c _ (interrupt_built c.rflags false h)
line_fits c read w o h = h

pub computed_fits : (c : Ctx) (insn : Insn) (len read : ℕ) → HasFlags c → HasFlags (computed c insn len read).ctx
computed_fits c insn len read h = line_fits (passed c len) read insn.width insn.op (passed_fits c len h)
