-- Each operation by its line: what it touches, what it computes, and whether it faults. c is the context behind the
-- instruction, w its width, and read what was read at its operand in memory or from the stack.
-- Source: Intel SDM volume 2, the pages of the instructions.
use Rattle.std.specs.Prelude.{◌≡◌, ℕ, Bool, true, false, not}
use Rattle.vm_law.specs.declared.context.Ctx.{Ctx}
use Rattle.vm_law.specs.declared.insn.Width.{Width}
use Rattle.vm_law.specs.declared.insn.Width.TheVariants as width
use Rattle.vm_law.specs.declared.insn.Op.{Op}
use Rattle.vm_law.specs.declared.insn.Op.TheVariants as op
use Rattle.vm_law.specs.declared.insn.Insn.{Insn}
use Rattle.x86_alu.specs.declared.op.AluOp.TheVariants as alu
use Rattle.x86_alu.specs.declared.op.BitOp.TheVariants as bit
use Rattle.x86_alu.specs.Flags.{carry_of}
use Rattle.x86_op.specs.declared.access.Way.TheVariants as way
use Rattle.x86_op.specs.declared.touch.Touch.{Touch}
use Rattle.x86_op.specs.declared.touch.Touch.TheVariants.{Nothing, Push, Pop, Frame, System}
use Rattle.x86_op.specs.Touch.{in_memory, either, operand, loads, stores, modifies, compares, with_source, stores_unless, only_reads}
use Rattle.x86_op.specs.Operand.{value_at, source_at, passed}
use Rattle.x86_op.specs.Done.{Done, only}
use Rattle.x86_op.specs.Arithmetic.{drops_result, alu_done, operated, compared, unary_done, unary_faults, imul2_done, imul3_done}
use Rattle.x86_op.specs.Moves.{mov_done, movzx_done, movsx_done, lea_done, xchg_done, cmpxchg_done, xadd_done, bswap_done, is_equal, setcc_done, cmov_done, widen_done, sign_fill_done}
use Rattle.x86_op.specs.Bits.{only_tests, shift_done, bit_done, scan_done}
use Rattle.x86_op.specs.Flow.{jumped, jumped_to, jcc_done, push_done, pop_done, call_done, call_register_done, ret_done, leave_done, pushf_done, popf_done, carry_done, direction_done, sti_done, cli_done}

pub record Line : Type 0 where
  -- besides registers and flags
  pub touch : Touch
  pub done : Ctx → ℕ → Done
  -- a division that can't be done
  pub faults : Ctx → ℕ → Bool
  -- CMPXCHG's destination holds what the accumulator holds, so that it is written
  pub matches : Ctx → ℕ → Bool

abbrev never : Ctx → ℕ → Bool
never c read = false

-- a line that never faults: with a value for the operand in memory, or without one
abbrev pub computes : Touch → (Ctx → ℕ → Done) → Line
computes t f = record { touch = t; done = f; faults = never; matches = never }

abbrev pub changes : Touch → (Ctx → ℕ → Ctx) → Line
changes t f = computes t (λ c read. only (f c read))

-- one that leaves the context: of an operation that isn't computed here, or that touches neither registers nor flags
abbrev pub passes : Touch → Line
passes t = changes t (λ c read. c)

unfoldable pub line : Width → Op → Line
line w (op.Alu k l s) = computes (with_source (stores_unless (drops_result k)) w l s) (λ c read. alu_done c w read k l s)
line w (op.Test l s) = changes (with_source way.Load w l s) (λ c read. compared c alu.Test w (value_at c w read l) (source_at c w read s))
line w (op.Unary k l) = record {
  touch = operand w (in_memory (stores_unless (only_reads k)) l);
  done = λ c read. unary_done c w read k l;
  faults = λ c read. unary_faults c w read k l;
  matches = never;
}
line w (op.Inc l) = computes (modifies w l) (λ c read. operated c alu.Inc w l (value_at c w read l) 0)
line w (op.Dec l) = computes (modifies w l) (λ c read. operated c alu.Dec w l (value_at c w read l) 0)
line w (op.Imul2 r l) = changes (loads w l) (λ c read. imul2_done c w read r l)
line w (op.Imul3 r l value) = changes (loads w l) (λ c read. imul3_done c w read r l value)
line w (op.Mov l s) = computes (with_source way.Store w l s) (λ c read. mov_done c w read l s)
line w (op.MovZx r from l) = changes (loads from l) (λ c read. movzx_done c w read r from l)
line w (op.MovSx r from l) = changes (loads from l) (λ c read. movsx_done c w read r from l)
line w (op.Lea r a) = changes Nothing (λ c read. lea_done c w r a)
line w (op.Xchg a b) = computes (operand w (either (in_memory way.Modify a) (in_memory way.Modify b))) (λ c read. xchg_done c w read a b)
line w (op.CmpXchg a b) = record {
  touch = compares w a;
  done = λ c read. cmpxchg_done c w read a b;
  faults = never;
  matches = λ c read. is_equal c w read a;
}
line w (op.Xadd a b) = computes (modifies w a) (λ c read. xadd_done c w read a b)
line w (op.Shift k l n) = computes (modifies w l) (λ c read. shift_done c w read k l n)
line w (op.Bit k l s) = computes (operand w (in_memory (stores_unless (only_tests k)) l)) (λ c read. bit_done c w read k l s)
line w (op.Bsf r l) = changes (loads w l) (λ c read. scan_done c bit.Bsf w read r l)
line w (op.Bsr r l) = changes (loads w l) (λ c read. scan_done c bit.Bsr w read r l)
line w (op.Bswap r) = changes Nothing (λ c read. bswap_done c w r)
line w (op.SetCc cc l) = computes (stores width.B l) (λ c read. setcc_done c cc l)
line w (op.CMov cc r l) = changes (loads w l) (λ c read. cmov_done c w read cc r l)
line w (op.Jcc cc by) = changes Nothing (λ c read. jcc_done c cc by)
line w (op.Jmp by) = changes Nothing (λ c read. jumped c by)
line w (op.Call by) = computes Push (λ c read. call_done c by)
line w (op.JmpTo l) = changes (loads width.Q l) (λ c read. jumped_to c (value_at c width.Q read l))
line w (op.CallReg r) = computes Push (λ c read. call_register_done c r)
line w (op.Ret n) = changes Pop (λ c read. ret_done c read n)
line w (op.Push s) = computes Push (λ c read. push_done c read s)
line w (op.Pop r) = changes Pop (λ c read. pop_done c read r)
line w op.Leave = changes Frame (λ c read. leave_done c read)
line w op.PushF = computes Push (λ c read. pushf_done c)
line w op.PopF = changes Pop (λ c read. popf_done c read)
line w op.Widen = changes Nothing (λ c read. widen_done c w)
line w op.SignFill = changes Nothing (λ c read. sign_fill_done c w)
line w op.Clc = changes Nothing (λ c read. carry_done c false)
line w op.Stc = changes Nothing (λ c read. carry_done c true)
line w op.Cmc = changes Nothing (λ c read. carry_done c (not (carry_of c.rflags)))
line w op.Cld = changes Nothing (λ c read. direction_done c false)
line w op.Std = changes Nothing (λ c read. direction_done c true)
line w (op.In port) = passes System
line w (op.Out port) = passes System
line w (op.Int v) = passes System
line w op.Iret = passes System
line w op.Ud2 = passes System
line w (op.Lidt a) = passes System
line w op.Hlt = passes System
line w op.Sti = changes System (λ c read. sti_done c)
line w op.Cli = changes System (λ c read. cli_done c)
line w (op.Nop l) = passes Nothing
line w op.Pause = passes Nothing
line w op.Endbr = passes Nothing
line w (op.Fence kind) = passes Nothing

abbrev pub line_of : Insn → Line
line_of insn = line insn.width insn.op

-- of an instruction of so many bytes, from the context before it
abbrev pub computed : Ctx → Insn → ℕ → ℕ → Done
computed c insn len read = (line_of insn).done (passed c len) read

abbrev pub faults : Ctx → Insn → ℕ → Bool
faults c insn read = (line_of insn).faults c read

abbrev pub NeverFaults : Insn → Type 0
NeverFaults insn = (c : Ctx) (read : ℕ) → faults c insn read ≡ false

abbrev pub matches_accumulator : Ctx → Insn → ℕ → Bool
matches_accumulator c insn read = (line_of insn).matches c read
