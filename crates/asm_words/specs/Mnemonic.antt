-- Mnemonics: the words of instructions. Source: Intel SDM volume 2, chapters 3 and 4; of words for one instruction the
-- table has one, as `je` and not `jz`, `shl` and not `sal`.
use Rattle.std.specs.Prelude.{ℕ, List, [], ◌∷◌, Option, option_map, option_and_then, codes}
use Rattle.std.specs.Option.{option_or}
use Rattle.std.specs.Str.{bytes_eq}
use Rattle.std.specs.Map.{lookup}
use Rattle.vm_law.specs.declared.insn.Width.{Width}
use Rattle.vm_law.specs.declared.insn.Width.TheVariants as width
use Rattle.vm_law.specs.declared.insn.ArithmeticOp.{ArithmeticOp}
use Rattle.vm_law.specs.declared.insn.ArithmeticOp.TheVariants as arithmetic
use Rattle.vm_law.specs.declared.insn.UnaryOp.{UnaryOp}
use Rattle.vm_law.specs.declared.insn.UnaryOp.TheVariants as unary
use Rattle.vm_law.specs.declared.insn.ShiftOp.{ShiftOp}
use Rattle.vm_law.specs.declared.insn.ShiftOp.TheVariants as shift
use Rattle.vm_law.specs.declared.insn.BitTestOp.{BitTestOp}
use Rattle.vm_law.specs.declared.insn.BitTestOp.TheVariants as bit_test
use Rattle.vm_law.specs.declared.insn.Condition.{Condition}
use Rattle.vm_law.specs.declared.insn.Condition.TheVariants as condition
use Rattle.vm_law.specs.declared.insn.Op.{Op}
use Rattle.vm_law.specs.declared.insn.Op.TheVariants as op
use Rattle.text_reader.specs.Word.{after_byte}
use Rattle.asm_words.specs.declared.mnemonic.Form.{Form}
use Rattle.asm_words.specs.declared.mnemonic.Form.TheVariants as form
use Rattle.asm_words.specs.declared.mnemonic.Mnemonic.{Mnemonic}
use Rattle.asm_words.specs.declared.mnemonic.Mnemonic.TheVariants as mnemonic

-- what a word names in a table
abbrev pub named : {A : Type 0} → List (List ℕ × A) → List ℕ → Option A
named table word = lookup (bytes_eq word) table

abbrev pub arithmetic_words : List (List ℕ × ArithmeticOp)
arithmetic_words = (codes "add", arithmetic.Add) ∷ (codes "or", arithmetic.Or) ∷ (codes "adc", arithmetic.Adc) ∷ (codes "sbb", arithmetic.Sbb) ∷ (codes "and", arithmetic.And) ∷ (codes "sub", arithmetic.Sub) ∷ (codes "xor", arithmetic.Xor) ∷ (codes "cmp", arithmetic.Cmp) ∷ []

abbrev pub unary_words : List (List ℕ × UnaryOp)
unary_words = (codes "not", unary.Not) ∷ (codes "neg", unary.Neg) ∷ (codes "mul", unary.Mul) ∷ (codes "div", unary.Div) ∷ (codes "idiv", unary.Idiv) ∷ []

abbrev pub shift_words : List (List ℕ × ShiftOp)
shift_words = (codes "rol", shift.Rol) ∷ (codes "ror", shift.Ror) ∷ (codes "shl", shift.Shl) ∷ (codes "shr", shift.Shr) ∷ (codes "sar", shift.Sar) ∷ []

abbrev pub bit_test_words : List (List ℕ × BitTestOp)
bit_test_words = (codes "bt", bit_test.Bt) ∷ (codes "bts", bit_test.Bts) ∷ (codes "btr", bit_test.Btr) ∷ (codes "btc", bit_test.Btc) ∷ []

abbrev pub condition_words : List (List ℕ × Condition)
condition_words = (codes "o", condition.O) ∷ (codes "no", condition.No) ∷ (codes "b", condition.B) ∷ (codes "ae", condition.Ae) ∷ (codes "e", condition.E) ∷ (codes "ne", condition.Ne) ∷ (codes "be", condition.Be) ∷ (codes "a", condition.A) ∷ (codes "s", condition.S) ∷ (codes "ns", condition.Ns) ∷ (codes "p", condition.P) ∷ (codes "np", condition.Np) ∷ (codes "l", condition.L) ∷ (codes "ge", condition.Ge) ∷ (codes "le", condition.Le) ∷ (codes "g", condition.G) ∷ []

-- operations without operands, with their width
abbrev pub alone_words : List (List ℕ × (Width × Op))
alone_words = (codes "leave", (width.Q, op.Leave)) ∷ (codes "pushfq", (width.Q, op.PushF)) ∷ (codes "popfq", (width.Q, op.PopF)) ∷ (codes "cbw", (width.W, op.Widen)) ∷ (codes "cwde", (width.D, op.Widen)) ∷ (codes "cdqe", (width.Q, op.Widen)) ∷ (codes "cwd", (width.W, op.SignFill)) ∷ (codes "cdq", (width.D, op.SignFill)) ∷ (codes "cqo", (width.Q, op.SignFill)) ∷ (codes "clc", (width.Q, op.Clc)) ∷ (codes "stc", (width.Q, op.Stc)) ∷ (codes "cmc", (width.Q, op.Cmc)) ∷ (codes "cld", (width.Q, op.Cld)) ∷ (codes "std", (width.Q, op.Std)) ∷ (codes "int3", (width.Q, op.Int 3)) ∷ (codes "iretq", (width.Q, op.Iret)) ∷ (codes "ud2", (width.Q, op.Ud2)) ∷ (codes "hlt", (width.Q, op.Hlt)) ∷ (codes "sti", (width.Q, op.Sti)) ∷ (codes "cli", (width.Q, op.Cli)) ∷ (codes "pause", (width.Q, op.Pause)) ∷ (codes "endbr64", (width.Q, op.Endbr)) ∷ (codes "lfence", (width.Q, op.Fence 0xE8)) ∷ (codes "mfence", (width.Q, op.Fence 0xF0)) ∷ (codes "sfence", (width.Q, op.Fence 0xF8)) ∷ []

-- words whose operands decide what instruction it is
abbrev pub form_words : List (List ℕ × Form)
form_words = (codes "test", form.Test) ∷ (codes "imul", form.Imul) ∷ (codes "inc", form.Inc) ∷ (codes "dec", form.Dec) ∷ (codes "mov", form.Mov) ∷ (codes "movzx", form.MovZx) ∷ (codes "movsx", form.MovSx) ∷ (codes "movsxd", form.MovSxd) ∷ (codes "lea", form.Lea) ∷ (codes "xchg", form.Xchg) ∷ (codes "cmpxchg", form.CmpXchg) ∷ (codes "xadd", form.Xadd) ∷ (codes "bsf", form.Bsf) ∷ (codes "bsr", form.Bsr) ∷ (codes "bswap", form.Bswap) ∷ (codes "jmp", form.Jmp) ∷ (codes "call", form.Call) ∷ (codes "ret", form.Ret) ∷ (codes "push", form.Push) ∷ (codes "pop", form.Pop) ∷ (codes "in", form.In) ∷ (codes "out", form.Out) ∷ (codes "int", form.Int) ∷ (codes "lidt", form.Lidt) ∷ (codes "nop", form.Nop) ∷ []

abbrev pub arithmetic_of : List ℕ → Option ArithmeticOp
arithmetic_of word = named arithmetic_words word

abbrev pub unary_of : List ℕ → Option UnaryOp
unary_of word = named unary_words word

abbrev pub shift_of : List ℕ → Option ShiftOp
shift_of word = named shift_words word

abbrev pub bit_test_of : List ℕ → Option BitTestOp
bit_test_of word = named bit_test_words word

abbrev pub condition_of : List ℕ → Option Condition
condition_of word = named condition_words word

abbrev pub alone_of : List ℕ → Option (Width × Op)
alone_of word = named alone_words word

abbrev pub form_of : List ℕ → Option Form
form_of word = named form_words word

-- a condition behind `j`, `set` and `cmov`
abbrev pub jcc_of : List ℕ → Option Condition
jcc_of word = option_and_then condition_of (after_byte 106 word)

abbrev pub setcc_of : List ℕ → Option Condition
setcc_of word = option_and_then condition_of (option_and_then (after_byte 116) (option_and_then (after_byte 101) (after_byte 115 word)))

abbrev pub cmov_of : List ℕ → Option Condition
cmov_of word = option_and_then condition_of (option_and_then (after_byte 118) (option_and_then (after_byte 111) (option_and_then (after_byte 109) (after_byte 99 word))))

abbrev pub conditional_of : List ℕ → Option Mnemonic
conditional_of word =
    option_or (option_map (λ c. mnemonic.Jcc c) (jcc_of word))
    (option_or (option_map (λ c. mnemonic.SetCc c) (setcc_of word))
    (option_map (λ c. mnemonic.CMov c) (cmov_of word)))

-- what a word names, if it is a mnemonic
abbrev pub mnemonic_of : List ℕ → Option Mnemonic
mnemonic_of word =
    option_or (option_map (λ o. mnemonic.Arithmetic o) (arithmetic_of word))
    (option_or (option_map (λ o. mnemonic.Unary o) (unary_of word))
    (option_or (option_map (λ o. mnemonic.Shift o) (shift_of word))
    (option_or (option_map (λ o. mnemonic.BitTest o) (bit_test_of word))
    (option_or (option_map (λ (w, o). mnemonic.Alone w o) (alone_of word))
    (option_or (option_map (λ f. mnemonic.Form f) (form_of word))
    (conditional_of word))))))
