-- The text of an instruction: its mnemonic, a space, and the operands with commas between them. A number is `0x` and its
-- hexadecimal digits in lower case, with `-` before it where it is below zero.
use Rattle.std.specs.Prelude.{◌==◌, ◌-◌, ◌^◌, min, suc, ℕ, ℤ, pos, negsuc, Bool, true, false, List, [], ◌++◌, Option, Some, None, is_some, is_none, ◌&&◌, codes, if◌then◌else◌}
use Rattle.std.specs.Fmt.{digits}
use Rattle.vm_law.specs.declared.insn.Width.{Width}
use Rattle.vm_law.specs.declared.insn.Width.TheVariants as width
use Rattle.vm_law.specs.declared.insn.Loc.TheVariants as loc
use Rattle.vm_law.specs.declared.insn.ArithmeticOp.{ArithmeticOp}
use Rattle.vm_law.specs.declared.insn.ArithmeticOp.TheVariants as arithmetic
use Rattle.vm_law.specs.declared.insn.UnaryOp.{UnaryOp}
use Rattle.vm_law.specs.declared.insn.UnaryOp.TheVariants as unary
use Rattle.vm_law.specs.declared.insn.ShiftOp.{ShiftOp}
use Rattle.vm_law.specs.declared.insn.ShiftOp.TheVariants as shift
use Rattle.vm_law.specs.declared.insn.BitTestOp.{BitTestOp}
use Rattle.vm_law.specs.declared.insn.BitTestOp.TheVariants as bit_test
use Rattle.vm_law.specs.declared.insn.Condition.{Condition}
use Rattle.vm_law.specs.declared.insn.Condition.TheVariants as condition
use Rattle.vm_law.specs.declared.insn.Op.{Op}
use Rattle.vm_law.specs.declared.insn.Op.TheVariants as op
use Rattle.asm_words.specs.declared.label.Value.{Value}
use Rattle.asm_words.specs.declared.label.Value.TheVariants as value
use Rattle.asm_words.specs.declared.memory.Memory.{Memory}
use Rattle.asm_words.specs.declared.mnemonic.Form.{Form}
use Rattle.asm_words.specs.declared.mnemonic.Form.TheVariants as form
use Rattle.asm_words.specs.declared.mnemonic.Mnemonic.{Mnemonic}
use Rattle.asm_words.specs.declared.mnemonic.Mnemonic.TheVariants as mnemonic
use Rattle.asm_words.specs.declared.operand.Operand.{Operand}
use Rattle.asm_words.specs.declared.operand.Operand.TheVariants as operand
use Rattle.asm_words.specs.declared.operand.Operands.{Operands}
use Rattle.asm_words.specs.declared.operand.Operands.TheVariants as operands
use Rattle.asm_insn.specs.declared.instruction.Instruction.{Instruction}
use Rattle.asm_words.specs.Register.{high_name, width_name}

-- ---- words

abbrev pub arithmetic_word : ArithmeticOp → List ℕ
arithmetic_word arithmetic.Add = codes "add"
arithmetic_word arithmetic.Or = codes "or"
arithmetic_word arithmetic.Adc = codes "adc"
arithmetic_word arithmetic.Sbb = codes "sbb"
arithmetic_word arithmetic.And = codes "and"
arithmetic_word arithmetic.Sub = codes "sub"
arithmetic_word arithmetic.Xor = codes "xor"
arithmetic_word arithmetic.Cmp = codes "cmp"

abbrev pub unary_word : UnaryOp → List ℕ
unary_word unary.Not = codes "not"
unary_word unary.Neg = codes "neg"
unary_word unary.Mul = codes "mul"
unary_word unary.Imul = codes "imul"
unary_word unary.Div = codes "div"
unary_word unary.Idiv = codes "idiv"

abbrev pub shift_word : ShiftOp → List ℕ
shift_word shift.Rol = codes "rol"
shift_word shift.Ror = codes "ror"
shift_word shift.Shl = codes "shl"
shift_word shift.Shr = codes "shr"
shift_word shift.Sar = codes "sar"

abbrev pub bit_test_word : BitTestOp → List ℕ
bit_test_word bit_test.Bt = codes "bt"
bit_test_word bit_test.Bts = codes "bts"
bit_test_word bit_test.Btr = codes "btr"
bit_test_word bit_test.Btc = codes "btc"

abbrev pub condition_word : Condition → List ℕ
condition_word condition.O = codes "o"
condition_word condition.No = codes "no"
condition_word condition.B = codes "b"
condition_word condition.Ae = codes "ae"
condition_word condition.E = codes "e"
condition_word condition.Ne = codes "ne"
condition_word condition.Be = codes "be"
condition_word condition.A = codes "a"
condition_word condition.S = codes "s"
condition_word condition.Ns = codes "ns"
condition_word condition.P = codes "p"
condition_word condition.Np = codes "np"
condition_word condition.L = codes "l"
condition_word condition.Ge = codes "ge"
condition_word condition.Le = codes "le"
condition_word condition.G = codes "g"

abbrev pub form_word : Form → List ℕ
form_word form.Test = codes "test"
form_word form.Imul = codes "imul"
form_word form.Inc = codes "inc"
form_word form.Dec = codes "dec"
form_word form.Mov = codes "mov"
form_word form.MovZx = codes "movzx"
form_word form.MovSx = codes "movsx"
form_word form.MovSxd = codes "movsxd"
form_word form.Lea = codes "lea"
form_word form.Xchg = codes "xchg"
form_word form.CmpXchg = codes "cmpxchg"
form_word form.Xadd = codes "xadd"
form_word form.Bsf = codes "bsf"
form_word form.Bsr = codes "bsr"
form_word form.Bswap = codes "bswap"
form_word form.Jmp = codes "jmp"
form_word form.Call = codes "call"
form_word form.Ret = codes "ret"
form_word form.Push = codes "push"
form_word form.Pop = codes "pop"
form_word form.In = codes "in"
form_word form.Out = codes "out"
form_word form.Int = codes "int"
form_word form.Lidt = codes "lidt"
form_word form.Nop = codes "nop"

abbrev pub widen_word : Width → List ℕ
widen_word width.W = codes "cbw"
widen_word width.D = codes "cwde"
widen_word _ = codes "cdqe"

abbrev pub sign_fill_word : Width → List ℕ
sign_fill_word width.W = codes "cwd"
sign_fill_word width.D = codes "cdq"
sign_fill_word _ = codes "cqo"

abbrev pub fence_word : ℕ → List ℕ
fence_word n = if n == 0xE8 then codes "lfence" else if n == 0xF0 then codes "mfence" else codes "sfence"

-- the word of an operation without operands
abbrev pub alone_word : Width → Op → List ℕ
alone_word w op.Leave = codes "leave"
alone_word w op.PushF = codes "pushfq"
alone_word w op.PopF = codes "popfq"
alone_word w op.Widen = widen_word w
alone_word w op.SignFill = sign_fill_word w
alone_word w op.Clc = codes "clc"
alone_word w op.Stc = codes "stc"
alone_word w op.Cmc = codes "cmc"
alone_word w op.Cld = codes "cld"
alone_word w op.Std = codes "std"
alone_word w (op.Int n) = codes "int3"
alone_word w op.Iret = codes "iretq"
alone_word w op.Ud2 = codes "ud2"
alone_word w op.Hlt = codes "hlt"
alone_word w op.Sti = codes "sti"
alone_word w op.Cli = codes "cli"
alone_word w op.Pause = codes "pause"
alone_word w op.Endbr = codes "endbr64"
alone_word w (op.Fence n) = fence_word n
alone_word w _ = codes "sfence"

abbrev pub mnemonic_text : Mnemonic → List ℕ
mnemonic_text (mnemonic.Arithmetic k) = arithmetic_word k
mnemonic_text (mnemonic.Unary k) = unary_word k
mnemonic_text (mnemonic.Shift k) = shift_word k
mnemonic_text (mnemonic.BitTest k) = bit_test_word k
mnemonic_text (mnemonic.Jcc c) = codes "j" ++ condition_word c
mnemonic_text (mnemonic.SetCc c) = codes "set" ++ condition_word c
mnemonic_text (mnemonic.CMov c) = codes "cmov" ++ condition_word c
mnemonic_text (mnemonic.Alone w o) = alone_word w o
mnemonic_text (mnemonic.Form f) = form_word f

-- ---- numbers

abbrev pub hex_text : ℕ → List ℕ
hex_text n = codes "0x" ++ digits 16 false n

-- a number of at most 64 bits
abbrev pub number_text : ℤ → List ℕ
number_text (pos n) = hex_text (min n (2 ^ 64 - 1))
number_text (negsuc n) = codes "-" ++ hex_text (min (suc n) (2 ^ 64 - 1))

abbrev pub value_text : Value → List ℕ
value_text (value.Number n) = number_text n
value_text _ = []

-- behind another part: nothing for 0
abbrev pub offset_text : ℤ → List ℕ
offset_text (pos n) = if n == 0 then [] else codes "+" ++ number_text (pos n)
offset_text (negsuc n) = number_text (negsuc n)

abbrev pub displacement_text : Value → List ℕ
displacement_text (value.Number n) = offset_text n
displacement_text _ = []

-- ---- operands

abbrev pub base_text : Option ℕ → Bool → List ℕ
base_text None more = []
base_text (Some r) more = width_name width.Q r ++ (if more then codes "+" else [])

abbrev pub index_text : Option ℕ → ℤ → List ℕ
index_text None scale = []
index_text (Some r) scale = width_name width.Q r ++ (codes "*" ++ number_text scale)

-- without a base and an index
abbrev pub is_bare : Memory → Bool
is_bare m = is_none m.base && is_none m.index

-- a displacement alone, or behind a base and an index
abbrev pub place_text : Memory → List ℕ
place_text m =
    if is_bare m then value_text m.displacement
    else base_text m.base (is_some m.index) ++ (index_text m.index m.scale ++ displacement_text m.displacement)

-- what stands between the brackets
abbrev pub inside_text : Memory → List ℕ
inside_text m = if m.rip then codes "rip" ++ displacement_text m.displacement else place_text m

abbrev pub size_word : Option Width → List ℕ
size_word None = []
size_word (Some width.B) = codes "byte "
size_word (Some width.W) = codes "word "
size_word (Some width.D) = codes "dword "
size_word (Some width.Q) = codes "qword "

abbrev pub operand_text : Operand → List ℕ
operand_text (operand.Register w (loc.High r)) = high_name r
operand_text (operand.Register w (loc.Reg r)) = width_name w r
operand_text (operand.Register w (loc.Mem m)) = []
operand_text (operand.Memory w m) = size_word w ++ (codes "[" ++ (inside_text m ++ codes "]"))
operand_text (operand.Value v) = value_text v
operand_text (operand.Distance n) = codes "rel " ++ number_text n

-- with a space before them and commas between them
abbrev pub operands_text : Operands → List ℕ
operands_text operands.None = []
operands_text (operands.One a) = codes " " ++ operand_text a
operands_text (operands.Two a b) = codes " " ++ (operand_text a ++ (codes "," ++ operand_text b))
operands_text (operands.Three a b c) = codes " " ++ (operand_text a ++ (codes "," ++ (operand_text b ++ (codes "," ++ operand_text c))))

-- ---- the statement

abbrev pub lock_text : Bool → List ℕ
lock_text true = codes "lock "
lock_text false = []

abbrev pub instruction_text : Instruction → List ℕ
instruction_text i = lock_text i.lock ++ (mnemonic_text i.mnemonic ++ operands_text i.operands)
