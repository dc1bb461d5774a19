-- Whether two instructions are the same, by trees that they are read back from.
use Rattle.std.proofs.Common.{◌≡◌, ◌∙◌, ◌==◌, ℕ, ℤ, pos, negsuc, Bool, true, false, cond, Option, Some, None, refl, sym, ap}
use Rattle.vm_law.specs.declared.insn.Width.{Width}
use Rattle.vm_law.specs.declared.insn.Width.TheVariants as width
use Rattle.vm_law.specs.declared.insn.Mem.{Mem}
use Rattle.vm_law.specs.declared.insn.Loc.{Loc}
use Rattle.vm_law.specs.declared.insn.Loc.TheVariants as loc
use Rattle.vm_law.specs.declared.insn.Src.{Src}
use Rattle.vm_law.specs.declared.insn.Src.TheVariants as src
use Rattle.vm_law.specs.declared.insn.Count.{Count}
use Rattle.vm_law.specs.declared.insn.Count.TheVariants as count
use Rattle.vm_law.specs.declared.insn.Op.{Op}
use Rattle.vm_law.specs.declared.insn.Op.TheVariants as op
use Rattle.vm_law.specs.declared.insn.Insn.{Insn}
use Rattle.vm_law.specs.declared.insn.ArithmeticOp.{ArithmeticOp}
use Rattle.vm_law.specs.declared.insn.ArithmeticOp.TheVariants as arithmetic
use Rattle.vm_law.specs.declared.insn.UnaryOp.{UnaryOp}
use Rattle.vm_law.specs.declared.insn.UnaryOp.TheVariants as unary
use Rattle.vm_law.specs.declared.insn.ShiftOp.{ShiftOp}
use Rattle.vm_law.specs.declared.insn.ShiftOp.TheVariants as shift
use Rattle.vm_law.specs.declared.insn.BitTestOp.{BitTestOp}
use Rattle.vm_law.specs.declared.insn.BitTestOp.TheVariants as bit_test
use Rattle.vm_law.specs.declared.insn.Condition.{Condition}
use Rattle.vm_law.specs.declared.insn.Condition.TheVariants as condition
use Rattle.asm_insn.proofs.Trees.{Tree, leaf, node, same, same_true, same_refl}

abbrev nat_tree : ℕ → Tree
nat_tree n = node n leaf leaf

abbrev nat_back : Tree → ℕ
nat_back leaf = 0
nat_back (node n a b) = n

nat_left : (n : ℕ) → nat_back (nat_tree n) ≡ n
nat_left n = refl

abbrev int_tree : ℤ → Tree
int_tree (pos n) = node 0 (nat_tree n) leaf
int_tree (negsuc n) = node 1 (nat_tree n) leaf

abbrev int_back : Tree → ℤ
int_back leaf = pos 0
int_back (node n a b) = cond (n == 0) (pos (nat_back a)) (negsuc (nat_back a))

int_left : (n : ℤ) → int_back (int_tree n) ≡ n
int_left (pos n) = refl
int_left (negsuc n) = refl

abbrev bool_tree : Bool → Tree
bool_tree false = nat_tree 0
bool_tree true = nat_tree 1

abbrev bool_back : Tree → Bool
bool_back leaf = false
bool_back (node n a b) = n == 1

bool_left : (t : Bool) → bool_back (bool_tree t) ≡ t
bool_left false = refl
bool_left true = refl

abbrev some_nat_tree : Option ℕ → Tree
some_nat_tree None = leaf
some_nat_tree (Some n) = nat_tree n

abbrev some_nat_back : Tree → Option ℕ
some_nat_back leaf = None
some_nat_back (node n a b) = Some n

some_nat_left : (o : Option ℕ) → some_nat_back (some_nat_tree o) ≡ o
some_nat_left None = refl
some_nat_left (Some n) = refl

abbrev width_tree : Width → Tree
width_tree width.B = nat_tree 0
width_tree width.W = nat_tree 1
width_tree width.D = nat_tree 2
width_tree width.Q = nat_tree 3

abbrev width_back : Tree → Width
width_back leaf = width.B
width_back (node n a b) = cond (n == 0) width.B (cond (n == 1) width.W (cond (n == 2) width.D width.Q))

width_left : (x : Width) → width_back (width_tree x) ≡ x
width_left width.B = refl
width_left width.W = refl
width_left width.D = refl
width_left width.Q = refl

abbrev arithmetic_tree : ArithmeticOp → Tree
arithmetic_tree arithmetic.Add = nat_tree 0
arithmetic_tree arithmetic.Or = nat_tree 1
arithmetic_tree arithmetic.Adc = nat_tree 2
arithmetic_tree arithmetic.Sbb = nat_tree 3
arithmetic_tree arithmetic.And = nat_tree 4
arithmetic_tree arithmetic.Sub = nat_tree 5
arithmetic_tree arithmetic.Xor = nat_tree 6
arithmetic_tree arithmetic.Cmp = nat_tree 7

abbrev arithmetic_back : Tree → ArithmeticOp
arithmetic_back leaf = arithmetic.Add
arithmetic_back (node n a b) = cond (n == 0) arithmetic.Add (cond (n == 1) arithmetic.Or (cond (n == 2) arithmetic.Adc (cond (n == 3) arithmetic.Sbb (cond (n == 4) arithmetic.And (cond (n == 5) arithmetic.Sub (cond (n == 6) arithmetic.Xor arithmetic.Cmp))))))

arithmetic_left : (x : ArithmeticOp) → arithmetic_back (arithmetic_tree x) ≡ x
arithmetic_left arithmetic.Add = refl
arithmetic_left arithmetic.Or = refl
arithmetic_left arithmetic.Adc = refl
arithmetic_left arithmetic.Sbb = refl
arithmetic_left arithmetic.And = refl
arithmetic_left arithmetic.Sub = refl
arithmetic_left arithmetic.Xor = refl
arithmetic_left arithmetic.Cmp = refl

abbrev unary_tree : UnaryOp → Tree
unary_tree unary.Not = nat_tree 0
unary_tree unary.Neg = nat_tree 1
unary_tree unary.Mul = nat_tree 2
unary_tree unary.Imul = nat_tree 3
unary_tree unary.Div = nat_tree 4
unary_tree unary.Idiv = nat_tree 5

abbrev unary_back : Tree → UnaryOp
unary_back leaf = unary.Not
unary_back (node n a b) = cond (n == 0) unary.Not (cond (n == 1) unary.Neg (cond (n == 2) unary.Mul (cond (n == 3) unary.Imul (cond (n == 4) unary.Div unary.Idiv))))

unary_left : (x : UnaryOp) → unary_back (unary_tree x) ≡ x
unary_left unary.Not = refl
unary_left unary.Neg = refl
unary_left unary.Mul = refl
unary_left unary.Imul = refl
unary_left unary.Div = refl
unary_left unary.Idiv = refl

abbrev shift_tree : ShiftOp → Tree
shift_tree shift.Rol = nat_tree 0
shift_tree shift.Ror = nat_tree 1
shift_tree shift.Shl = nat_tree 2
shift_tree shift.Shr = nat_tree 3
shift_tree shift.Sar = nat_tree 4

abbrev shift_back : Tree → ShiftOp
shift_back leaf = shift.Rol
shift_back (node n a b) = cond (n == 0) shift.Rol (cond (n == 1) shift.Ror (cond (n == 2) shift.Shl (cond (n == 3) shift.Shr shift.Sar)))

shift_left : (x : ShiftOp) → shift_back (shift_tree x) ≡ x
shift_left shift.Rol = refl
shift_left shift.Ror = refl
shift_left shift.Shl = refl
shift_left shift.Shr = refl
shift_left shift.Sar = refl

abbrev bit_test_tree : BitTestOp → Tree
bit_test_tree bit_test.Bt = nat_tree 0
bit_test_tree bit_test.Bts = nat_tree 1
bit_test_tree bit_test.Btr = nat_tree 2
bit_test_tree bit_test.Btc = nat_tree 3

abbrev bit_test_back : Tree → BitTestOp
bit_test_back leaf = bit_test.Bt
bit_test_back (node n a b) = cond (n == 0) bit_test.Bt (cond (n == 1) bit_test.Bts (cond (n == 2) bit_test.Btr bit_test.Btc))

bit_test_left : (x : BitTestOp) → bit_test_back (bit_test_tree x) ≡ x
bit_test_left bit_test.Bt = refl
bit_test_left bit_test.Bts = refl
bit_test_left bit_test.Btr = refl
bit_test_left bit_test.Btc = refl

abbrev condition_tree : Condition → Tree
condition_tree condition.O = nat_tree 0
condition_tree condition.No = nat_tree 1
condition_tree condition.B = nat_tree 2
condition_tree condition.Ae = nat_tree 3
condition_tree condition.E = nat_tree 4
condition_tree condition.Ne = nat_tree 5
condition_tree condition.Be = nat_tree 6
condition_tree condition.A = nat_tree 7
condition_tree condition.S = nat_tree 8
condition_tree condition.Ns = nat_tree 9
condition_tree condition.P = nat_tree 10
condition_tree condition.Np = nat_tree 11
condition_tree condition.L = nat_tree 12
condition_tree condition.Ge = nat_tree 13
condition_tree condition.Le = nat_tree 14
condition_tree condition.G = nat_tree 15

abbrev condition_back : Tree → Condition
condition_back leaf = condition.O
condition_back (node n a b) = cond (n == 0) condition.O (cond (n == 1) condition.No (cond (n == 2) condition.B (cond (n == 3) condition.Ae (cond (n == 4) condition.E (cond (n == 5) condition.Ne (cond (n == 6) condition.Be (cond (n == 7) condition.A (cond (n == 8) condition.S (cond (n == 9) condition.Ns (cond (n == 10) condition.P (cond (n == 11) condition.Np (cond (n == 12) condition.L (cond (n == 13) condition.Ge (cond (n == 14) condition.Le condition.G))))))))))))))

condition_left : (x : Condition) → condition_back (condition_tree x) ≡ x
condition_left condition.O = refl
condition_left condition.No = refl
condition_left condition.B = refl
condition_left condition.Ae = refl
condition_left condition.E = refl
condition_left condition.Ne = refl
condition_left condition.Be = refl
condition_left condition.A = refl
condition_left condition.S = refl
condition_left condition.Ns = refl
condition_left condition.P = refl
condition_left condition.Np = refl
condition_left condition.L = refl
condition_left condition.Ge = refl
condition_left condition.Le = refl
condition_left condition.G = refl

abbrev first : Tree → Tree
first leaf = leaf
first (node n a b) = a

abbrev second : Tree → Tree
second leaf = leaf
second (node n a b) = b

abbrev mem_tree : Mem → Tree
mem_tree m = node m.scale (node 0 (some_nat_tree m.base) (some_nat_tree m.index)) (node 0 (int_tree m.disp) (bool_tree m.rip))

abbrev mem_back : Tree → Mem
mem_back t = record { base = some_nat_back (first (first t)); index = some_nat_back (second (first t)); scale = nat_back t; disp = int_back (first (second t)); rip = bool_back (second (second t)) }

abbrev mem_of : Option ℕ → Option ℕ → ℕ → ℤ → Bool → Mem
mem_of base index scale disp rip = record { base = base; index = index; scale = scale; disp = disp; rip = rip }

mem_left : (m : Mem) → mem_back (mem_tree m) ≡ m
mem_left m =
    ap (λ (x : Option ℕ). mem_of x (some_nat_back (some_nat_tree m.index)) m.scale (int_back (int_tree m.disp)) (bool_back (bool_tree m.rip))) (some_nat_left m.base)
    ∙ (ap (λ (x : Option ℕ). mem_of m.base x m.scale (int_back (int_tree m.disp)) (bool_back (bool_tree m.rip))) (some_nat_left m.index)
    ∙ (ap (λ (x : ℤ). mem_of m.base m.index m.scale x (bool_back (bool_tree m.rip))) (int_left m.disp)
    ∙ ap (λ (x : Bool). mem_of m.base m.index m.scale m.disp x) (bool_left m.rip)))

abbrev loc_tree : Loc → Tree
loc_tree (loc.Reg r) = node 0 (nat_tree r) leaf
loc_tree (loc.High r) = node 1 (nat_tree r) leaf
loc_tree (loc.Mem m) = node 2 (mem_tree m) leaf

abbrev loc_back : Tree → Loc
loc_back leaf = loc.Reg 0
loc_back (node n a b) = cond (n == 0) (loc.Reg (nat_back a)) (cond (n == 1) (loc.High (nat_back a)) (loc.Mem (mem_back a)))

loc_left : (l : Loc) → loc_back (loc_tree l) ≡ l
loc_left (loc.Reg r) = refl
loc_left (loc.High r) = refl
loc_left (loc.Mem m) = ap (λ (x : Mem). loc.Mem x) (mem_left m)

abbrev some_loc_tree : Option Loc → Tree
some_loc_tree None = leaf
some_loc_tree (Some l) = node 0 (loc_tree l) leaf

abbrev some_loc_back : Tree → Option Loc
some_loc_back leaf = None
some_loc_back (node n a b) = Some (loc_back a)

some_loc_left : (o : Option Loc) → some_loc_back (some_loc_tree o) ≡ o
some_loc_left None = refl
some_loc_left (Some l) = ap (λ (x : Loc). Some x) (loc_left l)

abbrev src_tree : Src → Tree
src_tree (src.Loc l) = node 0 (loc_tree l) leaf
src_tree (src.Imm n) = node 1 (int_tree n) leaf

abbrev src_back : Tree → Src
src_back leaf = src.Imm (pos 0)
src_back (node n a b) = cond (n == 0) (src.Loc (loc_back a)) (src.Imm (int_back a))

src_left : (s : Src) → src_back (src_tree s) ≡ s
src_left (src.Loc l) = ap (λ (x : Loc). src.Loc x) (loc_left l)
src_left (src.Imm n) = ap (λ (x : ℤ). src.Imm x) (int_left n)

abbrev count_tree : Count → Tree
count_tree (count.Imm n) = nat_tree n
count_tree count.Cl = leaf

abbrev count_back : Tree → Count
count_back leaf = count.Cl
count_back (node n a b) = count.Imm n

count_left : (x : Count) → count_back (count_tree x) ≡ x
count_left (count.Imm n) = refl
count_left count.Cl = refl

abbrev op_tree : Op → Tree
op_tree (op.Alu x y z) = node 0 (arithmetic_tree x) (node 0 (loc_tree y) (src_tree z))
op_tree (op.Test x y) = node 1 (loc_tree x) (src_tree y)
op_tree (op.Unary x y) = node 2 (unary_tree x) (loc_tree y)
op_tree (op.Inc x) = node 3 (loc_tree x) leaf
op_tree (op.Dec x) = node 4 (loc_tree x) leaf
op_tree (op.Imul2 x y) = node 5 (nat_tree x) (loc_tree y)
op_tree (op.Imul3 x y z) = node 6 (nat_tree x) (node 0 (loc_tree y) (int_tree z))
op_tree (op.Mov x y) = node 7 (loc_tree x) (src_tree y)
op_tree (op.MovZx x y z) = node 8 (nat_tree x) (node 0 (width_tree y) (loc_tree z))
op_tree (op.MovSx x y z) = node 9 (nat_tree x) (node 0 (width_tree y) (loc_tree z))
op_tree (op.Lea x y) = node 10 (nat_tree x) (mem_tree y)
op_tree (op.Xchg x y) = node 11 (loc_tree x) (loc_tree y)
op_tree (op.CmpXchg x y) = node 12 (loc_tree x) (loc_tree y)
op_tree (op.Xadd x y) = node 13 (loc_tree x) (loc_tree y)
op_tree (op.Shift x y z) = node 14 (shift_tree x) (node 0 (loc_tree y) (count_tree z))
op_tree (op.Bit x y z) = node 15 (bit_test_tree x) (node 0 (loc_tree y) (src_tree z))
op_tree (op.Bsf x y) = node 16 (nat_tree x) (loc_tree y)
op_tree (op.Bsr x y) = node 17 (nat_tree x) (loc_tree y)
op_tree (op.Bswap x) = node 18 (nat_tree x) leaf
op_tree (op.SetCc x y) = node 19 (condition_tree x) (loc_tree y)
op_tree (op.CMov x y z) = node 20 (condition_tree x) (node 0 (nat_tree y) (loc_tree z))
op_tree (op.Jcc x y) = node 21 (condition_tree x) (int_tree y)
op_tree (op.Jmp x) = node 22 (int_tree x) leaf
op_tree (op.Call x) = node 23 (int_tree x) leaf
op_tree (op.JmpTo x) = node 24 (loc_tree x) leaf
op_tree (op.CallReg x) = node 25 (nat_tree x) leaf
op_tree (op.Ret x) = node 26 (nat_tree x) leaf
op_tree (op.Push x) = node 27 (src_tree x) leaf
op_tree (op.Pop x) = node 28 (nat_tree x) leaf
op_tree op.Leave = node 29 leaf leaf
op_tree op.PushF = node 30 leaf leaf
op_tree op.PopF = node 31 leaf leaf
op_tree op.Widen = node 32 leaf leaf
op_tree op.SignFill = node 33 leaf leaf
op_tree op.Clc = node 34 leaf leaf
op_tree op.Stc = node 35 leaf leaf
op_tree op.Cmc = node 36 leaf leaf
op_tree op.Cld = node 37 leaf leaf
op_tree op.Std = node 38 leaf leaf
op_tree (op.In x) = node 39 (some_nat_tree x) leaf
op_tree (op.Out x) = node 40 (some_nat_tree x) leaf
op_tree (op.Int x) = node 41 (nat_tree x) leaf
op_tree op.Iret = node 42 leaf leaf
op_tree op.Ud2 = node 43 leaf leaf
op_tree (op.Lidt x) = node 44 (mem_tree x) leaf
op_tree op.Hlt = node 45 leaf leaf
op_tree op.Sti = node 46 leaf leaf
op_tree op.Cli = node 47 leaf leaf
op_tree (op.Nop x) = node 48 (some_loc_tree x) leaf
op_tree op.Pause = node 49 leaf leaf
op_tree op.Endbr = node 50 leaf leaf
op_tree (op.Fence x) = node 51 (nat_tree x) leaf

abbrev op_at : ℕ → Tree → Tree → Op
op_at n a b = cond (n == 0) (op.Alu (arithmetic_back a) (loc_back (first b)) (src_back (second b))) (cond (n == 1) (op.Test (loc_back a) (src_back b)) (cond (n == 2) (op.Unary (unary_back a) (loc_back b)) (cond (n == 3) (op.Inc (loc_back a)) (cond (n == 4) (op.Dec (loc_back a)) (cond (n == 5) (op.Imul2 (nat_back a) (loc_back b)) (cond (n == 6) (op.Imul3 (nat_back a) (loc_back (first b)) (int_back (second b))) (cond (n == 7) (op.Mov (loc_back a) (src_back b)) (cond (n == 8) (op.MovZx (nat_back a) (width_back (first b)) (loc_back (second b))) (cond (n == 9) (op.MovSx (nat_back a) (width_back (first b)) (loc_back (second b))) (cond (n == 10) (op.Lea (nat_back a) (mem_back b)) (cond (n == 11) (op.Xchg (loc_back a) (loc_back b)) (cond (n == 12) (op.CmpXchg (loc_back a) (loc_back b)) (cond (n == 13) (op.Xadd (loc_back a) (loc_back b)) (cond (n == 14) (op.Shift (shift_back a) (loc_back (first b)) (count_back (second b))) (cond (n == 15) (op.Bit (bit_test_back a) (loc_back (first b)) (src_back (second b))) (cond (n == 16) (op.Bsf (nat_back a) (loc_back b)) (cond (n == 17) (op.Bsr (nat_back a) (loc_back b)) (cond (n == 18) (op.Bswap (nat_back a)) (cond (n == 19) (op.SetCc (condition_back a) (loc_back b)) (cond (n == 20) (op.CMov (condition_back a) (nat_back (first b)) (loc_back (second b))) (cond (n == 21) (op.Jcc (condition_back a) (int_back b)) (cond (n == 22) (op.Jmp (int_back a)) (cond (n == 23) (op.Call (int_back a)) (cond (n == 24) (op.JmpTo (loc_back a)) (cond (n == 25) (op.CallReg (nat_back a)) (cond (n == 26) (op.Ret (nat_back a)) (cond (n == 27) (op.Push (src_back a)) (cond (n == 28) (op.Pop (nat_back a)) (cond (n == 29) op.Leave (cond (n == 30) op.PushF (cond (n == 31) op.PopF (cond (n == 32) op.Widen (cond (n == 33) op.SignFill (cond (n == 34) op.Clc (cond (n == 35) op.Stc (cond (n == 36) op.Cmc (cond (n == 37) op.Cld (cond (n == 38) op.Std (cond (n == 39) (op.In (some_nat_back a)) (cond (n == 40) (op.Out (some_nat_back a)) (cond (n == 41) (op.Int (nat_back a)) (cond (n == 42) op.Iret (cond (n == 43) op.Ud2 (cond (n == 44) (op.Lidt (mem_back a)) (cond (n == 45) op.Hlt (cond (n == 46) op.Sti (cond (n == 47) op.Cli (cond (n == 48) (op.Nop (some_loc_back a)) (cond (n == 49) op.Pause (cond (n == 50) op.Endbr ((op.Fence (nat_back a)))))))))))))))))))))))))))))))))))))))))))))))))))))

abbrev op_back : Tree → Op
op_back leaf = op.Leave
op_back (node n a b) = op_at n a b

op_left : (x : Op) → op_back (op_tree x) ≡ x
op_left (op.Alu x y z) = cc (arithmetic_left x, loc_left y, src_left z)
op_left (op.Test x y) = cc (loc_left x, src_left y)
op_left (op.Unary x y) = cc (unary_left x, loc_left y)
op_left (op.Inc x) = cc (loc_left x)
op_left (op.Dec x) = cc (loc_left x)
op_left (op.Imul2 x y) = cc (loc_left y)
op_left (op.Imul3 x y z) = cc (loc_left y, int_left z)
op_left (op.Mov x y) = cc (loc_left x, src_left y)
op_left (op.MovZx x y z) = cc (width_left y, loc_left z)
op_left (op.MovSx x y z) = cc (width_left y, loc_left z)
op_left (op.Lea x y) = cc (mem_left y)
op_left (op.Xchg x y) = cc (loc_left x, loc_left y)
op_left (op.CmpXchg x y) = cc (loc_left x, loc_left y)
op_left (op.Xadd x y) = cc (loc_left x, loc_left y)
op_left (op.Shift x y z) = cc (shift_left x, loc_left y, count_left z)
op_left (op.Bit x y z) = cc (bit_test_left x, loc_left y, src_left z)
op_left (op.Bsf x y) = cc (loc_left y)
op_left (op.Bsr x y) = cc (loc_left y)
op_left (op.Bswap x) = refl
op_left (op.SetCc x y) = cc (condition_left x, loc_left y)
op_left (op.CMov x y z) = cc (condition_left x, loc_left z)
op_left (op.Jcc x y) = cc (condition_left x, int_left y)
op_left (op.Jmp x) = cc (int_left x)
op_left (op.Call x) = cc (int_left x)
op_left (op.JmpTo x) = cc (loc_left x)
op_left (op.CallReg x) = refl
op_left (op.Ret x) = refl
op_left (op.Push x) = cc (src_left x)
op_left (op.Pop x) = refl
op_left op.Leave = refl
op_left op.PushF = refl
op_left op.PopF = refl
op_left op.Widen = refl
op_left op.SignFill = refl
op_left op.Clc = refl
op_left op.Stc = refl
op_left op.Cmc = refl
op_left op.Cld = refl
op_left op.Std = refl
op_left (op.In x) = cc (some_nat_left x)
op_left (op.Out x) = cc (some_nat_left x)
op_left (op.Int x) = refl
op_left op.Iret = refl
op_left op.Ud2 = refl
op_left (op.Lidt x) = cc (mem_left x)
op_left op.Hlt = refl
op_left op.Sti = refl
op_left op.Cli = refl
op_left (op.Nop x) = cc (some_loc_left x)
op_left op.Pause = refl
op_left op.Endbr = refl
op_left (op.Fence x) = refl

abbrev insn_tree : Insn → Tree
insn_tree i = node 0 (node 0 (bool_tree i.lock) (width_tree i.width)) (op_tree i.op)

abbrev insn_back : Tree → Insn
insn_back t = record { lock = bool_back (first (first t)); width = width_back (second (first t)); op = op_back (second t) }

abbrev insn_of : Bool → Width → Op → Insn
insn_of lock w o = record { lock = lock; width = w; op = o }

insn_left : (i : Insn) → insn_back (insn_tree i) ≡ i
insn_left i =
    ap (λ (x : Bool). insn_of x (width_back (width_tree i.width)) (op_back (op_tree i.op))) (bool_left i.lock)
    ∙ (ap (λ (x : Width). insn_of i.lock x (op_back (op_tree i.op))) (width_left i.width)
    ∙ ap (λ (x : Op). insn_of i.lock i.width x) (op_left i.op))

-- whether two instructions are the same
unfoldable pub same_insn : Insn → Insn → Bool
same_insn i j = same (insn_tree i) (insn_tree j)

pub same_insn_true : (i j : Insn) → same_insn i j ≡ true → i ≡ j
unfolding same_insn
same_insn_true i j h = sym (insn_left i) ∙ ap insn_back (same_true (insn_tree i) (insn_tree j) h) ∙ insn_left j

pub same_insn_refl : (i : Insn) → same_insn i i ≡ true
unfolding same_insn
same_insn_refl i = same_refl (insn_tree i)
