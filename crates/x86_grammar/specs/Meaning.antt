-- Which instruction the parts of a spelling mean. An operation takes the operands that it has, and no others.
-- Source: Intel SDM volume 2, chapters 3 and 4, the pages of the instructions, and appendix A.3.
use Rattle.std.specs.Prelude.{ℕ, ◌%◌, ℤ, Option, Some, None, List, slice_get}
use Rattle.std.specs.Option.{option_map}
use Rattle.x86_grammar.specs.declared.head.Head.{Head}
use Rattle.vm_law.specs.declared.insn.Width.{Width}
use Rattle.vm_law.specs.declared.insn.Mem.{Mem}
use Rattle.vm_law.specs.declared.insn.Loc.{Loc}
use Rattle.vm_law.specs.declared.insn.Loc.TheVariants as loc
use Rattle.vm_law.specs.declared.insn.Src.{Src}
use Rattle.vm_law.specs.declared.insn.Src.TheVariants as src
use Rattle.vm_law.specs.declared.insn.Count.TheVariants as count
use Rattle.vm_law.specs.declared.insn.Condition.{Condition}
use Rattle.vm_law.specs.declared.insn.Op.{Op}
use Rattle.vm_law.specs.declared.insn.Op.TheVariants as op
use Rattle.vm_law.specs.declared.insn.Insn.{Insn}
use Rattle.x86_grammar.specs.declared.condition.TheConstants.{CONDITIONS}
use Rattle.x86_grammar.specs.declared.operands.Operands.{Operands}
use Rattle.x86_grammar.specs.declared.operands.Operands.TheVariants as operands
use Rattle.x86_grammar.specs.declared.table.OpKind.{OpKind}
use Rattle.x86_grammar.specs.declared.table.OpKind.TheVariants as kind
use Rattle.x86_grammar.specs.declared.table.Row.{Row}
use Rattle.x86_grammar.specs.Operands.{◌>>=◌, width_of, signed, signed32, unsigned8, unsigned16, row_operands}

-- ---- the operands that an operation has

abbrev pub nothing : Operands → Option (Unit {0})
nothing operands.None = Some tt
nothing _ = None

abbrev pub place_alone : Operands → Option Loc
place_alone (operands.Place a) = Some a
place_alone _ = None

abbrev pub register_alone : Operands → Option ℕ
register_alone (operands.Place (loc.Reg r)) = Some r
register_alone _ = None

abbrev pub memory_alone : Operands → Option Mem
memory_alone (operands.Place (loc.Mem m)) = Some m
memory_alone _ = None

abbrev pub source_alone : Operands → Option Src
source_alone (operands.Place a) = Some (src.Loc a)
source_alone (operands.Immediate i) = Some (src.Imm (signed i))
source_alone _ = None

abbrev pub destination_and_source : Operands → Option (Loc × Src)
destination_and_source (operands.Places a b) = Some (a, src.Loc b)
destination_and_source (operands.PlaceAndImmediate a i) = Some (a, src.Imm (signed i))
destination_and_source _ = None

abbrev pub two_places : Operands → Option (Loc × Loc)
two_places (operands.Places a b) = Some (a, b)
two_places _ = None

abbrev pub register_and_place : Operands → Option (ℕ × Loc)
register_and_place (operands.Places (loc.Reg r) b) = Some (r, b)
register_and_place _ = None

abbrev pub register_and_memory : Operands → Option (ℕ × Mem)
register_and_memory (operands.Places (loc.Reg r) (loc.Mem m)) = Some (r, m)
register_and_memory _ = None

abbrev pub register_place_and_number : Operands → Option (ℕ × Loc × ℤ)
register_place_and_number (operands.PlacesAndImmediate (loc.Reg r) b i) = option_map (λ v. (r, b, v)) (signed32 i)
register_place_and_number _ = None

-- a count of a shift, an unsigned byte
abbrev pub place_and_byte : Operands → Option (Loc × ℕ)
place_and_byte (operands.PlaceAndImmediate a i) = option_map (λ n. (a, n)) (unsigned8 i)
place_and_byte _ = None

-- how far a jump goes from the next instruction on, with its sign
abbrev pub offset_alone : Operands → Option ℤ
offset_alone (operands.Immediate i) = signed32 i
offset_alone _ = None

-- a port or a vector, an unsigned byte
abbrev pub byte_alone : Operands → Option ℕ
byte_alone (operands.Immediate i) = unsigned8 i
byte_alone _ = None

-- how many bytes a RET drops, an unsigned word
abbrev pub word_alone : Operands → Option ℕ
word_alone (operands.Immediate i) = unsigned16 i
word_alone _ = None

-- ---- the operation

-- the condition in the low four bits of an opcode. Source: Intel SDM volume 1, appendix B
unfoldable pub condition_of : ℕ → Option Condition
condition_of byte = slice_get CONDITIONS (byte % 16)

-- the operation of an opcode byte and operands
unfoldable pub op_of : OpKind → ℕ → Operands → Option Op
op_of (kind.Alu k) byte o = option_map (λ (a, b). op.Alu k a b) (destination_and_source o)
op_of kind.Test byte o = option_map (λ (a, b). op.Test a b) (destination_and_source o)
op_of (kind.Unary k) byte o = option_map (λ a. op.Unary k a) (place_alone o)
op_of kind.Inc byte o = option_map (λ a. op.Inc a) (place_alone o)
op_of kind.Dec byte o = option_map (λ a. op.Dec a) (place_alone o)
op_of kind.Imul2 byte o = option_map (λ (r, b). op.Imul2 r b) (register_and_place o)
op_of kind.Imul3 byte o = option_map (λ (r, b, v). op.Imul3 r b v) (register_place_and_number o)
op_of kind.Mov byte o = option_map (λ (a, b). op.Mov a b) (destination_and_source o)
op_of (kind.MovZx w) byte o = option_map (λ (r, b). op.MovZx r w b) (register_and_place o)
op_of (kind.MovSx w) byte o = option_map (λ (r, b). op.MovSx r w b) (register_and_place o)
op_of kind.Lea byte o = option_map (λ (r, m). op.Lea r m) (register_and_memory o)
op_of kind.Xchg byte o = option_map (λ (a, b). op.Xchg a b) (two_places o)
op_of kind.CmpXchg byte o = option_map (λ (a, b). op.CmpXchg a b) (two_places o)
op_of kind.Xadd byte o = option_map (λ (a, b). op.Xadd a b) (two_places o)
op_of (kind.Shift k) byte o = option_map (λ (a, n). op.Shift k a (count.Imm n)) (place_and_byte o)
op_of (kind.ShiftOne k) byte o = option_map (λ a. op.Shift k a (count.Imm 1)) (place_alone o)
op_of (kind.ShiftCl k) byte o = option_map (λ a. op.Shift k a count.Cl) (place_alone o)
op_of (kind.Bit k) byte o = option_map (λ (a, b). op.Bit k a b) (destination_and_source o)
op_of kind.Bsf byte o = option_map (λ (r, b). op.Bsf r b) (register_and_place o)
op_of kind.Bsr byte o = option_map (λ (r, b). op.Bsr r b) (register_and_place o)
op_of kind.Bswap byte o = option_map (λ r. op.Bswap r) (register_alone o)
op_of kind.SetCc byte o = condition_of byte >>= λ c. option_map (λ a. op.SetCc c a) (place_alone o)
op_of kind.CMov byte o = condition_of byte >>= λ c. option_map (λ (r, b). op.CMov c r b) (register_and_place o)
op_of kind.Jcc byte o = condition_of byte >>= λ c. option_map (λ d. op.Jcc c d) (offset_alone o)
op_of kind.Jmp byte o = option_map (λ d. op.Jmp d) (offset_alone o)
op_of kind.Call byte o = option_map (λ d. op.Call d) (offset_alone o)
op_of kind.JmpTo byte o = option_map (λ a. op.JmpTo a) (place_alone o)
op_of kind.CallReg byte o = option_map (λ r. op.CallReg r) (register_alone o)
op_of kind.Ret byte o = option_map (λ _. op.Ret 0) (nothing o)
op_of kind.RetImmediate byte o = option_map (λ n. op.Ret n) (word_alone o)
op_of kind.Push byte o = option_map (λ b. op.Push b) (source_alone o)
op_of kind.Pop byte o = option_map (λ r. op.Pop r) (register_alone o)
op_of kind.Leave byte o = option_map (λ _. op.Leave) (nothing o)
op_of kind.PushF byte o = option_map (λ _. op.PushF) (nothing o)
op_of kind.PopF byte o = option_map (λ _. op.PopF) (nothing o)
op_of kind.Clc byte o = option_map (λ _. op.Clc) (nothing o)
op_of kind.Stc byte o = option_map (λ _. op.Stc) (nothing o)
op_of kind.Cmc byte o = option_map (λ _. op.Cmc) (nothing o)
op_of kind.Cld byte o = option_map (λ _. op.Cld) (nothing o)
op_of kind.Std byte o = option_map (λ _. op.Std) (nothing o)
op_of kind.Int3 byte o = option_map (λ _. op.Int 3) (nothing o)
op_of kind.Hlt byte o = option_map (λ _. op.Hlt) (nothing o)
op_of kind.Sti byte o = option_map (λ _. op.Sti) (nothing o)
op_of kind.Cli byte o = option_map (λ _. op.Cli) (nothing o)
op_of kind.Widen byte o = option_map (λ _. op.Widen) (nothing o)
op_of kind.SignFill byte o = option_map (λ _. op.SignFill) (nothing o)
op_of kind.In byte o = option_map (λ n. op.In (Some n)) (byte_alone o)
op_of kind.Out byte o = option_map (λ n. op.Out (Some n)) (byte_alone o)
op_of kind.InDx byte o = option_map (λ _. op.In None) (nothing o)
op_of kind.OutDx byte o = option_map (λ _. op.Out None) (nothing o)
op_of kind.Int byte o = option_map (λ n. op.Int n) (byte_alone o)
op_of kind.Iret byte o = option_map (λ _. op.Iret) (nothing o)
op_of kind.Ud2 byte o = option_map (λ _. op.Ud2) (nothing o)
op_of kind.Lidt byte o = option_map (λ m. op.Lidt m) (memory_alone o)
op_of kind.Nop byte o = option_map (λ _. op.Nop None) (nothing o)
op_of kind.NopAt byte o = option_map (λ a. op.Nop (Some a)) (place_alone o)
op_of kind.Pause byte o = option_map (λ _. op.Pause) (nothing o)
op_of kind.Endbr byte o = option_map (λ _. op.Endbr) (nothing o)
op_of (kind.Fence m) byte o = option_map (λ _. op.Fence m) (nothing o)

-- ---- the instruction

-- the width of the operand that mod and rm name, which MOVZX, MOVSX and MOVSXD extend
unfoldable pub rm_width : OpKind → Width → Width
rm_width (kind.MovZx from) w = from
rm_width (kind.MovSx from) w = from
rm_width _ w = w

-- the instruction of a row
unfoldable pub meaning : Row → Head → List ℕ → List ℕ → List ℕ → List ℕ → Option Insn
meaning row h modrm sib disp imm =
    let w = width_of row.class h.prefixes h.rex in
    row_operands row w (rm_width row.kind w) h modrm sib disp imm >>= λ o. option_map (λ x. record { lock = h.prefixes.lock; width = w; op = x }) (op_of row.kind h.byte o)
