-- What an operand is to an instruction: a place, a register, a number, a label, a port.
use Rattle.std.specs.Prelude.{◌==◌, ℕ, ℤ, Bool, true, false, Option, Some, None, option_map, if◌then◌else◌}
use Rattle.vm_law.specs.declared.insn.Width.{Width}
use Rattle.vm_law.specs.declared.insn.Width.TheVariants as width
use Rattle.vm_law.specs.declared.insn.Loc.{Loc}
use Rattle.vm_law.specs.declared.insn.Loc.TheVariants as loc
use Rattle.vm_law.specs.declared.insn.Src.{Src}
use Rattle.vm_law.specs.declared.insn.Src.TheVariants as src
use Rattle.vm_law.specs.declared.insn.Count.{Count}
use Rattle.vm_law.specs.declared.insn.Count.TheVariants as count
use Rattle.vm_law.specs.declared.insn.Op.{Op}
use Rattle.x86_grammar.specs.Operands.{◌>>=◌}
use Rattle.asm_insn.specs.declared.argument.Argument.{Argument}
use Rattle.asm_insn.specs.declared.argument.Argument.TheVariants.{Place, Number, Label, Distance}
use Rattle.asm_words.specs.Number.{bits_in, signed_in, signed32_in}

-- a place with its width
abbrev pub place_in : Argument → Option (Width × Loc)
place_in (Place w l) = Some (w, l)
place_in _ = None

-- a register by its number, but for AH, CH, DH and BH
abbrev pub register_in : Argument → Option (Width × ℕ)
register_in (Place w (loc.Reg r)) = Some (w, r)
register_in _ = None

abbrev pub same_width : Width → Width → Bool
same_width width.B width.B = true
same_width width.W width.W = true
same_width width.D width.D = true
same_width width.Q width.Q = true
same_width _ _ = false

-- two places of one width
abbrev pub pair_of : Argument → Argument → Option (Width × Loc × Loc)
pair_of a b = place_in a >>= λ p. place_in b >>= λ q. if same_width p.0 q.0 then Some (p.0, p.1, q.1) else None

-- a register, and a place of its width
abbrev pub into_register : Argument → Argument → Option (Width × ℕ × Loc)
into_register a b = register_in a >>= λ p. place_in b >>= λ q. if same_width p.0 q.0 then Some (p.0, p.1, q.1) else None

-- a number or a label
abbrev pub immediate_in : Argument → Option ℤ
immediate_in (Number n) = Some n
immediate_in (Label n) = Some n
immediate_in _ = None

-- where a jump goes: a label or a distance
abbrev pub target_in : Argument → Option ℤ
target_in (Label n) = Some (signed32_in width.D n)
target_in (Distance n) = Some (signed32_in width.D n)
target_in _ = None

abbrev pub source_at : Width → Option (Width × Loc) → Option Src
source_at w None = None
source_at w (Some (v, l)) = if same_width v w then Some (src.Loc l) else None

abbrev pub immediate_or : Width → Option ℤ → Option Src → Option Src
immediate_or w None other = other
immediate_or w (Some n) other = Some (src.Imm (signed_in w n))

-- a source of an operation of the width
abbrev pub source_in : Width → Argument → Option Src
source_in w a = immediate_or w (immediate_in a) (source_at w (place_in a))

-- a destination, and a source of its width
abbrev pub operands_in : Argument → Argument → Option (Width × Loc × Src)
operands_in a b = place_in a >>= λ p. option_map (λ s. (p.0, p.1, s)) (source_in p.0 b)

-- how far a shift goes: a number, or CL
abbrev pub count_in : Argument → Option Count
count_in (Number n) = Some (count.Imm (bits_in width.B n))
count_in (Place width.B (loc.Reg r)) = if r == 1 then Some count.Cl else None
count_in _ = None

-- a port: a number, or DX
abbrev pub port_in : Argument → Option (Option ℕ)
port_in (Number n) = Some (Some (bits_in width.B n))
port_in (Place width.W (loc.Reg r)) = if r == 2 then Some None else None
port_in _ = None

-- the width of the accumulator
abbrev pub accumulator_in : Argument → Option Width
accumulator_in (Place w (loc.Reg r)) = if r == 0 then Some w else None
accumulator_in _ = None

abbrev pub Named : Type 0
Named = Option (Width × Op)
