-- What a row of the table says of prefixes, opcode and ModRM byte.
-- Source: Intel SDM volume 2, sections 2.1 and 2.2 and appendix A.
use Rattle.std.specs.Prelude.{ℕ, ◌+◌, ◌-◌, ◌/◌, ◌%◌, Bool, true, false, not, ◌&&◌, ◌||◌, nat_lt, nat_le, ◌==◌, Option, Some, None, List, [], ◌∷◌, if◌then◌else◌, find}
use Rattle.std.specs.List.{list_any}
use Rattle.x86_grammar.specs.declared.head.Prefixes.{Prefixes}
use Rattle.x86_grammar.specs.declared.head.Rex.{Rex}
use Rattle.x86_grammar.specs.declared.head.Head.{Head}
use Rattle.x86_grammar.specs.declared.table.Map.{Map}
use Rattle.x86_grammar.specs.declared.table.Map.TheVariants.{One, Two}
use Rattle.x86_grammar.specs.declared.table.Slash.{Slash}
use Rattle.x86_grammar.specs.declared.table.Slash.TheVariants as slash
use Rattle.x86_grammar.specs.declared.table.Side.{Side}
use Rattle.x86_grammar.specs.declared.table.Side.TheVariants as side
use Rattle.x86_grammar.specs.declared.table.Class.{Class}
use Rattle.x86_grammar.specs.declared.table.Class.TheVariants as class
use Rattle.x86_grammar.specs.declared.table.Need.{Need}
use Rattle.x86_grammar.specs.declared.table.Need.TheVariants as need
use Rattle.x86_grammar.specs.declared.table.Row.{Row}
use Rattle.x86_grammar.specs.declared.table.TheConstants.{ROWS}
use Rattle.x86_grammar.specs.Fields.{modrm_reg, names_register, names_memory, rex_w, rex_b}

-- a truth that follows from another
abbrev pub implies : Bool → Bool → Bool
implies true b = b
implies false b = true

abbrev pub same_bool : Bool → Bool → Bool
same_bool true b = b
same_bool false b = not b

-- whether they are the same
abbrev pub same_map : Map → Map → Bool
same_map One One = true
same_map One Two = false
same_map Two One = false
same_map Two Two = true

-- each of 66, F0 and F3 at most once
unfoldable pub add_prefix : ℕ → Prefixes → Option Prefixes
add_prefix byte p =
    if byte == 0x66 then (if p.size then None else Some (record p { size = true }))
    else (if byte == 0xF0 then (if p.lock then None else Some (record p { lock = true }))
    else (if byte == 0xF3 then (if p.rep then None else Some (record p { rep = true }))
    else None))

-- a REX byte is 40 to 4F
abbrev pub is_rex : ℕ → Bool
is_rex byte = nat_le 64 byte && nat_lt byte 80

-- its bits, W, R, X, B from 3 down to 0
unfoldable pub rex_of : ℕ → Rex
rex_of byte = record { w = byte / 8 % 2 == 1; r = byte / 4 % 2 == 1; x = byte / 2 % 2 == 1; b = byte % 2 == 1 }

-- whether 66, the operand-size override, may stand
abbrev pub takes_size : Class → Bool
takes_size class.V = true
takes_size class.W = true
takes_size class.N = true
takes_size class.B = false
takes_size class.Q = false
takes_size class.L = false

-- whether a row has what else it needs; the offset is that of the opcode byte in the row's
abbrev pub meets : Need → Option Rex → ℕ → Bool
meets need.None rex offset = true
meets need.Wide rex offset = rex_w rex
meets need.NoB rex offset = not (rex_b rex)
meets need.NotAcc rex offset = rex_b rex || nat_lt 0 offset

-- the row has this opcode, and these prefixes and this REX byte may stand before it
unfoldable pub takes : Row → Head → Bool
takes row h =
    same_map row.map h.map && (nat_le row.byte h.byte && (nat_lt h.byte (row.byte + row.span)
    && (implies h.prefixes.size (takes_size row.class) && (implies h.prefixes.lock row.lock && (same_bool h.prefixes.rep row.rep
    && meets row.need h.rex (h.byte - row.byte))))))

-- F3 stands with neither 66 nor F0
abbrev pub clashes : Prefixes → Bool
clashes p = p.rep && (p.size || p.lock)

-- some row has the opcode
unfoldable pub any_row : Head → Bool
any_row h = list_any (λ row. takes row h) ROWS

-- whether a ModRM byte stands behind the opcode
abbrev pub has_modrm : Slash → Bool
has_modrm slash.None = false
has_modrm slash.Any = true
has_modrm (slash.Digit d) = true
has_modrm (slash.Byte b) = true

-- its reg field is the row's digit, or the byte is the row's
abbrev pub fits_slash : Slash → ℕ → Bool
fits_slash slash.None m = false
fits_slash slash.Any m = true
fits_slash (slash.Digit d) m = modrm_reg m == d
fits_slash (slash.Byte b) m = m == b

-- its operand is where the row's may be
abbrev pub fits_side : Side → ℕ → Bool
fits_side side.Any m = true
fits_side side.Mem m = names_memory m
fits_side side.Reg m = names_register m

-- the row has this opcode, and these bytes, none or one, for its ModRM byte; F0 stands only before memory
unfoldable pub fits : Row → Head → List ℕ → Bool
fits row h [] = takes row h && not (has_modrm row.slash)
fits row h (m ∷ n ∷ ms) = false
fits row h (m ∷ []) = takes row h && (fits_slash row.slash m && (fits_side row.side m && implies h.prefixes.lock (names_memory m)))

-- the row of an opcode and a ModRM byte
unfoldable pub row_for : Head → List ℕ → Option Row
row_for h ms = find (λ row. fits row h ms) ROWS

-- before the first prefix
abbrev pub no_prefix : Prefixes
no_prefix = record { size = false; lock = false; rep = false }
