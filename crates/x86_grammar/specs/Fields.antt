-- The fields of the ModR/M and SIB bytes, and the bits of REX.
-- Source: Intel SDM volume 2, sections 2.1.3 and 2.2.1, figure 2-1 and table 2-4.
use Rattle.std.specs.Prelude.{ℕ, ◌+◌, ◌/◌, ◌%◌, Bool, true, false, not, ◌==◌, Option, Some, None}
use Rattle.x86_grammar.specs.declared.head.Rex.{Rex}

-- ---- ModR/M: mod in bits 7 and 6, reg in bits 5 to 3, rm in bits 2 to 0

abbrev pub modrm_mod : ℕ → ℕ
modrm_mod m = m / 64

abbrev pub modrm_reg : ℕ → ℕ
modrm_reg m = m / 8 % 8

abbrev pub modrm_rm : ℕ → ℕ
modrm_rm m = m % 8

-- with mod 3 the operand is in a register, and else in memory
abbrev pub names_register : ℕ → Bool
names_register m = modrm_mod m == 3

abbrev pub names_memory : ℕ → Bool
names_memory m = not (names_register m)

-- ---- SIB: scale in bits 7 and 6, index in bits 5 to 3, base in bits 2 to 0

abbrev pub sib_scale : ℕ → ℕ
sib_scale s = s / 64

abbrev pub sib_index : ℕ → ℕ
sib_index s = s / 8 % 8

abbrev pub sib_base : ℕ → ℕ
sib_base s = s % 8

-- ---- REX: W, R, X and B in bits 3 to 0, each 0 where there is no REX byte

abbrev pub rex_w : Option Rex → Bool
rex_w None = false
rex_w (Some r) = r.w

abbrev pub rex_r : Option Rex → Bool
rex_r None = false
rex_r (Some r) = r.r

abbrev pub rex_x : Option Rex → Bool
rex_x None = false
rex_x (Some r) = r.x

abbrev pub rex_b : Option Rex → Bool
rex_b None = false
rex_b (Some r) = r.b

abbrev pub eight_if : Bool → ℕ
eight_if true = 8
eight_if false = 0

-- a register's number: a bit of REX above the three bits of a field
abbrev pub extended : Bool → ℕ → ℕ
extended bit field = field + eight_if bit
