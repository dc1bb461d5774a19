-- The plain form of a place in memory: no SIB byte without need, the displacement in the fewest bytes.
-- Source: Intel SDM volume 2, section 2.1.5.
use Rattle.std.specs.Prelude.{ℕ, ◌+◌, ◌*◌, ◌%◌, ℤ, pos, negsuc, Bool, true, false, ◌&&◌, nat_lt, nat_le, ◌==◌, Option, Some, None, List, [], ◌∷◌, if◌then◌else◌}
use Rattle.std.specs.Int.{w32, cast_unsigned, to_le_bytes}
use Rattle.vm_law.specs.declared.insn.Mem.{Mem}
use Rattle.std.specs.Prelude.{not}

-- the ModRM byte without its middle field, the SIB byte, the displacement, and REX.X and REX.B
pub record Place : Type 0 where
  pub mode : ℕ
  pub sib : List ℕ
  pub disp : List ℕ
  pub x : Bool
  pub b : Bool

abbrev pub is_none : ℤ → Bool
is_none (pos n) = n == 0
is_none (negsuc n) = false

abbrev pub is_byte : ℤ → Bool
is_byte (pos n) = nat_lt n 128
is_byte (negsuc n) = nat_lt n 128

abbrev pub disp8 : ℤ → List ℕ
disp8 d = (cast_unsigned w32 d % 256) ∷ []

abbrev pub disp32 : ℤ → List ℕ
disp32 d = to_le_bytes w32 (cast_unsigned w32 d)

-- whether no displacement is written; a base of field 5 has one
abbrev pub fits_none : Bool → ℕ → ℤ → Bool
fits_none long low d = not long && (is_none d && not (low == 5))

-- whether one byte of displacement serves
abbrev pub fits_byte : Bool → ℤ → Bool
fits_byte long d = not long && is_byte d

-- the displacement of the fewest bytes, or a long one, with its mode
unfoldable pub fewest_mode : Bool → ℕ → ℤ → ℕ
fewest_mode long low d = if fits_none long low d then 0 else (if fits_byte long d then 64 else 128)

unfoldable pub fewest_bytes : Bool → ℕ → ℤ → List ℕ
fewest_bytes long low d = if fits_none long low d then [] else (if fits_byte long d then disp8 d else disp32 d)

-- two bits for the scale
abbrev pub scale_bits : ℕ → ℕ
scale_bits n = if n == 1 then 0 else (if n == 2 then 64 else (if n == 4 then 128 else 192))

unfoldable pub no_index : Bool → Option ℕ → Bool → ℤ → Place
no_index long None true d = record { mode = 5; sib = []; disp = disp32 d; x = false; b = false }
no_index long None false d = record { mode = 4; sib = 37 ∷ []; disp = disp32 d; x = false; b = false }
no_index long (Some base) rip d =
    if base % 8 == 4 then record { mode = fewest_mode long (base % 8) d + 4; sib = 36 ∷ []; disp = fewest_bytes long (base % 8) d; x = false; b = nat_le 8 base }
    else record { mode = fewest_mode long (base % 8) d + base % 8; sib = []; disp = fewest_bytes long (base % 8) d; x = false; b = nat_le 8 base }

unfoldable pub with_index : Bool → Option ℕ → ℕ → ℕ → ℤ → Place
with_index long None index scale d = record { mode = 4; sib = (scale_bits scale + 8 * (index % 8) + 5) ∷ []; disp = disp32 d; x = nat_le 8 index; b = false }
with_index long (Some base) index scale d = record { mode = fewest_mode long (base % 8) d + 4; sib = (scale_bits scale + 8 * (index % 8) + base % 8) ∷ []; disp = fewest_bytes long (base % 8) d; x = nat_le 8 index; b = nat_le 8 base }

abbrev pub place_at : Bool → Option ℕ → Option ℕ → Bool → ℕ → ℤ → Place
place_at long None base rip scale d = no_index long base rip d
place_at long (Some i) base rip scale d = with_index long base i scale d

abbrev pub place_of : Bool → Mem → Place
place_of long m = place_at long m.index m.base m.rip m.scale m.disp
