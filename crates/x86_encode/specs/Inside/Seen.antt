-- What the code's records of a place and of a spelling's parts stand for.
use Rattle.std.specs.Prelude.{ℕ, ℤ, Option, Some, None, List, [], ◌∷◌}
use Rattle.x86_encode.specs.declared.place.Written.{Written}
use Rattle.x86_encode.specs.declared.place.Size.{Size}
use Rattle.x86_encode.specs.declared.place.Size.TheVariants as size
use Rattle.x86_encode.specs.declared.plain.Spelling.{Spelling}
use Rattle.x86_encode.specs.Inside.Place.{Place, disp8, disp32}
use Rattle.x86_encode.specs.Inside.Plain.{Parts}

abbrev pub one_or_none : Option ℕ → List ℕ
one_or_none None = []
one_or_none (Some b) = b ∷ []

abbrev pub disp_bytes : Size → ℤ → List ℕ
disp_bytes size.None d = []
disp_bytes size.Byte d = disp8 d
disp_bytes size.Long d = disp32 d

abbrev pub seen : Written → Place
seen w = record { mode = w.mode; sib = one_or_none w.sib; disp = disp_bytes w.size w.disp; x = w.x; b = w.b }

abbrev pub parts_of : Spelling → Parts
parts_of s = record { head = s.head; modrm = s.modrm.items; sib = s.sib.items; disp = s.disp.items; imm = s.imm.items }
