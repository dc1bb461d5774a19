-- Names of the parts of PCI devices: pci.B.S.F.PART.
use Rattle.std.specs.Prelude.{◌+◌, ◌*◌, ◌++◌, ℕ, List, Option, Some, None, option_and_then, codes, decimal, if◌then◌else◌}
use Rattle.std.specs.Str.{bytes_eq}
use Rattle.std.specs.Borrow.{Bor}
use Rattle.text_reader.specs.Word.{cut_at}
use Rattle.cfg_vm.specs.declared.slot.Slot.{Slot}
use Rattle.cfg_vm.specs.Number.{slot_number}

infixl 10 ◌>>=◌
abbrev pub ◌>>=◌ : {A B : Type 0} → Option A → (A → Option B) → Option B
o >>= f = option_and_then f o

-- by bus, then by slot, then by function
abbrev pub place : Slot → ℕ
place s = s.bus * 256 + s.slot * 8 + s.function

-- the four parts behind `pci.` (46 is the dot)
abbrev pub parts_of : List ℕ → Option (Slot × List ℕ)
parts_of text = do
  b ← cut_at 46 text
  s ← cut_at 46 b.1
  f ← cut_at 46 s.1
  bus ← slot_number 255 b.0
  slot ← slot_number 31 s.0
  function ← slot_number 7 f.0
  Some (record { bus = bus; slot = slot; function = function }, f.1)

abbrev pub slot_of : List ℕ → Option (Slot × List ℕ)
slot_of name = do
  p ← cut_at 46 name
  if bytes_eq p.0 (codes "pci") then parts_of p.1 else None

abbrev pub seen : Slot × Bor (List ℕ) → Slot × List ℕ
seen p = (p.0, p.1.now)

abbrev pub slot_name : Slot → List ℕ → List ℕ
slot_name s part = codes "pci." ++ (decimal s.bus ++ (codes "." ++ (decimal s.slot ++ (codes "." ++ (decimal s.function ++ (codes "." ++ part))))))
