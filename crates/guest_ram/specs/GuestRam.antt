-- Guest memory: what it holds at its start, what is true of it at all times, and what no write changes.
use Rattle.std.specs.Prelude.{◌≡◌, ℕ, ◌+◌, ◌-◌, ◌/◌, ◌%◌, ◌<◌, ◌≤◌, ◌⊎◌, ◌↔◌, Bool, false, IsTrue, List, ◌++◌, length, replicate, slice_index, slice_index_or}
use Rattle.vm_law.specs.Memory.{Memory, KeepsCode, KeepsSize, written}
use Rattle.vm_law.specs.declared.image.FlatImage.{FlatImage}

-- guest memory: its bytes and code length; for each page from 0 on whether it stands; for how many more there is room
pub record Ram : Type 0 where
  pub memory : Memory
  pub standing : List Bool
  pub spare : ℕ

-- a memory of so many bytes in which the image is loaded: the payload from address 0 on, and zeros behind it
abbrev pub loaded : ℕ → FlatImage → Memory
loaded size image = record { bytes = image.payload ++ replicate (size - length image.payload) 0; code = image.code }

-- a guest has from 1 MiB to 1 GiB of memory, in whole pages of 4,096 bytes
pub record IsSize (size : ℕ) : Type 0 where
  pub least : 1048576 ≤ size
  pub most : size ≤ 1073741824
  pub whole : size % 4096 ≡ 0

-- what holds of each guest memory: a guest may have so many bytes, and the code lies in them
pub record IsSound (m : Memory) : Type 0 where
  pub size : IsSize (length m.bytes)
  pub code : m.code ≤ length m.bytes

-- a page that does not stand reads as zeros
abbrev pub AbsentAreZero : Ram → Type 0
AbsentAreZero r = (at : ℕ) → slice_index_or r.standing (at / 4096) false ≡ false → slice_index r.memory.bytes at ≡ 0

-- the page holds one of the n bytes from an address on
abbrev pub Holds : ℕ → ℕ → ℕ → Type 0
Holds page at n = (k : ℕ) × (k < n) × ((at + k) / 4096 ≡ page)

-- those pages stand that stood before, those that hold one of the n bytes from an address on, and no others
pub record Stand (old new : List Bool) (at n : ℕ) : Type 0 where
  pub count : length new ≡ length old
  pub pages : (page : ℕ) → page < length old
      → IsTrue (slice_index_or new page false) ↔ (IsTrue (slice_index_or old page false) ⊎ Holds page at n)

-- a write inside the memory leaves how many bytes there are and how many of them are code
abbrev pub WritesKeepSize : Type 0
WritesKeepSize = (m : Memory) (at : ℕ) (piece : List ℕ) → at + length piece ≤ length m.bytes → KeepsSize m (written m at piece)

-- a write inside the memory and above its code leaves the code part too
abbrev pub WritesKeepCode : Type 0
WritesKeepCode = (m : Memory) (at : ℕ) (piece : List ℕ) → m.code ≤ at → at + length piece ≤ length m.bytes
    → KeepsCode m (written m at piece)
