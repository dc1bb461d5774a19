-- Where and why bytes are no file of a flat image: the first place, by the order of the kinds.
use Rattle.std.specs.Prelude.{◌≡◌, ℕ, ◌-◌, ◌<◌, ◌↔◌, nat_eq, nat_lt, nat_le, ◌==◌, Bool, ◌||◌, if◌then◌else◌, List, length, drop, slice_index, Option, Some, None}
use Rattle.std.specs.List.{common_prefix_len}
use Rattle.byteorder.specs.Endian.{little_number}
use Rattle.vm_law.specs.Image.{IsImage, magic}
use Rattle.vm_law.specs.declared.image.FlatImage.{FlatImage}
use Rattle.vm_image.specs.declared.error.ImageKind.{ImageKind}
use Rattle.vm_image.specs.declared.error.ImageKind.TheVariants.{Magic, Short, Code, Entry, Large}

-- how many bytes of the magic the file begins with, before one is missing or differs
abbrev pub magic_begun : List ℕ → ℕ
magic_begun bytes = common_prefix_len nat_eq magic bytes

-- bytes 8 to 15
abbrev pub entry_in : List ℕ → ℕ
entry_in bytes = little_number 8 (drop 8 bytes)

-- bytes 16 to 23
abbrev pub code_in : List ℕ → ℕ
code_in bytes = little_number 8 (drop 16 bytes)

-- how many bytes stand behind the header of 24
abbrev pub payload_size : List ℕ → ℕ
payload_size bytes = length bytes - 24

-- no code, more than 16 MiB of it, or more than there is payload
abbrev pub is_bad_code : ℕ → ℕ → Bool
is_bad_code code payload = code == 0 || nat_lt 16777216 code || nat_lt payload code

unfoldable pub first_fault : ℕ → List ℕ → Option (ℕ × ImageKind)
first_fault memory bytes =
    if nat_lt (magic_begun bytes) 8 then Some (magic_begun bytes, Magic)
    else if nat_lt (length bytes) 24 then Some (length bytes, Short)
    else if is_bad_code (code_in bytes) (payload_size bytes) then Some (16, Code)
    else if nat_le (code_in bytes) (entry_in bytes) then Some (8, Entry)
    else if nat_lt memory (payload_size bytes) then Some (24, Large)
    else None

-- bytes have no fault exactly where they are the file of an image that the memory allows
abbrev pub FaultsAreAll : Type 0
FaultsAreAll = (memory : ℕ) (bytes : List ℕ) → ((k : ℕ) → slice_index bytes k < 256)
    → (first_fault memory bytes ≡ None) ↔ ((f : FlatImage) × IsImage memory bytes f)
