-- Flat images: their files, and which of them a memory allows.
use Rattle.std.specs.Prelude.{◌≡◌, ℕ, ◌<◌, ◌≤◌, List, [], ◌∷◌, ◌++◌, length, take}
use Rattle.byteorder.specs.Endian.{little_bytes}
use Rattle.vm_law.specs.declared.image.FlatImage.{FlatImage}

-- VMFLAT1 and a line feed
abbrev pub magic : List ℕ
magic = 0x56 ∷ 0x4D ∷ 0x46 ∷ 0x4C ∷ 0x41 ∷ 0x54 ∷ 0x31 ∷ 0x0A ∷ []

-- the bytes of an image's file: magic, entry, length of the code part, payload
abbrev pub image_bytes : FlatImage → List ℕ
image_bytes f = magic ++ (little_bytes 8 f.entry ++ (little_bytes 8 f.code ++ f.payload))

-- the code part
abbrev pub code_part : FlatImage → List ℕ
code_part f = take f.code f.payload

-- a memory of so many bytes allows the image
pub record IsAllowed (memory : ℕ) (f : FlatImage) : Type 0 where
  pub some_code : 0 < f.code
  pub small_code : f.code ≤ 16777216
  pub within : f.code ≤ length f.payload
  pub entry : f.entry < f.code
  pub fits : length f.payload ≤ memory

-- the bytes are the file of an image, which the memory allows
pub record IsImage (memory : ℕ) (bytes : List ℕ) (f : FlatImage) : Type 0 where
  pub spelled : bytes ≡ image_bytes f
  pub allowed : IsAllowed memory f
