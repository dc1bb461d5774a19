-- Sets of vectors as four words of 64 bits.
use Rattle.std.specs.Prelude.{ℕ, ◌/◌, ◌%◌, ◌≡◌, ◌<◌, Bool, true, false, List, map, ◌==◌, slice_index}
use Rattle.std.specs.List.{range_with_len}
use Rattle.std.specs.Int.{bit_at}
use Rattle.vm_law.specs.BitSet.{set_of}
use Rattle.vm_vectors.specs.Vectors.{Vectors}

-- the bit of a vector: v % 64 of word v / 64
abbrev pub bit_in : List ℕ → ℕ → Bool
bit_in words v = bit_at (slice_index words (v / 64)) (v % 64) == 1

-- the vectors whose bits are set
unfoldable pub set_in : List ℕ → Vectors
set_in words = set_of (map (bit_in words) (range_with_len 0 256))

-- the bit of v is set, and none above it
pub record IsTop (words : List ℕ) (v : ℕ) : Type 0 where
  pub is_set : bit_in words v ≡ true
  pub above : (w : ℕ) → v < w → bit_in words w ≡ false
