-- Where the three tables of a split virtqueue may lie.
-- Source: OASIS virtio 1.2, section 2.7 (the alignment and size of each part).
use Rattle.std.specs.Prelude.{ℕ, ◌+◌, ◌*◌, ◌%◌, Bool, ◌&&◌, ◌||◌, ◌==◌, nat_le, length}
use Rattle.vm_law.specs.Memory.{Memory}
use Rattle.vq_ring.specs.declared.ring.Ring.{Ring}

-- the queue size is a power of 2; this device takes up to 128
abbrev pub is_size : ℕ → Bool
is_size n = n == 1 || n == 2 || n == 4 || n == 8 || n == 16 || n == 32 || n == 64 || n == 128

-- a table of len bytes is aligned, and lies wholly in RAM above the code
abbrev pub lies_well : ℕ → ℕ → ℕ → ℕ → ℕ → Bool
lies_well code ram at len align = (at % align == 0) && nat_le code at && nat_le (at + len) ram

-- the descriptor table, the available ring and the used ring lie well
unfoldable pub ring_ok : Ring → ℕ → ℕ → Bool
ring_ok r code ram =
    is_size r.size
    && lies_well code ram r.desc (16 * r.size) 16
    && lies_well code ram r.avail (6 + 2 * r.size) 2
    && lies_well code ram r.used (6 + 8 * r.size) 4

-- over these bytes
abbrev pub lies_in : Ring → Memory → Bool
lies_in r m = ring_ok r m.code (length m.bytes)
