-- The used ring. m is guest memory, and r a queue whose tables lie in it.
-- Source: OASIS virtio 1.2, section 2.7.8 (the used ring), and 2.7.7 (the flag that suppresses interrupts).
use Rattle.std.specs.Prelude.{ℕ, ◌+◌, ◌*◌, ◌%◌, ◌^◌, List, ◌++◌, Bool, not}
use Rattle.byteorder.specs.Endian.{little_bytes}
use Rattle.vm_law.specs.Memory.{Memory, written}
use Rattle.vq_ring.specs.declared.ring.Ring.{Ring}
use Rattle.vq_ring.specs.Chain.{avail_flags, has}

-- where the element of the chain number `used` stands
abbrev pub used_entry : Ring → ℕ → ℕ
used_entry r used = r.used + 4 + 8 * (used % r.size)

-- an element: the head of a chain, and how many bytes were written into its buffers
abbrev pub used_element : ℕ → ℕ → List ℕ
used_element head len = little_bytes 4 head ++ little_bytes 4 len

-- memory with one more used chain: its element is written first, and then the index behind it
unfoldable pub with_used : Memory → Ring → ℕ → ℕ → ℕ → Memory
with_used m r used head len = written (written m (used_entry r used) (used_element head len)) (r.used + 2) (little_bytes 2 ((used + 1) % 2 ^ 16))

-- the driver has not set the flag NO_INTERRUPT of the available ring
abbrev pub wants_interrupt : Memory → Ring → Bool
wants_interrupt m r = not (has (avail_flags m r) 1)
