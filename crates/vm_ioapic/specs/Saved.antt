-- The I/O APIC's state as it is stored.
use Rattle.std.specs.Prelude.{◌≡◌, ℕ, ◌+◌, ◌*◌, ◌/◌, ◌%◌, ◌^◌, ◌<◌, false, IsTrue, List, map, slice_index}
use Rattle.std.specs.List.{range_with_len}
use Rattle.vm_law.specs.declared.chips.IoapicState.{IoapicState}
use Rattle.vm_ioapic.specs.Entry.{bit, high_half, low_half, masked_entry, with_high, with_low}
use Rattle.vm_ioapic.specs.Ioapic.{Chip}
use Rattle.vm_ioapic.specs.declared.pin.Pin.{Pin}

-- an entry with its remote IRR, as one word of both halves
abbrev pub word_of : Pin → ℕ
word_of p = low_half p.entry p.remote_irr + 2 ^ 32 * high_half p.entry

-- the pin of a word and a count
abbrev pub pin_of : ℕ → ℕ → Pin
pin_of word count = record { entry = with_high (with_low masked_entry (word % 2 ^ 32)) (word / 2 ^ 32); count = count; remote_irr = bit (word % 2 ^ 32) 14 }

-- the state of a chip, field by field; the ID is in bits 24 to 27
abbrev pub state_of : Chip → IoapicState
state_of c = record { select = c.select; id = 2 ^ 24 * c.id; entries = map word_of c.pins; counts = map (λ (p : Pin). p.count) c.pins }

-- the pins of 32 words and counts
unfoldable pub pins_of : List ℕ → List ℕ → List Pin
pins_of words counts = map (λ n. pin_of (slice_index words n) (slice_index counts n)) (range_with_len 0 32)

-- the chip that has this state
abbrev pub chip_of : IoapicState → Chip
chip_of s = record { select = s.select; id = s.id / 2 ^ 24; pins = pins_of s.entries s.counts }

-- only bits are set that an entry has: 0 to 11, 13 to 16 and 56 to 63; and remote IRR only where it is level
pub record IsEntry (word : ℕ) : Type 0 where
  pub status : bit word 12 ≡ false
  pub unused : word / 2 ^ 17 % 2 ^ 39 ≡ 0
  pub remote : IsTrue (bit word 14) → IsTrue (bit word 15)

-- a state that a chip can have: of the ID only bits 24 to 27 are set, and each entry is one
pub record IsSaved (s : IoapicState) : Type 0 where
  pub id : s.id ≡ 2 ^ 24 * (s.id / 2 ^ 24)
  pub id_small : s.id < 2 ^ 28
  pub entries : (n : ℕ) → n < 32 → IsEntry (slice_index s.entries n)
