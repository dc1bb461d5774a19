-- The I/O APIC: the selected index, the ID and the pins. Source: Intel's 82093AA data sheet and bhyve's vioapic.c.
use Rattle.std.specs.Prelude.{◌≡◌, ℕ, ◌*◌, ◌/◌, ◌%◌, ◌^◌, ◌<◌, Bool, false, ◌&&◌, List, map, filter, filter_map, length, replicate, slice_index_or, slice_set, Option, None}
use Rattle.std.specs.FinSet as set
use Rattle.vm_law.specs.declared.message.Message.{Message}
use Rattle.vm_vectors.specs.Vectors.{Vectors}
use Rattle.vm_ioapic.specs.Entry.{high_half, low_half, with_high, with_low, routes, destination_of, is_target}
use Rattle.vm_ioapic.specs.Pin as pin
use Rattle.vm_ioapic.specs.Register.{register_at}
use Rattle.vm_ioapic.specs.declared.change.RteChange.{RteChange}
use Rattle.vm_ioapic.specs.declared.entry.Redirection.{Redirection}
use Rattle.vm_ioapic.specs.declared.pin.Pin.{Pin}
use Rattle.vm_ioapic.specs.declared.register.Register.{Register}
use Rattle.vm_ioapic.specs.declared.register.Register.TheVariants.{Select, Id, Version, Low, High, Nothing}

pub record Chip : Type 0 where
  pub select : ℕ
  pub id : ℕ
  pub pins : List Pin

abbrev pub at_start : Chip
at_start = record { select = 0; id = 0; pins = replicate 32 pin.pin_at_start }

-- the pin of a number below 32
abbrev pub pin_at : Chip → ℕ → Pin
pin_at c n = slice_index_or c.pins n pin.pin_at_start

abbrev pub with_pin : Chip → ℕ → Pin → Chip
with_pin c n p = record c { pins = slice_set c.pins n p }

-- a pin is asserted once more; its message, if it sends
abbrev pub raised : Chip → ℕ → Chip
raised c n = with_pin c n (pin.raised (pin_at c n))

abbrev pub raise_message : Chip → ℕ → Option Message
raise_message c n = pin.message_if (pin.raise_sends (pin_at c n)) (pin_at c n)

-- a pin is asserted once less
abbrev pub lowered : Chip → ℕ → Chip
lowered c n = with_pin c n (pin.lowered (pin_at c n))

-- an EOI of vector v reaches every pin; the messages go out by ascending pin
abbrev pub after_eoi : Chip → ℕ → Chip
after_eoi c v = record c { pins = map (pin.after_eoi v) c.pins }

abbrev pub eoi_messages : Chip → ℕ → List Message
eoi_messages c v = filter_map (pin.eoi_message v) c.pins

-- the register at an offset of the window
abbrev pub selected : Chip → ℕ → Register
selected c offset = register_at c.select offset

-- what a read gives
abbrev pub value_read : Chip → Register → ℕ
value_read c Select = c.select
value_read c Id = 2 ^ 24 * c.id
value_read c Version = 0x001F0011
value_read c (Low n) = low_half (pin_at c n).entry (pin_at c n).remote_irr
value_read c (High n) = high_half (pin_at c n).entry
value_read c Nothing = 0

-- the entry that a write makes, where it writes a half of one
abbrev pub entry_written : Chip → ℕ → (Redirection → ℕ → Redirection) → ℕ → Redirection
entry_written c n with_half value = with_half (pin_at c n).entry value

-- after a write
abbrev pub after_write : Chip → Register → ℕ → Chip
after_write c Select value = record c { select = value % 2 ^ 8 }
after_write c Id value = record c { id = value / 2 ^ 24 % 16 }
after_write c Version value = c
after_write c (Low n) value = with_pin c n (pin.after_write (pin_at c n) (entry_written c n with_low value))
after_write c (High n) value = with_pin c n (pin.after_write (pin_at c n) (entry_written c n with_high value))
after_write c Nothing value = c

-- what follows from an entry in place of another: whether the routing changes, and the pin's message
abbrev pub change_to : Pin → Redirection → RteChange
change_to p e = record { routing = routes p.entry e; message = pin.write_message p e }

abbrev pub no_change : RteChange
no_change = record { routing = false; message = None }

-- what follows from a write
abbrev pub change : Chip → Register → ℕ → RteChange
change c (Low n) value = change_to (pin_at c n) (entry_written c n with_low value)
change c (High n) value = change_to (pin_at c n) (entry_written c n with_high value)
change c _ value = no_change

-- a level entry, masked or not, whose targets hold the vCPU
unfoldable pub is_level_for : ℕ → ℕ → Pin → Bool
is_level_for cpu cpus p = p.entry.level && is_target (destination_of p.entry) cpu cpus

-- the vectors of those entries
abbrev pub vectors_of : List Pin → ℕ → ℕ → Vectors
vectors_of pins cpu cpus = set.from_list (map (λ p. p.entry.vector) (filter (is_level_for cpu cpus) pins))

abbrev pub tmr : Chip → ℕ → ℕ → Vectors
tmr c cpu cpus = vectors_of c.pins cpu cpus

-- every pin is in order
abbrev pub EachPin : List Pin → Type 0
EachPin pins = (n : ℕ) → pin.IsPin (slice_index_or pins n pin.pin_at_start)

-- an I/O APIC: the ID has four bits, and there are 32 pins, each in order
pub record IsChip (c : Chip) : Type 0 where
  pub id : c.id < 16
  pub long : length c.pins ≡ 32
  pub each : EachPin c.pins
