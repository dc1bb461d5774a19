-- An input pin: its entry, how often it is asserted, and remote IRR, which is set while a level interrupt waits for
-- its EOI. Source: Intel's 82093AA data sheet, section 3.2.4, and bhyve's vioapic.c.
use Rattle.std.specs.Prelude.{ℕ, ◌+◌, ◌-◌, ◌<◌, Bool, true, false, not, ◌&&◌, ◌==◌, nat_lt, if◌then◌else◌, IsTrue, Option, Some, None}
use Rattle.vm_law.specs.declared.message.Message.{Message}
use Rattle.vm_ioapic.specs.Entry.{masked_entry, message_of}
use Rattle.vm_ioapic.specs.declared.entry.Redirection.{Redirection}
use Rattle.vm_ioapic.specs.declared.pin.Pin.{Pin}

-- a pin at reset
abbrev pub pin_at_start : Pin
pin_at_start = record { entry = masked_entry; count = 0; remote_irr = false }

-- the message if the pin sends
abbrev pub message_if : Bool → Pin → Option Message
message_if b p = if b then Some (message_of p.entry) else None

-- a pin that sent: a level interrupt waits for its EOI
abbrev pub sent_if : Bool → Pin → Pin
sent_if b p = if b && p.entry.level then record p { remote_irr = true } else p

-- it isn't masked, and no level interrupt of it waits for its EOI
abbrev pub is_open : Pin → Bool
is_open p = not p.entry.masked && not (p.entry.level && p.remote_irr)

-- it is level, asserted and open
abbrev pub is_due : Pin → Bool
is_due p = p.entry.level && nat_lt 0 p.count && is_open p

-- asserting a pin once more: it sends where it wasn't asserted and is open, so a masked edge is lost
abbrev pub raise_sends : Pin → Bool
raise_sends p = p.count == 0 && is_open p

unfoldable pub raised : Pin → Pin
raised p = sent_if (raise_sends p) (record p { count = p.count + 1 })

-- asserting it once less
unfoldable pub lowered : Pin → Pin
lowered p = record p { count = p.count - 1 }

-- an EOI of vector v is for a level pin of this vector whose interrupt waits for it
abbrev pub is_ended : ℕ → Pin → Bool
is_ended v p = p.entry.level && p.remote_irr && p.entry.vector == v

-- it ends that interrupt, and the pin sends again where it is still asserted and not masked
abbrev pub ended : ℕ → Pin → Pin
ended v p = if is_ended v p then record p { remote_irr = false } else p

abbrev pub eoi_sends : ℕ → Pin → Bool
eoi_sends v p = is_ended v p && is_due (ended v p)

unfoldable pub after_eoi : ℕ → Pin → Pin
after_eoi v p = sent_if (eoi_sends v p) (ended v p)

unfoldable pub eoi_message : ℕ → Pin → Option Message
eoi_message v p = message_if (eoi_sends v p) p

-- the pin with another entry: an edge entry has no remote IRR
abbrev pub with_entry : Pin → Redirection → Pin
with_entry p e = record p { entry = e; remote_irr = e.level && p.remote_irr }

-- after its entry was written: a level pin that is due sends
unfoldable pub after_write : Pin → Redirection → Pin
after_write p e = sent_if (is_due (with_entry p e)) (with_entry p e)

unfoldable pub write_message : Pin → Redirection → Option Message
write_message p e = message_if (is_due (with_entry p e)) (with_entry p e)

-- its fields are in their ranges, and an edge entry has no remote IRR
pub record IsPin (p : Pin) : Type 0 where
  pub vector : p.entry.vector < 256
  pub destination : p.entry.destination < 256
  pub remote : IsTrue p.remote_irr → IsTrue p.entry.level
