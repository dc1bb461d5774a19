-- The 16550 as its driver sees it. Source: PC16550D, section 8, and bhyve's uart_emul.c.
use Rattle.std.specs.Prelude.{ℕ, ◌+◌, ◌%◌, ◌^◌, Bool, true, false, not, ◌&&◌, ◌||◌, ◌==◌, nat_lt, if◌then◌else◌, List, [], ◌∷◌, ◌++◌, length, drop, slice_index, Option, Some, None, bit_and}
use Rattle.vm_uart.specs.Register.{register_at}
use Rattle.vm_uart.specs.declared.register.Register.{Register}
use Rattle.vm_uart.specs.declared.register.Register.TheVariants.{Data, InterruptEnable, InterruptIdentification, LineControl, ModemControl, LineStatus, ModemStatus, Scratch, DivisorLow, DivisorHigh}

-- the bytes of the receive FIFO, the first first, the registers, and whether the interrupt of the empty transmitter is pending
pub record Serial : Type 0 where
  pub received : List ℕ
  pub ier : ℕ
  pub fcr : ℕ
  pub lcr : ℕ
  pub mcr : ℕ
  pub scr : ℕ
  pub dll : ℕ
  pub dlm : ℕ
  pub empty : Bool

-- at reset nothing waits and each register is 0
abbrev pub at_start : Serial
at_start = record { received = []; ier = 0; fcr = 0; lcr = 0; mcr = 0; scr = 0; dll = 0; dlm = 0; empty = false }

-- bit k of a register is 1
abbrev pub bit : ℕ → ℕ → Bool
bit n k = not (bit_and n (2 ^ k) == 0)

-- a received byte waits
abbrev pub has_data : Serial → Bool
has_data u = nat_lt 0 (length u.received)

-- another byte can be received: the FIFO holds 16
abbrev pub has_room : Serial → Bool
has_room u = nat_lt (length u.received) 16

-- the interrupt of received data: it is enabled, and a byte waits
abbrev pub data_due : Serial → Bool
data_due u = bit u.ier 0 && has_data u

-- the interrupt of the empty transmitter: it is enabled and pending
abbrev pub empty_due : Serial → Bool
empty_due u = bit u.ier 1 && u.empty

-- the interrupt line
abbrev pub line : Serial → Bool
line u = data_due u || empty_due u

-- the cause that IIR names: received data, else the empty transmitter, else none
abbrev pub cause : Serial → ℕ
cause u = if data_due u then 0x04 else if empty_due u then 0x02 else 0x01

-- the register at an offset
abbrev pub selected : Serial → ℕ → Register
selected u offset = register_at (bit u.lcr 7) offset

-- what a read of a register gives
abbrev pub value_read : Serial → Register → ℕ
value_read u Data = slice_index u.received 0
value_read u InterruptEnable = u.ier
value_read u InterruptIdentification = cause u + (if bit u.fcr 0 then 0xC0 else 0)
value_read u LineControl = u.lcr
value_read u ModemControl = u.mcr
value_read u LineStatus = 0x60 + (if has_data u then 0x01 else 0)
value_read u ModemStatus = 0xB0
value_read u Scratch = u.scr
value_read u DivisorLow = u.dll
value_read u DivisorHigh = u.dlm

-- after a read: a byte that was given waits no more, nor is an interrupt of the empty transmitter pending that was named
abbrev pub after_read : Serial → Register → Serial
after_read u Data = record u { received = drop 1 u.received }
after_read u InterruptIdentification = if cause u == 0x02 then record u { empty = false } else u
after_read u _ = u

-- what a write of a register sends to the console
abbrev pub byte_sent : Register → ℕ → Option ℕ
byte_sent Data value = Some value
byte_sent _ value = None

-- after a write of a register
abbrev pub after_write : Serial → Register → ℕ → Serial
after_write u Data value = record u { empty = true }
after_write u InterruptEnable value = record u { ier = value % 16; empty = if bit value 1 && not (bit u.ier 1) then true else u.empty }
after_write u InterruptIdentification value = record u { fcr = value % 2; received = if bit value 1 then [] else u.received }
after_write u LineControl value = record u { lcr = value }
after_write u ModemControl value = record u { mcr = value }
after_write u LineStatus value = u
after_write u ModemStatus value = u
after_write u Scratch value = record u { scr = value }
after_write u DivisorLow value = record u { dll = value }
after_write u DivisorHigh value = record u { dlm = value }

-- after a byte came in: it waits behind the others, or is lost where there is no room
abbrev pub after_receive : Serial → ℕ → Serial
after_receive u byte = if has_room u then record u { received = u.received ++ byte ∷ [] } else u
