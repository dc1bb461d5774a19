-- The serial port's state as it is stored.
use Rattle.std.specs.Prelude.{◌<◌}
use Rattle.vm_law.specs.declared.chips.UartState.{UartState}
use Rattle.vm_uart.specs.Uart.{Serial}

-- the state of a port, field by field
abbrev pub state_of : Serial → UartState
state_of u = record { ier = u.ier; lcr = u.lcr; mcr = u.mcr; scr = u.scr; fcr = u.fcr; dll = u.dll; dlm = u.dlm; empty_pending = u.empty; received = record { items = u.received } }

-- the port that has this state
abbrev pub serial_of : UartState → Serial
serial_of s = record { received = s.received.items; ier = s.ier; fcr = s.fcr; lcr = s.lcr; mcr = s.mcr; scr = s.scr; dll = s.dll; dlm = s.dlm; empty = s.empty_pending }

-- only bits that a register keeps are set: the low four of IER, bit 0 of FCR
pub record IsSaved (s : UartState) : Type 0 where
  pub ier : s.ier < 16
  pub fcr : s.fcr < 2
