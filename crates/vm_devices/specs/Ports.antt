-- What an access to a port does: the serial port's eight ports take accesses of 8 bits; other ports, and other widths at
-- these, read all ones and ignore writes. Source: bhyve's pci_lpc.c and uart_emul.c.
use Rattle.std.specs.Prelude.{ℕ, ◌%◌, ◌^◌, Bool, true, false, Option, Some, None, if◌then◌else◌}
use Rattle.vm_law.specs.declared.insn.Width.{Width}
use Rattle.vm_law.specs.declared.insn.Width.TheVariants as width
use Rattle.vm_bus.specs.Ports.{uart_port}
use Rattle.vm_uart.specs.Uart as uart
use Rattle.vm_state.specs.Machine.{MachineState, uart_pin}
use Rattle.vm_devices.specs.Messages.{pin_followed}

-- the serial port in another state; its pin follows its line
unfoldable pub with_serial : MachineState → uart.Serial → MachineState
with_serial m u = pin_followed (record m { uart = u }) uart_pin (uart.line m.uart) (uart.line u)

unfoldable pub is_byte : Width → Bool
is_byte width.B = true
is_byte w = false

-- the offset of the serial port's register that an access is for
unfoldable pub offset_of : ℕ → Width → Option ℕ
offset_of port w = if is_byte w then uart_port port else None

abbrev pub all_ones : ℕ
all_ones = 0xFFFFFFFF

-- ---- a read

abbrev pub value_at : MachineState → Option ℕ → ℕ
value_at m None = all_ones
value_at m (Some offset) = uart.value_read m.uart (uart.selected m.uart offset)

abbrev pub read_at : MachineState → Option ℕ → MachineState
read_at m None = m
read_at m (Some offset) = with_serial m (uart.after_read m.uart (uart.selected m.uart offset))

unfoldable pub port_value : MachineState → ℕ → Width → ℕ
port_value m port w = value_at m (offset_of port w)

unfoldable pub port_read : MachineState → ℕ → Width → MachineState
port_read m port w = read_at m (offset_of port w)

-- ---- a write

abbrev pub byte_of : ℕ → ℕ
byte_of value = value % 2 ^ 8

-- the byte for the console
abbrev pub output_at : MachineState → Option ℕ → ℕ → Option ℕ
output_at m None value = None
output_at m (Some offset) value = uart.byte_sent (uart.selected m.uart offset) (byte_of value)

abbrev pub written_at : MachineState → Option ℕ → ℕ → MachineState
written_at m None value = m
written_at m (Some offset) value = with_serial m (uart.after_write m.uart (uart.selected m.uart offset) (byte_of value))

unfoldable pub port_output : MachineState → ℕ → Width → ℕ → Option ℕ
port_output m port w value = output_at m (offset_of port w) value

unfoldable pub port_written : MachineState → ℕ → Width → ℕ → MachineState
port_written m port w value = written_at m (offset_of port w) value
