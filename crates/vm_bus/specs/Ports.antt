-- The ports of the serial port. Source: bhyve's pci_lpc.c and uart_emul.c, where COM1 has eight ports from 0x3F8 on.
use Rattle.std.specs.Prelude.{ℕ, ◌-◌, ◌+◌, Option, Some, None, nat_le, nat_lt, ◌&&◌, if◌then◌else◌}

-- its first port
abbrev pub uart_base : ℕ
uart_base = 0x3F8

-- the offset of the register at a port
abbrev pub uart_port : ℕ → Option ℕ
uart_port number = if nat_le uart_base number && nat_lt number (uart_base + 8) then Some (number - uart_base) else None
