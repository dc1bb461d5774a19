-- Which register of the 16550 stands at an offset. Source: PC16550D, table 2.
use Rattle.std.specs.Prelude.{ℕ, Bool, ◌==◌, if◌then◌else◌}
use Rattle.vm_uart.specs.declared.register.Register.{Register}
use Rattle.vm_uart.specs.declared.register.Register.TheVariants.{Data, InterruptEnable, InterruptIdentification, LineControl, ModemControl, LineStatus, ModemStatus, Scratch, DivisorLow, DivisorHigh}

-- with DLAB the divisor latch stands at offsets 0 and 1
abbrev pub register_at : Bool → ℕ → Register
register_at latch offset =
    if offset == 0 then (if latch then DivisorLow else Data)
    else if offset == 1 then (if latch then DivisorHigh else InterruptEnable)
    else if offset == 2 then InterruptIdentification
    else if offset == 3 then LineControl
    else if offset == 4 then ModemControl
    else if offset == 5 then LineStatus
    else if offset == 6 then ModemStatus
    else Scratch
