-- Nothing more can happen by itself.
use Rattle.std.specs.Prelude.{ℕ, Bool, not, ◌&&◌, nat_lt, length, is_none}
use Rattle.std.specs.List.{list_any}
use Rattle.vm_uart.specs.Uart.{has_room}
use Rattle.vm_devices.specs.Timers.{any_live}
use Rattle.vm_disks.specs.Queueing.{can_pull}
use Rattle.vm_state.specs.Machine.{MachineState, any_eager}
use Rattle.vm_state.specs.Requests.{any_request}
use Rattle.vm_state.specs.State.{State}

-- a chain waits that a worker may take
abbrev pub any_pull : MachineState → Bool
any_pull m = list_any (can_pull m.ram) m.drives

-- a byte of the input can be received
abbrev pub can_feed : State → Bool
can_feed s = nat_lt 0 (length s.input) && has_room s.machine.uart

-- but that a timer fires
unfoldable pub is_still : State → Bool
is_still s =
    not (any_eager s.machine) && is_none s.machine.meet && not (any_pull s.machine) && not (any_request s.machine) && not (can_feed s)

unfoldable pub is_quiet : State → Bool
is_quiet s = is_still s && not (any_live s.machine)
