-- What control does beside the script's orders: Meet, Feed, Wish, Tick.
use Rattle.std.specs.Prelude.{ℕ, Bool, true, false, not, ◌&&◌, ◌||◌, ◌==◌, nat_le, drop, slice_index, Option, Some, None, is_none, if◌then◌else◌}
use Rattle.vm_law.specs.declared.script.Order.{Order}
use Rattle.vm_law.specs.declared.script.Order.TheVariants.{Rendezvous, Pause}
use Rattle.vm_law.specs.declared.stage.MeetKind.TheVariants.{Sample}
use Rattle.vm_meet.specs.Meeting.{opened}
use Rattle.vm_uart.specs.Uart.{after_receive}
use Rattle.vm_devices.specs.Ports.{with_serial}
use Rattle.vm_devices.specs.Timers.{any_armed, any_live, least_live, ticked}
use Rattle.vm_state.specs.Machine.{started_cpus}
use Rattle.vm_state.specs.State.{State, lag_of, next_order, with_machine}
use Rattle.vm_orders.specs.Quiet.{can_feed, is_still}

abbrev pub is_rendezvous : Option Order → Bool
is_rendezvous (Some Rendezvous) = true
is_rendezvous order = false

abbrev pub is_pause : Option Order → Bool
is_pause (Some Pause) = true
is_pause order = false

-- ---- Meet: a rendezvous of all started vCPUs opens, for the order that comes next

unfoldable pub may_meet : State → ℕ → Bool
may_meet s p = (p == 0) && is_rendezvous (next_order s) && not s.begun && is_none s.machine.meet && is_none s.ended

unfoldable pub after_meet : State → State
after_meet s = record (with_machine s (record s.machine { meet = Some (opened Sample 0 (started_cpus s.machine)) })) { begun = true }

-- ---- Feed: the serial port receives the first byte of the input

unfoldable pub may_feed : State → ℕ → Bool
may_feed s p = (p == 0) && can_feed s && not s.machine.pause && is_none s.ended

unfoldable pub after_feed : State → State
after_feed s =
    record (with_machine s (with_serial s.machine (after_receive s.machine.uart (slice_index s.input 0)))) { input = drop 1 s.input }

-- ---- Wish: the order that comes next is a pause

unfoldable pub may_wish : State → ℕ → Bool
may_wish s p = (p == 0) && is_pause (next_order s) && not s.machine.pause && is_none s.ended

unfoldable pub after_wish : State → State
after_wish s = with_machine s (record s.machine { pause = true })

-- ---- Tick: the timers move on, by what was executed since, once that is 1,024; or up to the first that would be seen to
-- fire, where nothing but a timer can go on

-- by how much
unfoldable pub tick_of : State → ℕ
tick_of s = if nat_le 1024 (lag_of s) then lag_of s else least_live s.machine

unfoldable pub may_tick : State → ℕ → ℕ → Bool
may_tick s p n =
    (p == 0) && any_armed s.machine && not s.machine.pause && is_none s.ended && (n == tick_of s)
    && (nat_le 1024 (lag_of s) || (any_live s.machine && is_still s))

unfoldable pub after_tick : State → ℕ → State
after_tick s n = record (with_machine s (ticked s.machine n)) { seen = s.executed }
