-- Control has nothing to do for the run as a whole, where that is told at sight.
use Rattle.std.specs.Prelude.{Bool, true, false, not, ◌&&◌, ◌||◌, ◌==◌, nat_lt, length, Option, Some, None, is_none}
use Rattle.vm_law.specs.declared.script.Order.{Order}
use Rattle.vm_law.specs.declared.script.Order.TheVariants.{WaitQuiet, WaitConsole, WaitExecuted, Input, Nmi, Rendezvous, Pause, Resume, Checkpoint, Set, Get, Cancel, Against, Send}
use Rattle.vm_devices.specs.Timers.{any_armed}
use Rattle.vm_state.specs.Machine.{any_eager}
use Rattle.vm_state.specs.State.{State, lag_of, next_order}
use Rattle.vm_orders.specs.Done.{has_come}
use Rattle.vm_orders.specs.Ending.{entry_limit}

-- no order comes next, or a wait, which isn't over while a vCPU has something to do
abbrev pub waits_on : State → Option Order → Bool
waits_on s None = true
waits_on s (Some WaitQuiet) = true
waits_on s (Some (WaitConsole n)) = not (has_come s (WaitConsole n))
waits_on s (Some (WaitExecuted n)) = not (has_come s (WaitExecuted n))
waits_on s (Some (Input bytes)) = false
waits_on s (Some (Nmi i)) = false
waits_on s (Some (Cancel d id)) = false
waits_on s (Some Rendezvous) = false
waits_on s (Some Pause) = false
waits_on s (Some (Checkpoint name)) = false
waits_on s (Some (Against name base)) = false
waits_on s (Some (Send name)) = false
waits_on s (Some (Set i reg value)) = false
waits_on s (Some (Get i reg)) = false
waits_on s (Some Resume) = false

-- no timer is armed, or the timers moved on fewer than 1,024 instructions ago
abbrev pub moved_lately : State → Bool
moved_lately s = nat_lt (lag_of s) 1024 || not (any_armed s.machine)

-- the run isn't ended, no order comes next but a wait that isn't over, no byte of the input is left, the timers moved on
-- lately, neither entries nor instructions are used up, and a vCPU has something to do
unfoldable pub rests_at_sight : State → Bool
rests_at_sight s =
    is_none s.ended && waits_on s (next_order s) && not (nat_lt 0 (length s.input)) && moved_lately s
    && nat_lt s.entries entry_limit && not (s.executed == s.limit) && any_eager s.machine
