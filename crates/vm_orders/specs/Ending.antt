-- The end of a run: End, Close.
use Rattle.std.specs.Prelude.{ℕ, Bool, true, false, not, ◌&&◌, ◌||◌, ◌==◌, nat_le, Option, Some, None, is_none, is_some}
use Rattle.vm_law.specs.declared.journal.EndCause.{EndCause}
use Rattle.vm_law.specs.declared.journal.EndCause.TheVariants as cause
use Rattle.vm_law.specs.declared.script.Order.{Order}
use Rattle.vm_state.specs.declared.run_state.Why.{Why}
use Rattle.vm_state.specs.declared.run_state.Why.TheVariants as why
use Rattle.vm_state.specs.Machine.{all_idle, any_eager}
use Rattle.vm_state.specs.Requests.{none_busy}
use Rattle.vm_state.specs.State.{State, next_order, none_held}
use Rattle.vm_orders.specs.Done.{is_met, is_wait}

-- so many entries use a run up
abbrev pub entry_limit : ℕ
entry_limit = 40000000

-- the order that comes next is a wait whose condition fails
abbrev pub is_waiting : State → Option Order → Bool
is_waiting s None = false
is_waiting s (Some order) = is_wait order && not (is_met s order)

-- so many entries stand before, or a wait can't be met, since a vCPU has something to do and may execute no more
unfoldable pub is_used_up : State → Bool
is_used_up s =
    nat_le entry_limit s.entries
    || (is_waiting s (next_order s) && (s.executed == s.limit) && any_eager s.machine)

abbrev pub has_cause : State → EndCause → Bool
has_cause s cause.Budget = is_used_up s
has_cause s cause.Outside = true

unfoldable pub may_end : State → ℕ → EndCause → Bool
may_end s p cause = (p == 0) && is_none s.ended && has_cause s cause

abbrev pub why_of : EndCause → Why
why_of cause.Budget = why.Budget
why_of cause.Outside = why.Outside

unfoldable pub after_end : State → EndCause → State
after_end s cause = record s { ended = Some (why_of cause) }

-- the run has ended, and everything is at rest
unfoldable pub may_close : State → ℕ → Bool
may_close s p =
    (p == 0) && is_some s.ended && all_idle s.machine && none_busy s.machine && none_held s && is_none s.machine.meet

unfoldable pub after_close : State → State
after_close s = record s { closed = true }
