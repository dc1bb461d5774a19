-- How often control may add something else before the end by a used up budget.
use Rattle.std.specs.Prelude.{◌≡◌, ℕ, ◌+◌, ◌-◌, ◌*◌, ◌<◌, ◌≤◌, Bool, true, false, nat_le, length, Some, None, if◌then◌else◌}
use Rattle.vm_law.specs.declared.journal.EndCause.TheVariants.{Budget}
use Rattle.vm_law.specs.declared.journal.Entry.{Entry}
use Rattle.vm_law.specs.declared.journal.Entry.TheVariants.{Claim, Yield, Turn, Feed, End, Tick}
use Rattle.vm_law.specs.declared.journal.Signed.{Signed}
use Rattle.vm_law.specs.declared.stage.Owned.{Owned}
use Rattle.vm_meet.specs.Meeting.{awaits}
use Rattle.vm_state.specs.Machine.{cpu_at, cpu_count, is_frozen}
use Rattle.vm_state.specs.Sound.{IsSoundState}
use Rattle.vm_state.specs.State.{State}
use Rattle.vm_orders.specs.Ending.{entry_limit}
use Rattle.vm_table.specs.Table.{after, lawful}
use Rattle.vm_table.specs.Turns.{first_lawful}
use Rattle.vm_laws.specs.Ending.{sum_below}

-- while a pause is wished control has the vCPUs to claim that it hasn't frozen, and else to give up those that it has
abbrev pub to_take : Bool → Owned → ℕ
to_take true st = if is_frozen st 0 then 0 else 1
to_take false st = if is_frozen st 0 then 1 else 0

unfoldable pub take_at : State → ℕ → ℕ
take_at s i = to_take s.machine.pause (cpu_at s.machine i).stage

unfoldable pub turn_at : State → ℕ → ℕ
turn_at s i = if awaits s.machine.meet i then 1 else 0

-- the vCPUs to take or to give up, the bytes to feed, and the turns in the open rendezvous and in those that the
-- instructions that are left can open
unfoldable pub before_end : State → ℕ
before_end s =
    sum_below (take_at s) (cpu_count s.machine) + length s.input + sum_below (turn_at s) (cpu_count s.machine) + 17 * (s.limit - s.executed)

-- what control adds before the end by a used up budget, but for a Tick
abbrev pub IsEarly : Entry → Type 0
IsEarly (Turn i) = Unit {0}
IsEarly (Yield i) = Unit {0}
IsEarly (Claim i) = Unit {0}
IsEarly Feed = Unit {0}
IsEarly e = ⊥

-- an early entry, a Tick, or the end
abbrev pub Ends : Entry → Type 0
Ends (End Budget) = Unit {0}
Ends (Tick n) = Unit {0}
Ends e = IsEarly e

-- once so many entries stand, control's first lawful entry is one of these, and there is one
pub record PicksTheEnd (s : State) : Type 0 where
  pub some : first_lawful s 0 ≡ None → ⊥
  pub ends : (e : Entry) → first_lawful s 0 ≡ Some e → Ends e

abbrev pub ControlPicksTheEnd : Type 0
ControlPicksTheEnd = (s : State) → s.closed ≡ false → s.ended ≡ None → nat_le entry_limit s.entries ≡ true → PicksTheEnd s

-- an early entry of control brings the end nearer
abbrev pub EarlyEntriesRunOut : Type 0
EarlyEntriesRunOut = (s : State) (e : Entry) → s.ended ≡ None → IsEarly e → lawful s 0 e ≡ true → before_end (after s (record { by = 0; entry = e })) < before_end s

-- and no entry of another pass takes it further away
abbrev pub OthersLeaveTheEnd : Type 0
OthersLeaveTheEnd = (s : State) (x : Signed) → IsSoundState s → 0 < x.by → lawful s x.by x.entry ≡ true → before_end (after s x) ≤ before_end s
