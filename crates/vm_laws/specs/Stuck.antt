-- No state is stuck: a run that isn't closed can go on.
use Rattle.std.specs.Prelude.{◌≡◌, ℕ, ◌+◌, true, false, List, Some}
use Rattle.vm_law.specs.declared.journal.Entry.{Entry}
use Rattle.vm_law.specs.declared.journal.Entry.TheVariants.{Slice}
use Rattle.vm_law.specs.declared.journal.Signed.{Signed}
use Rattle.vm_state.specs.declared.start.Start as start_type
use Rattle.vm_state.specs.Sound.{IsSoundState}
use Rattle.vm_state.specs.Start.{IsSound}
use Rattle.vm_state.specs.State.{State, none_held}
use Rattle.vm_table.specs.History.{IsLegal, is_closed, last_state}
use Rattle.vm_table.specs.Table.{lawful}
use Rattle.vm_table.specs.Turns.{first_lawful}

-- some pass's list has a lawful entry (the end by a failure outside stands in no list), or some vCPU may have a Slice, or
-- some image is held
pub data CanGoOn (s : State) : Type 0 where
  adds : (p : ℕ) (e : Entry) → first_lawful s p ≡ Some e → CanGoOn s
  slices : (i n : ℕ) → lawful s (1 + i) (Slice i n) ≡ true → CanGoOn s
  holds : none_held s ≡ false → CanGoOn s

-- after each legal history, from whatever start, that doesn't end closed
abbrev pub NoStateIsStuck : Type 0
NoStateIsStuck =
    (start : start_type.Start) (history : List Signed) → IsSound start → IsLegal start history → is_closed start history ≡ false
    → CanGoOn (last_state start history)

-- the same of one state
abbrev pub SoundStatesGoOn : Type 0
SoundStatesGoOn = (s : State) → IsSoundState s → s.closed ≡ false → CanGoOn s
