-- The rounds of one thread come to Close, whatever the image calls answer.
use Rattle.std.specs.Prelude.{◌≡◌, ℕ, Bool, true, List}
use Rattle.vm_state.specs.declared.start.Start as start_type
use Rattle.vm_state.specs.Start.{IsSound}
use Rattle.vm_table.specs.History.{IsLegal, last_state}
use Rattle.vm_table.specs.Rounds.{first_round, rounds_from}
use Rattle.vm_table.specs.Turns.{IsOrderly}

-- after so many rounds the run is closed
abbrev pub RoundsReturn : Type 0
RoundsReturn = (start : start_type.Start) (calls : List Bool) → IsSound start → (n : ℕ) × ((rounds_from (first_round start calls) n).state.closed ≡ true)

-- what any number of rounds added is a legal history, and they are in its last state
abbrev pub RoundsAreLegal : Type 0
RoundsAreLegal =
    (start : start_type.Start) (calls : List Bool) (n : ℕ) → IsSound start
    → IsLegal start (rounds_from (first_round start calls) n).history
    × ((rounds_from (first_round start calls) n).state ≡ last_state start (rounds_from (first_round start calls) n).history)

-- of which each entry is what its pass adds in an orderly turn
abbrev pub RoundsAreOrderly : Type 0
RoundsAreOrderly = (start : start_type.Start) (calls : List Bool) (n : ℕ) → IsSound start → IsOrderly start (rounds_from (first_round start calls) n).history
