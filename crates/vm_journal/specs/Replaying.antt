-- What replaying a journal answers.
use Rattle.std.specs.Prelude.{◌≡◌, ℕ, ◌<◌, false, List, length, take, slice_get, Option, Some, None, Result, Ok, Err}
use Rattle.vm_law.specs.declared.journal.Signed.{Signed}
use Rattle.vm_state.specs.declared.start.Start.{Start}
use Rattle.vm_table.specs.View.{View}
use Rattle.vm_table.specs.Table.{lawful}
use Rattle.vm_table.specs.History.{IsLegal, last_state}
use Rattle.vm_journal.specs.declared.replaying.ReplayError.{ReplayError}
use Rattle.vm_journal.specs.declared.replaying.ReplayError.TheVariants.{BadEntry, Memory}

-- the entries before this place are a history, and the one there isn't lawful after them
pub record IsFirstBad (start : Start) (journal : List Signed) (at : ℕ) : Type 0 where
  pub within : at < length journal
  pub before : IsLegal start (take at journal)
  pub bad : (x : Signed) → slice_get journal at ≡ Some x → lawful (last_state start (take at journal)) x.by x.entry ≡ false

-- the entries before a place, or all
abbrev pub front_of : Option ℕ → List Signed → List Signed
front_of None journal = journal
front_of (Some at) journal = take at journal

-- the run after the entries before the first that isn't lawful, and the place of that one; or after all of them
abbrev pub ReplaysTo : Start → List Signed → View → Option ℕ → Type 0
ReplaysTo start journal run None = IsLegal start journal × (run.state ≡ last_state start journal)
ReplaysTo start journal run (Some at) = IsFirstBad start journal at × (run.state ≡ last_state start (take at journal))

-- the run after a legal history, or the place of the first entry that isn't lawful
abbrev pub Replays : Start → List Signed → Result View ReplayError → Type 0
Replays start journal (Ok run) = IsLegal start journal × (run.state ≡ last_state start journal)
Replays start journal (Err (BadEntry at)) = IsFirstBad start journal at
Replays start journal (Err Memory) = Unit {0}
