-- Why the bytes of a journal aren't replayed.
use Rattle.std.specs.Prelude.{◌≡◌, ℕ, List, length, Result, Ok, Err}
use Rattle.byte_reader.specs.Fixed.{IsFault}
use Rattle.vm_law.specs.declared.journal.Signed.{Signed}
use Rattle.vm_state.specs.declared.start.Start.{Start}
use Rattle.vm_journal.specs.declared.history.History.{History}
use Rattle.vm_journal.specs.declared.history.HistoryError.{HistoryError}
use Rattle.vm_journal.specs.declared.history.HistoryError.TheVariants.{Fault, BadEntry, Memory}
use Rattle.vm_journal.specs.Spelling.{spelling}
use Rattle.vm_journal.specs.Reading.{whole}
use Rattle.vm_journal.specs.Replaying.{IsFirstBad}

-- they have this first fault; or they spell a journal, and this is its first entry that isn't lawful; or memory is out
abbrev pub IsRefused : Start → List ℕ → Result History HistoryError → Type 0
IsRefused start bytes (Ok x) = Unit {0}
IsRefused start bytes (Err (Fault at kind)) = IsFault (length bytes) at kind (whole bytes)
IsRefused start bytes (Err (BadEntry at)) = (journal : List Signed) × (bytes ≡ spelling journal) × IsFirstBad start journal at
IsRefused start bytes (Err Memory) = Unit {0}
