-- What control adds in its turn.
use Rattle.std.specs.Prelude.{Bool, ◌&&◌, List, [], ◌∷◌, if◌then◌else◌}
use Rattle.vm_law.specs.declared.journal.EndCause.TheVariants.{Outside}
use Rattle.vm_law.specs.declared.journal.Entry.TheVariants.{End}
use Rattle.vm_law.specs.declared.journal.Signed.{Signed}
use Rattle.vm_state.specs.State.{State}
use Rattle.vm_table.specs.Rounds.{chosen}
use Rattle.vm_table.specs.Table.{lawful}

-- the end by a failure outside, where there was one and the run isn't ended yet, or else the first lawful entry of its list
abbrev pub turn_of : State → Bool → List Signed
turn_of s failed = if failed && lawful s 0 (End Outside) then record { by = 0; entry = End Outside } ∷ [] else chosen s 0
