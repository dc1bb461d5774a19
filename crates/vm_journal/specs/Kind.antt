-- The names of the kinds of faults.
use Rattle.std.specs.Prelude.{ℕ, List, codes}
use Rattle.vm_journal.specs.declared.fault.JournalKind.{JournalKind}
use Rattle.vm_journal.specs.declared.fault.JournalKind.TheVariants.{Gate, Magic, Short, Tag, Value, Trailing}

abbrev pub name_of : JournalKind → List ℕ
name_of Gate = codes "gate"
name_of Magic = codes "magic"
name_of Short = codes "short"
name_of Tag = codes "tag"
name_of Value = codes "value"
name_of Trailing = codes "trailing"
