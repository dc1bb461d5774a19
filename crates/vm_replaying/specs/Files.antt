-- The file of a journal as a command reads it.
use Rattle.std.specs.Prelude.{◌≡◌, ◌⊎◌, ℕ, ◌≤◌, ◌<◌, ◌^◌, List, length}
use Rattle.byte_reader.specs.Fixed.{IsFault}
use Rattle.vm_law.specs.declared.journal.Signed.{Signed}
use Rattle.vm_journal.specs.Spelling.{spelling, AreEntries}
use Rattle.vm_journal.specs.Reading.{whole}
use Rattle.vm_journal.specs.declared.fault.JournalKind.{JournalKind}
use Rattle.vm_journal.specs.declared.fault.JournalKind.TheVariants as journal
use Rattle.vm_status.specs.declared.kind.Kind.{Kind}
use Rattle.vm_status.specs.declared.kind.Kind.TheVariants as kinds

-- kinds of faults, under the names that every format has for them
abbrev pub journal_kind : JournalKind → Kind
journal_kind journal.Gate = kinds.Gate
journal_kind journal.Magic = kinds.Magic
journal_kind journal.Short = kinds.Short
journal_kind journal.Tag = kinds.Tag
journal_kind journal.Value = kinds.Value
journal_kind journal.Trailing = kinds.Trailing

-- the file of a journal has at most 4 GiB
abbrev pub journal_limit : ℕ
journal_limit = 2 ^ 32

-- the bytes are the one spelling of this journal
pub record IsJournal (bytes : List ℕ) (journal : List Signed) : Type 0 where
  pub short : length bytes ≤ journal_limit
  pub fits : AreEntries journal
  pub spelled : bytes ≡ spelling journal

-- the first fault of bytes that are no journal: they are too many, or what reading them from left to right meets
abbrev pub IsJournalFault : List ℕ → ℕ → Kind → Type 0
IsJournalFault bytes at kind =
    ((journal_limit < length bytes) × (at ≡ journal_limit) × (kind ≡ kinds.Long))
    ⊎ ((k : JournalKind) × IsFault (length bytes) at k (whole bytes) × (kind ≡ journal_kind k))
