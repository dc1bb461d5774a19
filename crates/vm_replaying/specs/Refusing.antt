-- The refusal that bytes lead to which are no journal.
use Rattle.std.specs.Prelude.{ℕ, List}
use Rattle.vm_journal.specs.declared.fault.JournalError.{JournalError}
use Rattle.vm_journal.specs.declared.fault.JournalError.TheVariants as journal_error
use Rattle.vm_replaying.specs.Files.{journal_kind}
use Rattle.vm_status.specs.declared.refusal.Refusal.{Refusal}
use Rattle.vm_status.specs.declared.refusal.Refusal.TheVariants.{Bad, Memory}
use Rattle.vm_status.specs.declared.role.Role.TheVariants.{Journal}

abbrev pub after_decode : List ℕ → JournalError → Refusal
after_decode name (journal_error.Fault at k) = Bad Journal name at (journal_kind k)
after_decode name journal_error.Memory = Memory
