use Rattle.std.proofs.Common.{ℕ, ◌<◌, get_or}
use Rattle.vm_law.specs.declared.journal.Signed.{Signed}
use Rattle.vm_journal.specs.Spelling.{FitsSigned}
use Rattle.vm_journal.proofs.law.entries_fit.Given as goal

abbrev pub invariant-loop-signed : goal.invariant-loop-signed
invariant-loop-signed l = (k : ℕ) (d : Signed) → k < l.signed-index → FitsSigned (get_or l.signed-items k d)
