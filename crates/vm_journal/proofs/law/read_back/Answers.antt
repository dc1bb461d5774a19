use Rattle.vm_journal.proofs.Whole.{whole_again}
use Rattle.vm_journal.proofs.law.read_back.Goals as goal

pub returns : goal.returns
returns c = whole_again
