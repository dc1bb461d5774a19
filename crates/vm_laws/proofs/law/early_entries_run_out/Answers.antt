use Rattle.vm_laws.proofs.Waiting.{control_falls}
use Rattle.vm_laws.proofs.law.early_entries_run_out.Goals as goal

pub returns : goal.returns
returns c = λ s e x y m. control_falls s e x y m
