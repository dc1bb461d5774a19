use Rattle.vm_laws.proofs.Timing.{runs_down}
use Rattle.vm_laws.proofs.law.timers_run_down.Goals as goal

pub returns : goal.returns
returns c = λ s i xs l h a some. runs_down s i xs l h a some
