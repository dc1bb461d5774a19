use Rattle.run_cases.proofs.Drives.{ArePlannedBelow}
use Rattle.run_cases.proofs.sound.are_drives_of.Given as goal

abbrev pub invariant-loop-d : goal.invariant-loop-d
invariant-loop-d l = ArePlannedBelow l.plans l.drives l.d
