use Rattle.vm_solo.specs.New.{AreNewRunners}
use Rattle.vm_solo.proofs.making.runners_of.Given as goal

abbrev pub invariant-loop-cpu : goal.invariant-loop-cpu
invariant-loop-cpu l = AreNewRunners l.cpu l.code l.runners.items
