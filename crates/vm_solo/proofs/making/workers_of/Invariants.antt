use Rattle.vm_state.specs.Requests.{first_worker}
use Rattle.vm_solo.specs.New.{AreNewWorkers}
use Rattle.vm_solo.proofs.making.workers_of.Given as goal

abbrev pub invariant-loop-disk : goal.invariant-loop-disk
invariant-loop-disk g l = AreNewWorkers l.run.state.machine (first_worker l.run.state.machine l.disk) l.workers.items
