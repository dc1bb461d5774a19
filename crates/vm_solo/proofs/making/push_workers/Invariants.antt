use Rattle.std.proofs.Common.{◌+◌}
use Rattle.vm_state.specs.Requests.{first_worker}
use Rattle.vm_solo.specs.New.{AreNewWorkers}
use Rattle.vm_solo.proofs.making.push_workers.Given as goal

abbrev pub invariant-loop-k : goal.invariant-loop-k
invariant-loop-k g l = AreNewWorkers l.run.state.machine (first_worker l.run.state.machine l.disk + l.k) l.workers.items
