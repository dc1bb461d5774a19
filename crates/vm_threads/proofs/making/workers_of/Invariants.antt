use Rattle.std.proofs.Common.{◌≡◌, map, take}
use Rattle.vm_state.specs.declared.drive.Drive.{Drive}
use Rattle.vm_threads.proofs.making.workers_of.Given as goal

abbrev pub invariant-loop-disk : goal.invariant-loop-disk
invariant-loop-disk l = map (λ (x : Drive). x.workers) (take l.disk l.run.state.machine.drives) ≡ l.counts.items
