use Rattle.std.proofs.Common.{◌≡◌, drop}
use Rattle.cfg_vm.specs.Table.{disks_from}
use Rattle.cfg_vm.proofs.Steps.{onto}
use Rattle.cfg_vm.proofs.disks.disks_at.Given as goal

abbrev pub invariant-loop-count : goal.invariant-loop-count
invariant-loop-count l = onto l.disks (disks_from l.config l.count (drop l.count l.slots)) ≡ disks_from l.config 0 l.slots
