use Rattle.std.proofs.Common.{◌≡◌, drop}
use Rattle.cfg_vm.specs.Table.{slots_with, disk_slots}
use Rattle.cfg_vm.proofs.disks.disk_slots.Given as goal

abbrev pub invariant-loop-k : goal.invariant-loop-k
invariant-loop-k l = slots_with l.slots.items (drop l.k l.config) ≡ disk_slots l.config
