use Rattle.std.proofs.Common.{◌≡◌, false, take}
use Rattle.std.specs.List.{list_any}
use Rattle.vm_disks.specs.Queueing.{can_pull}
use Rattle.vm_orders.proofs.quiet.any_pull.Given as goal

abbrev pub invariant-loop-drive : goal.invariant-loop-drive
invariant-loop-drive l = list_any (can_pull l.machine.state.ram) (take l.drive-index l.drives) ≡ false
