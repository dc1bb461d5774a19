use Rattle.std.proofs.Common.{◌≡◌}
use Rattle.std.specs.Prelude.{map}
use Rattle.std.specs.List.{range_with_len}
use Rattle.vm_state.specs.Start.{planned_drive}
use Rattle.vm_state.proofs.booting.boot_drives.Given as goal

abbrev pub invariant-loop-d : goal.invariant-loop-d
invariant-loop-d l = l.drives.items ≡ map (planned_drive l.plans l.disks) (range_with_len 0 l.d)
