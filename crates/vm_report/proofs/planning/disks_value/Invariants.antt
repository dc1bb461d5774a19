use Rattle.std.proofs.Common.{◌≡◌, ◌++◌, drop, map}
use Rattle.serde_json.specs.View.{view}
use Rattle.vm_report.specs.PlanText.{disk_data}
use Rattle.vm_report.proofs.planning.disks_value.Given as goal

abbrev pub invariant-loop-disk : goal.invariant-loop-disk
invariant-loop-disk l = map view l.values.items ++ map disk_data (drop l.disk-index l.disks) ≡ map disk_data l.disks
