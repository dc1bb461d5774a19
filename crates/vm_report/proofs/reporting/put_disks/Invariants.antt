use Rattle.std.specs.List.{flat_map, range_with_len}
use Rattle.std.proofs.Common.{◌≡◌, ◌++◌, string_bytes}
use Rattle.vm_report.specs.Report.{disk_text}
use Rattle.vm_report.proofs.reporting.put_disks.Given as goal

abbrev pub invariant-loop-disk : goal.invariant-loop-disk
invariant-loop-disk l = string_bytes l.out ≡ string_bytes l.fn.out ++ flat_map (disk_text l.run.state) (range_with_len 0 l.disk)
