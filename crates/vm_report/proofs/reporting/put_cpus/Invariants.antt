use Rattle.std.specs.List.{flat_map, range_with_len}
use Rattle.std.proofs.Common.{◌≡◌, ◌++◌, string_bytes}
use Rattle.vm_report.specs.Report.{cpu_text}
use Rattle.vm_report.proofs.reporting.put_cpus.Given as goal

abbrev pub invariant-loop-cpu : goal.invariant-loop-cpu
invariant-loop-cpu l = string_bytes l.out ≡ string_bytes l.fn.out ++ flat_map (cpu_text l.run.state) (range_with_len 0 l.cpu)
