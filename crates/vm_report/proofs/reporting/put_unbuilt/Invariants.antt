use Rattle.std.proofs.Common.{◌≡◌, ◌++◌, drop, string_bytes}
use Rattle.vm_report.specs.Report.{unbuilt_text}
use Rattle.vm_report.proofs.reporting.put_unbuilt.Given as goal

abbrev pub invariant-loop-name : goal.invariant-loop-name
invariant-loop-name l = string_bytes l.out ++ unbuilt_text (drop l.name-index l.names) ≡ string_bytes l.fn.out ++ unbuilt_text l.names
