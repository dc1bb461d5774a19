use Rattle.std.proofs.Common.{◌≡◌, ◌++◌, drop, string_bytes}
use Rattle.vm_report.specs.Report.{more_samples}
use Rattle.vm_report.proofs.reporting.put_more.Given as goal

abbrev pub invariant-loop-sample : goal.invariant-loop-sample
invariant-loop-sample l = string_bytes l.out ++ more_samples (drop l.sample-index l.samples) ≡ string_bytes l.fn.out ++ more_samples l.samples
