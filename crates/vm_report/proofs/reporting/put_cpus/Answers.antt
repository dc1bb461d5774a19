use Rattle.std.proofs.Common.{string_bytes}
use Rattle.vm_report.specs.Report.{cpu_text}
use Rattle.vm_report.proofs.Ranges.{text_grew}
use Rattle.vm_report.proofs.reporting.put_cpus.Goals as goal

pub loop-cpu-preserved : goal.loop-cpu-preserved
loop-cpu-preserved c =
    text_grew (cpu_text c.args.run.now.state) c.loop-cpu.cpu (string_bytes c.args.out.now) (string_bytes c.loop-cpu.out) _ c.loop-cpu.invariant c.in_ok-put_cpu.ensures
