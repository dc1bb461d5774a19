use Rattle.std.proofs.Common.{string_bytes}
use Rattle.vm_report.specs.Report.{disk_text}
use Rattle.vm_report.proofs.Ranges.{text_grew}
use Rattle.vm_report.proofs.reporting.put_disks.Goals as goal

pub loop-disk-preserved : goal.loop-disk-preserved
loop-disk-preserved c =
    text_grew (disk_text c.args.run.now.state) c.loop-disk.disk (string_bytes c.args.out.now) (string_bytes c.loop-disk.out) _ c.loop-disk.invariant c.in_ok-put_disk.ensures
