use Rattle.std.proofs.Common.{◌-◌, length}
use Rattle.vm_start.proofs.images.+open_from.Given as goal

abbrev pub decreases-open_from : goal.decreases-open_from
decreases-open_from g l = length l.start.now.plan.disks - l.first
