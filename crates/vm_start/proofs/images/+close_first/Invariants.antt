use Rattle.std.proofs.Common.{length}
use Rattle.vm_start.proofs.images.+close_first.Given as goal

abbrev pub decreases-close_first : goal.decreases-close_first
decreases-close_first g l = length l.homes.items
