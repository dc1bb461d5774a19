use Rattle.std.proofs.Common.{◌≡◌, ◌+◌, ◌-◌, nat_eq, length, drop}
use Rattle.std.specs.List.{common_prefix_len}
use Rattle.vm_image.proofs.reading.common_len.Given as goal

abbrev pub invariant-loop-n : goal.invariant-loop-n
invariant-loop-n l = common_prefix_len nat_eq l.first l.second ≡ l.n + common_prefix_len nat_eq (drop l.n l.first) (drop l.n l.second)

abbrev pub decreases-loop-n : goal.decreases-loop-n
decreases-loop-n l = length l.initial.first - l.n
