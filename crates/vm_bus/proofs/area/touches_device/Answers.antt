use Rattle.std.proofs.Common.{arith}
use Rattle.std.proofs.lemmas.Grind.{common_steps}
use Rattle.vm_bus.proofs.Ranges.{in_device}
use Rattle.vm_bus.proofs.area.touches_device.Goals as goal

pub returns-then-touches-2-clause-bytes : goal.returns-then-touches-2-clause-bytes
returns-then-touches-2-clause-bytes c = rw (in_device c.args.addr c.args.len) (grind (arith, common_steps))

pub returns-else-touches-2-clause-bytes : goal.returns-else-touches-2-clause-bytes
returns-else-touches-2-clause-bytes c = rw (in_device c.args.addr c.args.len) (grind (arith, common_steps))
