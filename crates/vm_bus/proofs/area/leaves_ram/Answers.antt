use Rattle.std.proofs.Common.{◌∙◌, sym}
use Rattle.vm_bus.proofs.Ranges.{outside_ram}
use Rattle.vm_bus.proofs.area.leaves_ram.Goals as goal

pub returns-clause-bytes : goal.returns-clause-bytes
returns-clause-bytes c = c.touches.ensures.bytes ∙ sym (outside_ram c.args.addr c.args.len c.args.ram)
