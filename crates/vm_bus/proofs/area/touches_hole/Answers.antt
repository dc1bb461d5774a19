use Rattle.std.proofs.Common.{◌∙◌, sym}
use Rattle.vm_bus.proofs.Ranges.{in_hole}
use Rattle.vm_bus.proofs.area.touches_hole.Goals as goal

pub returns : goal.returns
returns c = c.touches.ensures.bytes ∙ sym (in_hole c.args.addr c.args.len)
