use Rattle.std.proofs.Common.{◌∙◌, sym, arith}
use Rattle.vm_bus.proofs.Ranges.{area_of-low}
use Rattle.vm_bus.proofs.area.area_at.Goals as goal

pub returns-then-len-addr-clause-area : goal.returns-then-len-addr-clause-area
returns-then-len-addr-clause-area c =
    let a = c.args in
    c.memory_at.ensures.area ∙ sym (area_of-low a.addr a.len a.code a.ram (omega arith) (omega arith))
