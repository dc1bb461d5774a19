use Rattle.std.proofs.Common.{arith}
use Rattle.std.proofs.lemmas.Bool.Decides.{nat_tests}
use Rattle.vm_bus.proofs.Ranges.{any_byte-between}
use Rattle.vm_bus.proofs.area.touches.Goals as goal

pub returns-then-before-len-clause-bytes : goal.returns-then-before-len-clause-bytes
returns-then-before-len-clause-bytes c =
    let a = c.args in
    rw (any_byte-between a.addr a.len a.first a.last (omega arith) (omega arith) c.requires (omega arith)) (grind (arith, nat_tests))

pub returns-then-first-addr-clause-bytes : goal.returns-then-first-addr-clause-bytes
returns-then-first-addr-clause-bytes c =
    let a = c.args in
    rw (any_byte-between a.addr a.len a.first a.last (omega arith) (omega arith) c.requires (omega arith)) (grind (arith, nat_tests))

pub returns-else-first-addr-clause-bytes : goal.returns-else-first-addr-clause-bytes
returns-else-first-addr-clause-bytes c =
    let a = c.args in
    rw (any_byte-between a.addr a.len a.first a.last (omega arith) (omega arith) c.requires (omega arith)) (grind (arith, nat_tests))
