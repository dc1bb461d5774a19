use Rattle.std.proofs.Common.{arith}
use Rattle.std.proofs.lemmas.Bool.Decides.{nat_tests}
use Rattle.vm_bus.proofs.Ranges.{no_code}
use Rattle.vm_bus.proofs.area.touches_code.Goals as goal

pub returns-else-code-gt0-clause-bytes : goal.returns-else-code-gt0-clause-bytes
returns-else-code-gt0-clause-bytes c =
    rw (no_code c.args.addr c.args.len c.args.code (omega arith)) (grind (arith, nat_tests))
