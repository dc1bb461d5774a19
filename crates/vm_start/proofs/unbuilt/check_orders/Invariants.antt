use Rattle.std.proofs.Common.{◌≡◌, drop}
use Rattle.vm_start.specs.Start.{built}
use Rattle.vm_start.proofs.unbuilt.check_orders.Given as goal

abbrev pub invariant-loop-order : goal.invariant-loop-order
invariant-loop-order l = built l.script ≡ built (drop l.order-index l.script)
