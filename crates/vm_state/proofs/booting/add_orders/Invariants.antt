use Rattle.std.proofs.Common.{◌≡◌, ◌++◌, take}
use Rattle.std.specs.Prelude.{map}
use Rattle.vm_state.specs.View.{fresh}
use Rattle.vm_state.proofs.booting.add_orders.Given as goal

abbrev pub invariant-loop-order : goal.invariant-loop-order
invariant-loop-order l = l.orders.items ≡ l.initial.orders.items ++ map fresh (take l.order-index l.script)
