use Rattle.std.proofs.Common.{◌≡◌, drop, false}
use Rattle.ctl_script.specs.Before.{is_closed}
use Rattle.ctl_script.proofs.before.is_closed.Given as goal

abbrev pub invariant-loop-order : goal.invariant-loop-order
invariant-loop-order l = is_closed l.paused (drop l.order-index l.before) l.name ≡ is_closed false l.before l.name
