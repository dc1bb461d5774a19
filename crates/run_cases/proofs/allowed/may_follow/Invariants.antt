use Rattle.std.proofs.Common.{◌≡◌, drop}
use Rattle.vm_state.specs.Script.{may_follow, no_past}
use Rattle.run_cases.specs.Before.{past_of}
use Rattle.run_cases.proofs.allowed.may_follow.Given as goal

abbrev pub invariant-loop-order : goal.invariant-loop-order
invariant-loop-order l = may_follow l.plan no_past l.script ≡ may_follow l.plan (past_of l.before) (drop l.order-index l.script)
