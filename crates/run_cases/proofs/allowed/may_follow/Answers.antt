use Rattle.std.proofs.Common.{◌+◌, ◌∙◌, sym, ap, drop}
use Rattle.vm_state.specs.Script as spec
use Rattle.run_cases.specs.Before.{past_of}
use Rattle.run_cases.proofs.Following.{stops_at, goes_at, ends_at}
use Rattle.run_cases.proofs.allowed.may_follow.Goals as goal

pub returns-then-not-may_stand : goal.returns-then-not-may_stand
returns-then-not-may_stand c =
    sym (c.loop-order.invariant
    ∙ stops_at c.args.plan.now (past_of c.loop-order.before) c.args.script.now c.loop-order.order-index c.order-item.result c.loop-order-test.true c.order-item.is (sym c.may_stand.ensures ∙ c.if-not-may_stand.true))

pub loop-order-preserved : goal.loop-order-preserved
loop-order-preserved c =
    c.loop-order.invariant
    ∙ goes_at c.args.plan.now (past_of c.loop-order.before) c.args.script.now c.loop-order.order-index c.order-item.result c.loop-order-test.true c.order-item.is (sym c.may_stand.ensures ∙ c.if-not-may_stand.false)
    ∙ ap (λ p. spec.may_follow c.args.plan.now p (drop (c.loop-order.order-index + 1) c.args.script.now)) (sym c.in_ok-before.ensures)

pub returns : goal.returns
returns c = sym (c.loop-order.invariant ∙ ends_at c.args.plan.now (past_of c.loop-order.before) c.args.script.now c.loop-order.order-index c.loop-order-test.false)
