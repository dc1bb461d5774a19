use Rattle.std.proofs.Common.{Bool, true, subst}
use Rattle.vm_start.specs.Answers.{UpToMemory}
use Rattle.vm_start.specs.Start.{PlanOf}
use Rattle.vm_start.proofs.Exact.{completes, refuses, plan_of_exact}
use Rattle.vm_start.proofs.planning.read_plan.Goals as goal

pub returns-clause-complete : goal.returns-clause-complete
returns-clause-complete g c = λ plan told is calm.
    let file = (g.H.Host.seen c.args.host.now).file in
    let name = c.args.name.now in
    completes (PlanOf true file name) (plan_of_exact file name) plan c.plan_of.result _ _
    (subst (λ (t : Bool). UpToMemory (PlanOf t file name) c.plan_of.result) told c.plan_of.ensures.plan) c.plan_of.ensures.causes is calm

pub returns-clause-exact : goal.returns-clause-exact
returns-clause-exact g c = λ e told is.
    let file = (g.H.Host.seen c.args.host.now).file in
    let name = c.args.name.now in
    refuses (PlanOf true file name) (plan_of_exact file name) e c.plan_of.result
    (subst (λ (t : Bool). UpToMemory (PlanOf t file name) c.plan_of.result) told c.plan_of.ensures.plan) is
