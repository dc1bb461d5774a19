use Rattle.std.proofs.Common.{ℕ, List, subst}
use Rattle.std.proofs.lemmas.Result.{err_from_is_err_and}
use Rattle.vm_start.specs.Answers.{UpToMemory}
use Rattle.vm_start.specs.Files.{PlanIn, text_limit}
use Rattle.vm_status.specs.declared.role.Role.TheVariants.{Configuration}
use Rattle.vm_start.proofs.Loads.{plan_long, read, unread_plain}
use Rattle.vm_start.proofs.planning.plan_of.Goals as goal

pub returns-in_err-bytes-clause-plan : goal.returns-in_err-bytes-clause-plan
returns-in_err-bytes-clause-plan g c =
    let host = g.H.Host.seen c.args.host.now in
    let name = c.args.name.now in
    let p = err_from_is_err_and c.from_residual.result c.from_residual.ensures.1 in
    rw (p.1, p.2) (unread_plain host.tells host.file name (PlanIn name) Configuration text_limit (λ b far. plan_long name b far) c.in_err-bytes.field-0.0 c.in_err-bytes.ensures.refused)

pub returns-clause-plan : goal.returns-clause-plan
returns-clause-plan g c =
    let host = g.H.Host.seen c.args.host.now in
    let name = c.args.name.now in
    read host.tells host.file name (PlanIn name) c.in_ok-bytes.bytes c.plan_in.result c.in_ok-bytes.ensures.bytes
    (subst (λ (b : List ℕ). UpToMemory (PlanIn name b) c.plan_in.result) c.as_slice.ensures c.plan_in.ensures.value)
