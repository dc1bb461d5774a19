use Rattle.std.proofs.Common.{Err, arith}
use Rattle.std.proofs.lemmas.Result.{err_from_is_err_and}
use Rattle.vm_start.specs.Answers.{Is}
use Rattle.vm_start.specs.Files.{PlanIn, within, text_limit}
use Rattle.vm_status.specs.declared.role.Role.TheVariants.{Configuration}
use Rattle.vm_start.proofs.Loads.{plan_long, within_ok}
use Rattle.vm_start.proofs.Steps.{on, off, refuse}
use Rattle.vm_start.proofs.planning.plan_in.Goals as goal

pub returns-then-bytes-gt-TEXT_LIMIT-clause-value : goal.returns-then-bytes-gt-TEXT_LIMIT-clause-value
returns-then-bytes-gt-TEXT_LIMIT-clause-value c =
    let name = c.args.name.now in
    let bytes = c.args.bytes.now in
    refuse (PlanIn name bytes) _ c.bad.result c.bad.ensures (plan_long name bytes (omega arith))

pub returns-in_err-config-clause-value : goal.returns-in_err-config-clause-value
returns-in_err-config-clause-value c =
    let name = c.args.name.now in
    let bytes = c.args.bytes.now in
    let p = err_from_is_err_and c.from_residual.result c.from_residual.ensures.1 in
    rw (p.1, p.2) (on (Is (within Configuration name text_limit bytes)) _ bytes (Err c.in_err-config.field-0.0) (within_ok Configuration name text_limit bytes (omega arith))
    (off _ _ c.in_err-config.field-0.0 c.in_err-config.ensures.value))

pub returns-clause-value : goal.returns-clause-value
returns-clause-value c =
    let name = c.args.name.now in
    let bytes = c.args.bytes.now in
    on (Is (within Configuration name text_limit bytes)) _ bytes c.plan_from.result (within_ok Configuration name text_limit bytes (omega arith))
    (on _ _ c.in_ok-config.config c.plan_from.result c.in_ok-config.ensures.value c.plan_from.ensures.value)
