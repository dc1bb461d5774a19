use Rattle.std.proofs.Common.{Ok, ap}
use Rattle.std.proofs.lemmas.Result.{err_from_is_err_and}
use Rattle.vm_law.specs.declared.plan.Plan.{Plan}
use Rattle.vm_start.specs.Answers.{goes_on}
use Rattle.vm_start.specs.Files.{ImageIn}
use Rattle.vm_start.proofs.Steps.{off}
use Rattle.vm_start.proofs.setup.flat_setup.Goals as goal

pub returns-in_err-image-clause-value : goal.returns-in_err-image-clause-value
returns-in_err-image-clause-value c =
    let p = err_from_is_err_and c.from_residual.result c.from_residual.ensures.1 in
    rw (p.1, p.2) (off (ImageIn c.args.name.now 268435456 c.args.bytes.now) _ c.in_err-image.field-0.0 c.in_err-image.ensures.value)

pub returns-clause-value : goal.returns-clause-value
returns-clause-value c =
    goes_on c.in_ok-image.image c.in_ok-image.ensures.value (ap (λ (p : Plan). Ok (record { plan = p; image = c.in_ok-image.image })) c.in_ok-plan.ensures)
