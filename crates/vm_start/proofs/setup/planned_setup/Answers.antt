use Rattle.std.proofs.Common.{ℕ, List, Err, Ok, refl, subst, arith}
use Rattle.std.proofs.lemmas.Result.{err_from_is_err_and}
use Rattle.vm_start.specs.Answers.{UpToMemory, goes_on}
use Rattle.vm_start.specs.Files.{PlanIn}
use Rattle.vm_start.specs.Start.{ImageOf, image_name}
use Rattle.vm_start.proofs.Sound.{plan_in_ready}
use Rattle.vm_start.proofs.Steps.{on, off}
use Rattle.vm_start.proofs.setup.planned_setup.Goals as goal

pub returns-in_err-plan-clause-value : goal.returns-in_err-plan-clause-value
returns-in_err-plan-clause-value g c =
    let p = err_from_is_err_and c.from_residual.result c.from_residual.ensures.1 in
    rw (p.1, p.2) (off (PlanIn c.args.name.now c.args.bytes.now) _ c.in_err-plan.field-0.0 c.in_err-plan.ensures.value)

pub image_file-requires : goal.image_file-requires
image_file-requires g c = (plan_in_ready c.args.name.now c.args.bytes.now c.in_ok-plan.plan c.in_ok-plan.ensures.value).image

pub read_image-requires-after_bounds : goal.read_image-requires-after_bounds
read_image-requires-after_bounds g c =
    let ready = plan_in_ready c.args.name.now c.args.bytes.now c.in_ok-plan.plan c.in_ok-plan.ensures.value in
    omega (arith, ready.sound.memory.most)

pub returns-in_err-image-clause-value : goal.returns-in_err-image-clause-value
returns-in_err-image-clause-value g c =
    let host = g.H.Host.seen c.args.host.now in
    let name = c.args.name.now in
    let bytes = c.args.bytes.now in
    let plan = c.in_ok-plan.plan in
    let p = err_from_is_err_and c.from_residual-in_err-image.result c.from_residual-in_err-image.ensures.1 in
    let value = subst (λ (n : List ℕ). UpToMemory (ImageOf host.tells host.file n plan.memory) (Err c.in_err-image.field-0.0)) c.image_file.ensures c.in_err-image.ensures.value in
    rw (p.1, p.2) (on (PlanIn name bytes) _ plan (Err c.in_err-image.field-0.0) c.in_ok-plan.ensures.value
    (off (ImageOf host.tells host.file (image_name plan.image) plan.memory) _ c.in_err-image.field-0.0 value))

pub returns-clause-value : goal.returns-clause-value
returns-clause-value g c =
    let host = g.H.Host.seen c.args.host.now in
    let plan = c.in_ok-plan.plan in
    let image = c.in_ok-image.image in
    let value = subst (λ (n : List ℕ). ImageOf host.tells host.file n plan.memory (Ok image)) c.image_file.ensures c.in_ok-image.ensures.value in
    goes_on plan c.in_ok-plan.ensures.value (goes_on image value refl)
