use Rattle.std.proofs.Common.{◌≡◌, Err, ap}
use Rattle.vm_image.specs.declared.error.ImageError.{ImageError}
use Rattle.vm_image.specs.declared.error.ImageError.TheVariants.{Fault}
use Rattle.vm_status.specs.declared.kind.Kind.{Kind}
use Rattle.vm_status.specs.declared.refusal.Refusal.TheVariants.{Bad}
use Rattle.vm_status.specs.declared.role.Role.TheVariants.{Image}
use Rattle.vm_start.specs.Files.{Imaged}
use Rattle.vm_start.proofs.Steps.{refuse}
use Rattle.vm_start.proofs.image.imaged.Goals as goal

pub returns-in-Err-Fault-clause-value : goal.returns-in-Err-Fault-clause-value
returns-in-Err-Fault-clause-value c =
    let name = c.args.name.now in
    let at = c.in-Err-Fault.at in
    let kind = c.in-Err-Fault.kind in
    refuse (Imaged name c.args.memory c.args.bytes.now) (Bad Image name at c.image_kind.result) c.bad.result c.bad.ensures
    (at, (kind, (c.in-Err-Fault.ensures.fault at kind).0 (let e : c.in-Err-Fault.field-0 ≡ Fault at kind = cc in ap (λ (x : ImageError). Err x) e), ap (λ (k : Kind). Bad Image name at k) c.image_kind.ensures))
