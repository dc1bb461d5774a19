use Rattle.std.proofs.Common.{arith}
use Rattle.vm_status.specs.declared.role.Role.TheVariants.{Image}
use Rattle.vm_start.specs.Answers.{Is}
use Rattle.vm_start.specs.Files.{ImageIn, Imaged, image_limit, within}
use Rattle.vm_start.proofs.Loads.{image_long, within_ok}
use Rattle.vm_start.proofs.Steps.{on, refuse}
use Rattle.vm_start.proofs.image.image_in.Goals as goal

pub returns-then-bytes-most-clause-value : goal.returns-then-bytes-most-clause-value
returns-then-bytes-most-clause-value c =
    let name = c.args.name.now in
    refuse (ImageIn name c.args.memory c.args.bytes.now) _ c.bad.result c.bad.ensures (image_long name c.args.memory c.args.bytes.now (omega arith))

pub returns-clause-value : goal.returns-clause-value
returns-clause-value c =
    let name = c.args.name.now in
    let memory = c.args.memory in
    let bytes = c.args.bytes.now in
    on (Is (within Image name (image_limit memory) bytes)) (λ b. Imaged name memory b) bytes c.imaged.result (within_ok Image name (image_limit memory) bytes (omega arith)) c.imaged.ensures.value
