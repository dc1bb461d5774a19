use Rattle.std.proofs.Common.{ℕ, List, subst}
use Rattle.std.proofs.lemmas.Result.{err_from_is_err_and}
use Rattle.vm_status.specs.declared.role.Role.TheVariants.{Image}
use Rattle.vm_start.specs.Answers.{UpToMemory}
use Rattle.vm_start.specs.Files.{ImageIn, image_limit}
use Rattle.vm_start.proofs.Loads.{image_long, read, unread_plain}
use Rattle.vm_start.proofs.image.read_image.Goals as goal

pub returns-in_err-bytes-clause-value : goal.returns-in_err-bytes-clause-value
returns-in_err-bytes-clause-value g c =
    let host = g.H.Host.seen c.args.host.now in
    let name = c.args.name.now in
    let memory = c.args.memory in
    let p = err_from_is_err_and c.from_residual.result c.from_residual.ensures.1 in
    rw (p.1, p.2) (unread_plain host.tells host.file name (ImageIn name memory) Image (image_limit memory) (λ b far. image_long name memory b far) c.in_err-bytes.field-0.0 c.in_err-bytes.ensures.refused)

pub returns-clause-value : goal.returns-clause-value
returns-clause-value g c =
    let host = g.H.Host.seen c.args.host.now in
    let name = c.args.name.now in
    let memory = c.args.memory in
    read host.tells host.file name (ImageIn name memory) c.in_ok-bytes.bytes c.image_in.result c.in_ok-bytes.ensures.bytes
    (subst (λ (b : List ℕ). UpToMemory (ImageIn name memory b) c.image_in.result) c.as_slice.ensures c.image_in.ensures.value)
