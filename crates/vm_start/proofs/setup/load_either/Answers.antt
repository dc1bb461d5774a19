use Rattle.std.proofs.Common.{◌≡◌, ◌⊎◌, Bool, Err, subst, IsSomeAnd}
use Rattle.std.proofs.lemmas.Result.{err_from_is_err_and}
use Rattle.vm_host.specs.Told.{WhereTold}
use Rattle.vm_status.specs.declared.refusal.Refusal.{Refusal}
use Rattle.vm_status.specs.declared.refusal.Refusal.TheVariants.{Memory}
use Rattle.vm_status.specs.declared.role.Role.TheVariants.{Configuration, Image}
use Rattle.vm_start.specs.Files.{FileOf}
use Rattle.vm_start.specs.Start.{SetupIn, SetupOf, has_magic}
use Rattle.vm_start.specs.Steps.{Unread}
use Rattle.vm_start.proofs.Back.{unread_back}
use Rattle.vm_start.proofs.Loads.{flat_unread, planned_unread}
use Rattle.vm_start.proofs.Steps.{off, if_err}
use Rattle.vm_start.proofs.setup.load_either.Goals as goal

pub returns-in_err-begins_as_image-clause-refused : goal.returns-in_err-begins_as_image-clause-refused
returns-in_err-begins_as_image-clause-refused g c =
    let host = g.H.Host.seen c.args.host.now in
    let name = c.args.name.now in
    let p = err_from_is_err_and c.from_residual.result c.from_residual.ensures.1 in
    rw (p.1, p.2) (off (FileOf host.tells host.file name) (SetupIn host.tells host.file name) c.in_err-begins_as_image.field-0.0 c.in_err-begins_as_image.ensures.refused)

pub returns-then-branch-clause-refused : goal.returns-then-branch-clause-refused
returns-then-branch-clause-refused g c =
    let host = g.H.Host.seen c.args.host.now in
    let now = g.H.Host.seen c.begins_as_image.new.host in
    let name = c.args.name.now in
    let begins = subst (λ (b : Bool). WhereTold host.tells (IsSomeAnd (host.file name) (λ f. b ≡ has_magic f))) c.if-branch.true c.in_ok-begins_as_image.ensures.value in
    if_err c.load_file.result (λ (e : Refusal). Unread now.tells (now.file name) Image name 268435480 e) (λ (e : Refusal). (e ≡ Memory) ⊎ SetupOf host.tells host.file name (Err e))
    (λ e u. flat_unread host.tells host.file name begins e (unread_back host now c.in_ok-begins_as_image.ensures.leaves Image name 268435480 e u)) c.load_file.ensures.refused

pub returns-else-branch-clause-refused : goal.returns-else-branch-clause-refused
returns-else-branch-clause-refused g c =
    let host = g.H.Host.seen c.args.host.now in
    let now = g.H.Host.seen c.begins_as_image.new.host in
    let name = c.args.name.now in
    let begins = subst (λ (b : Bool). WhereTold host.tells (IsSomeAnd (host.file name) (λ f. b ≡ has_magic f))) c.if-branch.false c.in_ok-begins_as_image.ensures.value in
    if_err c.load_file-else-branch.result (λ (e : Refusal). Unread now.tells (now.file name) Configuration name 1048576 e) (λ (e : Refusal). (e ≡ Memory) ⊎ SetupOf host.tells host.file name (Err e))
    (λ e u. planned_unread host.tells host.file name begins e (unread_back host now c.in_ok-begins_as_image.ensures.leaves Configuration name 1048576 e u)) c.load_file-else-branch.ensures.refused
