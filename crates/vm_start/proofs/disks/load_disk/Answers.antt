use Rattle.std.proofs.Common.{◌≡◌, ◌∙◌, ℕ, List, Err, sym, ap, subst}
use Rattle.vm_status.specs.declared.refusal.Refusal.{Refusal}
use Rattle.vm_start.specs.Answers.{Is, UpToMemory}
use Rattle.vm_start.specs.Files.{disk_in}
use Rattle.vm_start.specs.Start.{DiskOf}
use Rattle.vm_start.specs.Steps.{unloaded}
use Rattle.vm_start.proofs.Loads.{read, disk_unloaded}
use Rattle.vm_start.proofs.disks.load_disk.Goals as goal

pub returns-in-Ok-clause-value : goal.returns-in-Ok-clause-value
returns-in-Ok-clause-value g c =
    let host = g.H.Host.seen c.args.host.now in
    let name = c.args.name.now in
    read host.tells host.file name (λ b. Is (disk_in name b)) c.in-Ok.bytes.items c.disk_in.result c.in-Ok.ensures.bytes
    (subst (λ (b : List ℕ). UpToMemory (Is (disk_in name b)) c.disk_in.result) c.from_vec.ensures c.disk_in.ensures.value)

pub returns-in-Err-clause-value : goal.returns-in-Err-clause-value
returns-in-Err-clause-value g c =
    let host = g.H.Host.seen c.args.host.now in
    let name = c.args.name.now in
    let size = c.args.size in
    let same : c.unloaded.result ≡ unloaded name size c.in-Err.fault = c.unloaded.ensures ∙ ap (λ (n : List ℕ). unloaded n size c.in-Err.fault) c.in_ok-owned.ensures in
    subst (λ (r : Refusal). UpToMemory (DiskOf host.tells host.file name) (Err r)) (sym same)
    (disk_unloaded host.tells host.file name size c.in-Err.fault c.in-Err.ensures.missing c.in-Err.ensures.long c.requires.measured c.requires.size)
