use Rattle.std.proofs.Common.{◌≡◌, false}
use Rattle.std.proofs.lemmas.Result.{err_from_is_err_and}
use Rattle.vm_start.specs.Files.{FileOf, is_disk_size}
use Rattle.vm_start.specs.Start.{DiskOf}
use Rattle.vm_start.proofs.Back.{up_as, disk_as}
use Rattle.vm_start.proofs.Loads.{disk_refused}
use Rattle.vm_start.proofs.Steps.{off, refuse}
use Rattle.vm_start.proofs.disks.read_disk.Goals as goal

pub returns-in_err-size-clause-value : goal.returns-in_err-size-clause-value
returns-in_err-size-clause-value g c =
    let host = g.H.Host.seen c.args.host.now in
    let name = c.args.name.now in
    let p = err_from_is_err_and c.from_residual.result c.from_residual.ensures.1 in
    rw (p.1, p.2) (off (FileOf host.tells host.file name) _ c.in_err-size.field-0.0 c.in_err-size.ensures.refused)

pub returns-then-not-is_disk_size-clause-value : goal.returns-then-not-is_disk_size-clause-value
returns-then-not-is_disk_size-clause-value g c =
    let host = g.H.Host.seen c.args.host.now in
    let name = c.args.name.now in
    let size = c.in_ok-size.size in
    let bad : is_disk_size size ≡ false = cc in
    refuse (DiskOf host.tells host.file name) _ c.bad.result c.bad.ensures (disk_refused host.tells host.file name size c.in_ok-size.ensures.value bad)

pub returns-clause-value : goal.returns-clause-value
returns-clause-value g c =
    let host = g.H.Host.seen c.args.host.now in
    let now = g.H.Host.seen c.disk_size.new.host in
    let name = c.args.name.now in
    up_as (DiskOf now.tells now.file name) (DiskOf host.tells host.file name) (disk_as host now c.disk_size.ensures.leaves name) c.load_disk.result c.load_disk.ensures.value
