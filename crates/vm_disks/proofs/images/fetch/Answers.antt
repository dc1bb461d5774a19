use Rattle.std.proofs.Common.{◌≡◌, true, arith}
use Rattle.blk_queue.specs.declared.progress.Unfinished.{Unfinished}
use Rattle.blk_queue.specs.Progress.{puts}
use Rattle.vm_disks.proofs.Lookup.{at_place, has_it}
use Rattle.vm_disks.proofs.Going.{less_moved, puts_tells, request_here}
use Rattle.vm_disks.proofs.images.fetch.Goals as goal

pub place-k-requires : goal.place-k-requires
place-k-requires c = has_it c.args.drive.now.queue c.args.id puts c.requires.drive.queue c.requires.may

pub write_out-requires-clause-asked : goal.write_out-requires-clause-asked
write_out-requires-clause-asked c =
    let x : Unfinished = record { id = c.nth-progress.result.0; request = c.nth-progress.result.2.now; progress = c.nth-progress.result.1 } in
    (request_here c.args.ram.now.memory c.args.drive.now c.place-k.result x c.requires.drive c.nth-progress.ensures).accepted.sound

pub write_out-requires-clause-fits : goal.write_out-requires-clause-fits
write_out-requires-clause-fits c =
    let x : Unfinished = record { id = c.nth-progress.result.0; request = c.nth-progress.result.2.now; progress = c.nth-progress.result.1 } in
    (request_here c.args.ram.now.memory c.args.drive.now c.place-k.result x c.requires.drive c.nth-progress.ensures).accepted.fits

pub write_out-requires-clause-whole : goal.write_out-requires-clause-whole
write_out-requires-clause-whole c =
    let x : Unfinished = record { id = c.nth-progress.result.0; request = c.nth-progress.result.2.now; progress = c.nth-progress.result.1 } in
    (request_here c.args.ram.now.memory c.args.drive.now c.place-k.result x c.requires.drive c.nth-progress.ensures).accepted.whole

pub write_out-requires-clause-more : goal.write_out-requires-clause-more
write_out-requires-clause-more c =
    let x : Unfinished = record { id = c.nth-progress.result.0; request = c.nth-progress.result.2.now; progress = c.nth-progress.result.1 } in
    let t = at_place c.args.drive.now.queue c.args.id c.place-k.result puts x c.requires.drive.queue c.requires.may c.place-k.ensures.there c.nth-progress.ensures in
    let less = less_moved x.request.count x.progress (puts_tells x t).more in
    omega (arith, less, c.moved_of.ensures)
