use Rattle.std.proofs.Common.{◌≡◌, true, arith}
use Rattle.blk_queue.specs.declared.progress.Unfinished.{Unfinished}
use Rattle.blk_queue.specs.Progress.{moves}
use Rattle.vm_disks.proofs.Lookup.{at_place, has_it}
use Rattle.vm_disks.proofs.Going.{less_moved, moves_tells, request_here}
use Rattle.vm_disks.proofs.moving.fill.Goals as goal

pub place-k-requires : goal.place-k-requires
place-k-requires c = has_it c.args.drive.now.queue c.args.id moves c.requires.drive.queue c.requires.may

pub read_in-requires-clause-asked : goal.read_in-requires-clause-asked
read_in-requires-clause-asked c =
    let x : Unfinished = record { id = c.nth-progress.result.0; request = c.nth-progress.result.2.now; progress = c.nth-progress.result.1 } in
    (request_here c.args.ram.now.memory c.args.drive.now c.place-k.result x c.requires.drive c.nth-progress.ensures).accepted.sound

pub read_in-requires-clause-fits : goal.read_in-requires-clause-fits
read_in-requires-clause-fits c =
    let x : Unfinished = record { id = c.nth-progress.result.0; request = c.nth-progress.result.2.now; progress = c.nth-progress.result.1 } in
    (request_here c.args.ram.now.memory c.args.drive.now c.place-k.result x c.requires.drive c.nth-progress.ensures).accepted.fits

pub read_in-requires-clause-whole : goal.read_in-requires-clause-whole
read_in-requires-clause-whole c =
    let x : Unfinished = record { id = c.nth-progress.result.0; request = c.nth-progress.result.2.now; progress = c.nth-progress.result.1 } in
    (request_here c.args.ram.now.memory c.args.drive.now c.place-k.result x c.requires.drive c.nth-progress.ensures).accepted.whole

pub read_in-requires-clause-read : goal.read_in-requires-clause-read
read_in-requires-clause-read c =
    let x : Unfinished = record { id = c.nth-progress.result.0; request = c.nth-progress.result.2.now; progress = c.nth-progress.result.1 } in
    let t = at_place c.args.drive.now.queue c.args.id c.place-k.result moves x c.requires.drive.queue c.requires.may c.place-k.ensures.there c.nth-progress.ensures in
    (moves_tells x t).0

pub read_in-requires-clause-more : goal.read_in-requires-clause-more
read_in-requires-clause-more c =
    let x : Unfinished = record { id = c.nth-progress.result.0; request = c.nth-progress.result.2.now; progress = c.nth-progress.result.1 } in
    let t = at_place c.args.drive.now.queue c.args.id c.place-k.result moves x c.requires.drive.queue c.requires.may c.place-k.ensures.there c.nth-progress.ensures in
    let less = less_moved x.request.count x.progress (moves_tells x t).1 in
    omega (arith, less, c.moved_of.ensures)
