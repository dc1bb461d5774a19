use Rattle.std.proofs.Common.{◌≡◌, false, sym, ◌∙◌, arith}
use Rattle.blk_queue.specs.declared.progress.Unfinished.{Unfinished}
use Rattle.blk_queue.specs.Progress.{is_flush, puts}
use Rattle.vblk_req.specs.Request.{IsSound as IsAsked}
use Rattle.vm_state.specs.Requests.{capacity_of}
use Rattle.vm_disks.proofs.Lookup.{at_place, has_it}
use Rattle.vm_disks.proofs.Going.{all_here, not_true, puts_tells, sector_inside}
use Rattle.vm_disks.proofs.images.note.Goals as goal

pub place-k-requires : goal.place-k-requires
place-k-requires c = has_it c.args.drive.now.queue c.args.id puts c.is_sound.ensures c.requires.may

pub overflow_add-sector : goal.overflow_add-sector
overflow_add-sector c =
    let x : Unfinished = record { id = c.nth-progress.result.0; request = c.nth-progress.result.2.now; progress = c.nth-progress.result.1 } in
    let t = at_place c.args.drive.now.queue c.args.id c.place-k.result puts x c.is_sound.ensures c.requires.may c.place-k.ensures.there c.nth-progress.ensures in
    let sectors : is_flush x.request ≡ false = not_true (is_flush x.request) (sym c.has_data.ensures ∙ c.if-has_data.true) in
    let inside = sector_inside c.args.drive.now.bytes x (all_here (λ (y : Unfinished). IsAsked (capacity_of c.args.drive.now.bytes) y.request) c.args.drive.now.queue.requests c.place-k.result x c.requires.asked c.nth-progress.ensures) sectors (puts_tells x t).more in
    omega (arith, inside, c.moved_of.ensures, c.requires.small, c.requires.size, c.requires.marks)

pub settle-requires-clause-disk : goal.settle-requires-clause-disk
settle-requires-clause-disk c =
    let x : Unfinished = record { id = c.nth-progress.result.0; request = c.nth-progress.result.2.now; progress = c.nth-progress.result.1 } in
    let t = at_place c.args.drive.now.queue c.args.id c.place-k.result puts x c.is_sound.ensures c.requires.may c.place-k.ensures.there c.nth-progress.ensures in
    let sectors : is_flush x.request ≡ false = not_true (is_flush x.request) (sym c.has_data.ensures ∙ c.if-has_data.true) in
    let inside = sector_inside c.args.drive.now.bytes x (all_here (λ (y : Unfinished). IsAsked (capacity_of c.args.drive.now.bytes) y.request) c.args.drive.now.queue.requests c.place-k.result x c.requires.asked c.nth-progress.ensures) sectors (puts_tells x t).more in
    omega (arith, inside, c.moved_of.ensures, c.requires.small, c.requires.size, c.requires.marks)

pub settle-requires-clause-image : goal.settle-requires-clause-image
settle-requires-clause-image c =
    let x : Unfinished = record { id = c.nth-progress.result.0; request = c.nth-progress.result.2.now; progress = c.nth-progress.result.1 } in
    let t = at_place c.args.drive.now.queue c.args.id c.place-k.result puts x c.is_sound.ensures c.requires.may c.place-k.ensures.there c.nth-progress.ensures in
    let sectors : is_flush x.request ≡ false = not_true (is_flush x.request) (sym c.has_data.ensures ∙ c.if-has_data.true) in
    let inside = sector_inside c.args.drive.now.bytes x (all_here (λ (y : Unfinished). IsAsked (capacity_of c.args.drive.now.bytes) y.request) c.args.drive.now.queue.requests c.place-k.result x c.requires.asked c.nth-progress.ensures) sectors (puts_tells x t).more in
    omega (arith, inside, c.moved_of.ensures, c.requires.small, c.requires.size, c.requires.marks)

pub settle-requires-clause-mark : goal.settle-requires-clause-mark
settle-requires-clause-mark c =
    let x : Unfinished = record { id = c.nth-progress.result.0; request = c.nth-progress.result.2.now; progress = c.nth-progress.result.1 } in
    let t = at_place c.args.drive.now.queue c.args.id c.place-k.result puts x c.is_sound.ensures c.requires.may c.place-k.ensures.there c.nth-progress.ensures in
    let sectors : is_flush x.request ≡ false = not_true (is_flush x.request) (sym c.has_data.ensures ∙ c.if-has_data.true) in
    let inside = sector_inside c.args.drive.now.bytes x (all_here (λ (y : Unfinished). IsAsked (capacity_of c.args.drive.now.bytes) y.request) c.args.drive.now.queue.requests c.place-k.result x c.requires.asked c.nth-progress.ensures) sectors (puts_tells x t).more in
    omega (arith, inside, c.moved_of.ensures, c.requires.small, c.requires.size, c.requires.marks)
