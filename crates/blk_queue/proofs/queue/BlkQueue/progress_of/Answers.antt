use Rattle.std.proofs.Common.{◌≡◌, false, ap, ◌∙◌}
use Rattle.std.specs.List.{list_any}
use Rattle.blk_queue.specs.declared.progress.Unfinished.{Unfinished}
use Rattle.blk_queue.proofs.Ids.{named}
use Rattle.blk_queue.proofs.Sound.{absent_is, there_is}
use Rattle.blk_queue.proofs.queue.BlkQueue.progress_of.Goals as goal

pub returns-in_err-at : goal.returns-in_err-at
returns-in_err-at c =
    let none : list_any (named c.args.id) c.self.inside.list.items ≡ false = rw c.as_slice.ensures.value at c.in_err-at.ensures in
    rw c.from_residual.ensures (absent_is c.args.self.now c.self.inside.next c.self.inside.list.items c.args.id c.self.view_is none)

pub returns : goal.returns
returns c =
    let list = c.self.inside.list.items in
    let i = c.in_ok-at.at in
    let x : Unfinished = c.index.result.now in
    let found = rw c.as_slice.ensures.value at c.in_ok-at.ensures in
    there_is c.args.self.now c.self.inside.next list c.args.id i x c.self.view_is c.self.invariant.1 found.0 c.index.ensures (ap (λ (y : Unfinished). y.id) c.index.ensures ∙ found.1 x)
