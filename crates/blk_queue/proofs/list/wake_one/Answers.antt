use Rattle.std.proofs.Common.{get_or, set, sym, ap, ◌∙◌}
use Rattle.blk_queue.specs.declared.progress.Progress.{Progress}
use Rattle.blk_queue.specs.declared.progress.Unfinished.{Unfinished}
use Rattle.blk_queue.specs.Starts.{unblocked}
use Rattle.blk_queue.proofs.Ids.{changed_at, changed_none}
use Rattle.blk_queue.proofs.Fitting.{put_progress}
use Rattle.blk_queue.proofs.list.wake_one.Goals as goal

pub returns-in-Some : goal.returns-in-Some
returns-in-Some c =
    let list = c.args.list.now in
    let at = c.in-Some.at in
    let d : Unfinished = c.index-list-at.result in
    ap (λ (p : Progress). set list at (put_progress (get_or list at d) p)) c.unblocked-entry.ensures
    ∙ sym (changed_at 0 c.requires.0 c.args.id unblocked list at d c.requires.1 c.in-Some.ensures.0 (c.in-Some.ensures.1 d))

pub returns-in-None : goal.returns-in-None
returns-in-None c = sym (changed_none c.args.id unblocked c.args.list.now c.in-None.ensures)
