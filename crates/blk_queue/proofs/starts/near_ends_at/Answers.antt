use Rattle.std.proofs.Common.{List, ap, ◌∙◌}
use Rattle.std.specs.List.{list_any}
use Rattle.std.proofs.lemmas.List.{take_rest}
use Rattle.blk_queue.specs.declared.starts.Mark.{Mark}
use Rattle.blk_queue.specs.Starts.{ends_at}
use Rattle.blk_queue.proofs.Runs.{far_front}
use Rattle.blk_queue.proofs.starts.near_ends_at.Goals as goal

pub returns : goal.returns
returns c =
    let from = c.first_from-from.result in
    let splits = rw c.saturating_sub.ensures at c.first_from-from.ensures.splits in
    c.some_ends_at.ensures ∙ ap (λ (ys : List Mark). list_any (ends_at c.args.sector) ys) (take_rest c.args.marks.now from)
    ∙ far_front c.args.marks.now c.args.sector from c.requires.fit c.first_from-from.ensures.within splits
