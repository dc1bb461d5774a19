use Rattle.std.proofs.Common.{arith, ap, ◌∙◌, ◌<◌, length, set, get_or}
use Rattle.std.proofs.lemmas.List.{get_or_default}
use Rattle.std.proofs.lemmas.List.Edits.{map_over_more}
use Rattle.blk_queue.specs.declared.progress.Progress.{Progress}
use Rattle.blk_queue.specs.declared.progress.Unfinished.{Unfinished}
use Rattle.blk_queue.specs.Steps.{mark_dropped}
use Rattle.blk_queue.proofs.list.mark_dropped.Goals as goal

pub loop-entry-preserved : goal.loop-entry-preserved
loop-entry-preserved c =
    let list = c.loop-entry.list in
    let i = c.loop-entry.entry-index in
    let x : Unfinished = get_or list i c.entry-item.result in
    let within : i < length list = omega arith in
    let first : i < length c.args.list.now = omega arith in
    ap (λ (p : Progress). set list i (record x { progress = p })) c.dropped-entry.ensures
    ∙ map_over_more mark_dropped c.args.list.now list i x first c.loop-entry.invariant (get_or_default list i c.entry-item.result x within)
