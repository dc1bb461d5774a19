use Rattle.std.proofs.Common.{◌∷◌, [], arith, ap, sym, ◌∙◌, set}
use Rattle.std.proofs.lemmas.List.Edits.{map_over_more}
use Rattle.blk_queue.specs.declared.progress.Unfinished.{Unfinished}
use Rattle.blk_queue.specs.Steps.{freed}
use Rattle.chip_tests.proofs.plain_queue.free.Goals as goal

pub loop-entry-preserved : goal.loop-entry-preserved
loop-entry-preserved c =
    let frees = freed (c.args.leaving.now ∷ []) in
    ap (λ (z : Unfinished). set c.loop-entry.list c.loop-entry.entry-index z) (c.free_one.ensures ∙ ap frees (sym c.entry-item.is))
    ∙ map_over_more frees c.args.list.now c.loop-entry.list c.loop-entry.entry-index c.entry-item.result (omega arith) c.loop-entry.invariant c.entry-item.is
