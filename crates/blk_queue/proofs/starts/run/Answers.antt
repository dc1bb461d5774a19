use Rattle.std.proofs.Common.{take, ap, ◌∙◌}
use Rattle.std.proofs.lemmas.List.{take_rest}
use Rattle.blk_queue.specs.declared.starts.Mark.{Mark}
use Rattle.std.proofs.Common.{List}
use Rattle.blk_queue.proofs.Runs.{run_is}
use Rattle.blk_queue.proofs.starts.run.Goals as goal

pub returns : goal.returns
returns c =
    let from = c.first_from-from.result in
    let count = c.first_behind-count.result in
    let rest = take_rest c.args.marks.now from in
    let fits = rw take_rest at c.first_behind-count.ensures.within in
    let splits = rw take_rest at c.first_behind-count.ensures.splits in
    ap (λ (ys : List Mark). take count ys) rest ∙ run_is c.args.marks.now c.args.sector from count c.first_from-from.ensures.within fits c.first_from-from.ensures.splits splits
