use Rattle.std.proofs.Common.{List, map, sym, ap, ◌∙◌}
use Rattle.blk_queue.specs.declared.starts.Mark.{Mark}
use Rattle.blk_queue.specs.Starts.{woken}
use Rattle.blk_queue.proofs.Waking.{freed_is, freed_by_flush}
use Rattle.blk_queue.proofs.list.free_by.Goals as goal

pub returns-then-has_start : goal.returns-then-has_start
returns-then-has_start c =
    c.wake.ensures ∙ ap (λ (ms : List Mark). map (woken ms) c.args.list.now) c.starting_at.ensures
    ∙ freed_is c.args.list.now c.args.starts.now c.requires.ids.0 c.args.leaving.now c.requires.ids.1 c.requires.indexed (sym c.has_start.ensures ∙ c.if-has_start.true)

pub returns-else-has_start : goal.returns-else-has_start
returns-else-has_start c = freed_by_flush c.args.leaving.now c.args.list.now (sym c.has_start.ensures ∙ c.if-has_start.false)
