use Rattle.std.proofs.Common.{rules}
use Rattle.std.proofs.lemmas.Fn.{filter_same}
use Rattle.blk_queue.specs.Progress.{is_busy}
use Rattle.blk_queue.proofs.list.keep_busy.Goals as goal

pub returns-clause-kept : goal.returns-clause-kept
returns-clause-kept c = filter_same _ is_busy _ (λ x b f' k. search rules) _ _ c.retain.ensures.filtered
