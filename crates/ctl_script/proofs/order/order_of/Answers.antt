use Rattle.ctl_script.proofs.Words.{five_words}
use Rattle.ctl_script.proofs.order.order_of.Goals as goal

pub returns-in-len5-up : goal.returns-in-len5-up
returns-in-len5-up c = five_words c.args.situation c.args.before.now c.args.words.now c.in-len5-up.len_at_least
