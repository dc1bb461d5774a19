use Rattle.std.proofs.Common.{arith}
use Rattle.std.proofs.lemmas.Str.Pattern.{split_once_first}
use Rattle.text_reader.proofs.Cuts.{cut_is, cut_shorter}
use Rattle.text_reader.proofs.word.cut_at.Goals as goal

pub returns-clause-value : goal.returns-clause-value
returns-clause-value c = cut_is c.args.at c.args.text.now c.split_once.result (split_once_first c.args.at c.args.text.now c.split_once.result c.split_once.ensures.cases (omega arith))

pub returns-clause-shorter : goal.returns-clause-shorter
returns-clause-shorter c = cut_shorter c.args.at c.args.text.now c.split_once.result (split_once_first c.args.at c.args.text.now c.split_once.result c.split_once.ensures.cases (omega arith))
