use Rattle.std.proofs.Common.{rules, tests}
use Rattle.std.proofs.lemmas.Iterator.Consumers.{map_from_collect, YieldsList-from_filter, YieldsList-at}
use Rattle.std.proofs.lemmas.Iterator.Splits.{YieldsList-from_str_split}
use Rattle.text_reader.specs.Word.{is_nonempty}
use Rattle.text_reader.proofs.word.words_at.Goals as goal

pub returns : goal.returns
returns c = map_from_collect c.collect.result c.collect.ensures.ran (YieldsList-from_filter _ is_nonempty
    (YieldsList-at c.filter.ensures.source (YieldsList-from_str_split c.args.at c.args.text.now c.requires c.split.ensures.text c.split.ensures.has_more c.split.ensures.pattern))
    c.filter.ensures.closure (λ x r q k. search (rules, tests)))
