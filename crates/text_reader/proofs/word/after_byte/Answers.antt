use Rattle.std.proofs.Common.{arith}
use Rattle.std.proofs.lemmas.Str.Pattern.{strip_prefix_char}
use Rattle.text_reader.proofs.Cuts.{after_byte_is}
use Rattle.text_reader.proofs.word.after_byte.Goals as goal

pub returns : goal.returns
returns c = after_byte_is c.args.first c.args.text.now c.strip_prefix.result (strip_prefix_char c.args.first c.args.text.now c.strip_prefix.result c.strip_prefix.ensures.cases (omega arith))
