use Rattle.std.proofs.Common.{arith, None}
use Rattle.std.proofs.lemmas.Str.Pattern.{strip_suffix_char}
use Rattle.asm_words.proofs.Blanks.{ends_at_tab}
use Rattle.asm_words.proofs.blank.before_blank.Goals as goal

pub returns-in-None-clause-value : goal.returns-in-None-clause-value
returns-in-None-clause-value c =
    ends_at_tab c.args.text.now c.strip_suffix-in-None.result
    (strip_suffix_char 32 c.args.text.now None c.in-None.ensures.cases (omega arith))
    (strip_suffix_char 9 c.args.text.now c.strip_suffix-in-None.result c.strip_suffix-in-None.ensures.cases (omega arith))
