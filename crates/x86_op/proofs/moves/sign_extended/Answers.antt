use Rattle.std.proofs.Common.{sym, ◌∙◌}
use Rattle.x86_op.proofs.Extended.{extended_negative, extended_positive}
use Rattle.x86_op.proofs.moves.sign_extended.Goals as goal

pub returns-then-is_negative-clause-result : goal.returns-then-is_negative-clause-result
returns-then-is_negative-clause-result c =
    c.truncated.ensures.result
    ∙ extended_negative c.args.from c.args.to c.args.value c.mask_of.result c.mask_of.ensures c.requires (sym c.is_negative.ensures ∙ c.if-is_negative.true)

pub returns-else-is_negative-clause-result : goal.returns-else-is_negative-clause-result
returns-else-is_negative-clause-result c =
    c.truncated-else-is_negative.ensures.result
    ∙ extended_positive c.args.from c.args.to c.args.value (sym c.is_negative.ensures ∙ c.if-is_negative.false)
