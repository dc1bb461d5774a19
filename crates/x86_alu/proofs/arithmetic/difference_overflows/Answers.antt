use Rattle.std.proofs.Common.{◌∙◌}
use Rattle.x86_alu.specs.Flags.{bit}
use Rattle.x86_alu.proofs.Overflow.{bit_le}
use Rattle.x86_alu.proofs.Digits.{difference_sign}
use Rattle.x86_alu.proofs.arithmetic.difference_overflows.Goals as goal

pub returns : goal.returns
returns c =
    c.is_set.ensures ∙ difference_sign c.args.width c.args.a c.args.b (bit c.args.borrow) c.args.difference c.size_of.result c.size_of.ensures
    c.requires.a_fits c.requires.b_fits (bit_le c.args.borrow) c.requires.is_difference
