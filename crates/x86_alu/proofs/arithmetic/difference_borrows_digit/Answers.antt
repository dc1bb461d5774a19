use Rattle.std.proofs.Common.{◌∙◌}
use Rattle.x86_alu.specs.Flags.{bit}
use Rattle.x86_alu.proofs.Overflow.{bit_le}
use Rattle.x86_alu.proofs.Digits.{difference_digit}
use Rattle.x86_alu.proofs.arithmetic.difference_borrows_digit.Goals as goal

pub returns : goal.returns
returns c =
    c.is_set.ensures ∙ difference_digit c.args.width c.args.a c.args.b (bit c.args.borrow) c.args.difference (bit_le c.args.borrow)
    c.requires.b_fits c.requires.is_difference
