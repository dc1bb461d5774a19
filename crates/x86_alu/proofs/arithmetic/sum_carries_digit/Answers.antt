use Rattle.std.proofs.Common.{◌∙◌}
use Rattle.x86_alu.specs.Flags.{bit}
use Rattle.x86_alu.proofs.Overflow.{bit_le}
use Rattle.x86_alu.proofs.Digits.{sum_digit}
use Rattle.x86_alu.proofs.arithmetic.sum_carries_digit.Goals as goal

pub returns : goal.returns
returns c =
    c.is_set.ensures ∙ sum_digit c.args.width c.args.a c.args.b (bit c.args.carry) c.args.sum (bit_le c.args.carry) c.requires
