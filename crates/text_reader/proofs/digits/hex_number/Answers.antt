use Rattle.std.proofs.Common.{arith}
use Rattle.std.proofs.Math.Nat.{pow-le-pow_right}
use Rattle.text_reader.proofs.digits.hex_number.Goals as goal

pub numeral-requires-clause-fits : goal.numeral-requires-clause-fits
numeral-requires-clause-fits c = pow-le-pow_right {n = 16} (omega arith) c.requires
