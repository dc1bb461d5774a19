use Rattle.std.proofs.lemmas.Nat.{or_lt, xor_lt}
use Rattle.x86_alu.specs.Operand.{size_of}
use Rattle.x86_alu.proofs.arithmetic.alu.Goals as goal

pub bitwise-requires-in-Or : goal.bitwise-requires-in-Or
bitwise-requires-in-Or c = or_lt (size_of c.args.width) c.args.a c.args.b c.requires.a_fits c.requires.b_fits

pub bitwise-requires-in-Xor : goal.bitwise-requires-in-Xor
bitwise-requires-in-Xor c = xor_lt (size_of c.args.width) c.args.a c.args.b c.requires.a_fits c.requires.b_fits
