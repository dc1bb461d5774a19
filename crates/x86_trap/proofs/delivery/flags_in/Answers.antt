use Rattle.std.proofs.Common.{arith}
use Rattle.std.proofs.lemmas.Nat.Bits.{and_pow}
use Rattle.x86_trap.proofs.delivery.flags_in.Goals as goal

pub returns-in-Interrupt : goal.returns-in-Interrupt
returns-in-Interrupt c = rw c.in-Interrupt.is (omega (arith, and_pow c.args.flags 9))
