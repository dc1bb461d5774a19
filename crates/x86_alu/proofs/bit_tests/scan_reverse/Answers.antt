use Rattle.std.proofs.Common.{ℕ, sym, subst}
use Rattle.x86_alu.specs.BitTest.{IsHighestOne}
use Rattle.x86_alu.proofs.Masks.{highest_is}
use Rattle.x86_alu.proofs.bit_tests.scan_reverse.Goals as goal

pub returns-clause-highest : goal.returns-clause-highest
returns-clause-highest c = λ some.
    subst (λ (x : ℕ). IsHighestOne c.args.source x) (sym c.from.ensures) (highest_is c.args.source some c.ranges.source.fits)
