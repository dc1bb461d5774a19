use Rattle.std.proofs.Common.{ℕ, sym, subst}
use Rattle.x86_alu.specs.BitTest.{IsLowestOne}
use Rattle.x86_alu.proofs.Masks.{lowest_is}
use Rattle.x86_alu.proofs.bit_tests.scan_forward.Goals as goal

pub returns-clause-lowest : goal.returns-clause-lowest
returns-clause-lowest c = λ some.
    subst (λ (x : ℕ). IsLowestOne c.args.source x) (sym c.from.ensures) (lowest_is c.args.source some c.ranges.source.fits)
