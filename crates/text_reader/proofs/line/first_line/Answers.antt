use Rattle.std.proofs.Common.{◌+◌, arith}
use Rattle.std.proofs.lemmas.List.{take_rest}
use Rattle.text_reader.proofs.Lines.{first_is, only_line}
use Rattle.text_reader.proofs.line.first_line.Goals as goal

pub returns-then-b-eq10-clause-cut : goal.returns-then-b-eq10-clause-cut
returns-then-b-eq10-clause-cut c = first_is c.args.text.now _ _ c.loop-at.at c.loop-at-test.true c.loop-at.invariant c.if-b-eq10.true c.without_return.ensures (take_rest c.args.text.now (c.loop-at.at + 1))

pub returns-clause-cut : goal.returns-clause-cut
returns-clause-cut c = only_line c.args.text.now (λ k lt. c.loop-at.invariant k (omega arith))
