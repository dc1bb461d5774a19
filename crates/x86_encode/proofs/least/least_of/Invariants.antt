use Rattle.std.proofs.Common.{take, MatchOption}
use Rattle.x86_encode.specs.Inside.Selecting.{IsLeast, NoneFits}
use Rattle.x86_encode.proofs.least.least_of.Given as goal

-- the best of the rows so far
abbrev pub invariant-loop-row : goal.invariant-loop-row
invariant-loop-row l = MatchOption l.best (NoneFits l.labels l.insn (take l.row-index l.rows)) (λ t. IsLeast l.labels l.insn (take l.row-index l.rows) t.items)
