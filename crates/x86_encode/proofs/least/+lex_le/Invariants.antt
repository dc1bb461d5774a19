use Rattle.std.proofs.Common.{length}
use Rattle.x86_encode.proofs.least.+lex_le.Given as goal

abbrev pub decreases-lex_le : goal.decreases-lex_le
decreases-lex_le l = length l.a.now
