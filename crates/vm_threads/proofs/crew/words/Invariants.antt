use Rattle.std.proofs.Common.{◌≡◌, vec_len}
use Rattle.vm_threads.proofs.crew.words.Given as goal

abbrev pub invariant-loop-k : goal.invariant-loop-k
invariant-loop-k l = vec_len l.all ≡ l.k
