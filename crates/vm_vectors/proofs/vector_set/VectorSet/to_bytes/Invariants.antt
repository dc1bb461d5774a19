use Rattle.std.proofs.Common.{◌≡◌, ◌<◌, ◌*◌, ℕ, get_or}
use Rattle.vm_vectors.specs.Vectors as spec
use Rattle.vm_vectors.proofs.vector_set.VectorSet.to_bytes.Given as goal

abbrev pub invariant-loop-k : goal.invariant-loop-k
invariant-loop-k l = (j : ℕ) → j < l.k → get_or l.byte-items j 0 ≡ spec.bits_of l.self (8 * j) 8
