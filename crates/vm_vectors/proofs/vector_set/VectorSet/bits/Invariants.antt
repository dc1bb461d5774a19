use Rattle.std.proofs.Common.{◌≡◌}
use Rattle.vm_vectors.specs.Vectors as spec
use Rattle.vm_vectors.proofs.vector_set.VectorSet.bits.Given as goal

abbrev pub invariant-loop-b : goal.invariant-loop-b
invariant-loop-b l = l.bits ≡ spec.bits_of l.self l.first l.b
