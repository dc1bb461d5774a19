use Rattle.std.proofs.Common.{◌≡◌, ◌<◌, ◌≤◌, ℕ, get_or, false}
use Rattle.vm_vectors.specs.Vectors.{has}
use Rattle.vm_vectors.proofs.Bits.{bit_test}
use Rattle.vm_vectors.proofs.vector_set.VectorSet.from_bytes.Given as goal

abbrev pub invariant-loop-v : goal.invariant-loop-v
invariant-loop-v l = record {
  below : (q : ℕ) → q < l.v → has l.set q ≡ bit_test l.bytes q;
  above : (q : ℕ) → l.v ≤ q → has l.set q ≡ false;
  fits : 0 < l.v → (k : ℕ) → get_or l.bytes k 0 < 256;
}
