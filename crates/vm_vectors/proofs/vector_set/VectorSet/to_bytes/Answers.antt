use Rattle.std.proofs.Common.{◌≡◌, ◌∙◌, ap, arith}
use Rattle.vm_vectors.specs.Vectors as spec
use Rattle.vm_vectors.proofs.Bits.{bytes_all, vectors_of-bytes_of}
use Rattle.vm_vectors.proofs.vector_set.VectorSet.to_bytes.Goals as goal

pub returns-clause-bytes : goal.returns-clause-bytes
returns-clause-bytes c = bytes_all c.args.self.now c.loop-k.byte-items c.loop-k-test.array_long (λ k l. c.loop-k.invariant k (omega arith))

pub returns-clause-inverse : goal.returns-clause-inverse
returns-clause-inverse c =
    let bytes : c.loop-k.byte-items ≡ spec.bytes_of c.args.self.now = bytes_all c.args.self.now c.loop-k.byte-items c.loop-k-test.array_long (λ k l. c.loop-k.invariant k (omega arith)) in
    ap spec.vectors_of bytes ∙ vectors_of-bytes_of c.args.self.now c.is_small.ensures
