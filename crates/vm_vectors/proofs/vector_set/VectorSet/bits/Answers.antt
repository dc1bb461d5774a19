use Rattle.std.specs.Prelude.{if◌then◌else◌}
use Rattle.std.proofs.Common.{◌≡◌, ◌∙◌, ◌+◌, ◌*◌, ◌%◌, ◌^◌, ◌<◌, sym, ap, Bool, true, false, arith}
use Rattle.std.proofs.lemmas.Nat.{one_shl}
use Rattle.vm_vectors.specs.Vectors as spec
use Rattle.vm_vectors.proofs.Bits.{bits_more, bits_lt, bit_fits}
use Rattle.vm_vectors.proofs.vector_set.VectorSet.bits.Goals as goal
use Rattle.vm_vectors.proofs.vector_set.VectorSet.bits.Goals.{then-has, else-has}

pub overflow_add-bits : goal.overflow_add-bits
overflow_add-bits c =
    let small : c.loop-b.bits < 2 ^ c.loop-b.b = omega (arith, c.loop-b.invariant, bits_lt c.args.self.now c.args.first c.loop-b.b) in
    omega (arith, bit_fits c.loop-b.bits c.loop-b.b small (omega arith))

pub loop-b-preserved : goal.loop-b-preserved
loop-b-preserved c =
    let step = bits_more c.args.self.now c.args.first c.loop-b.b in
    elim c.if-has.branch [
      | then-has w ↦
          let here : spec.has c.args.self.now (c.args.first + c.loop-b.b) ≡ true = sym c.has.ensures ∙ w.if-has.true in
          let shifted : 1 * 2 ^ c.loop-b.b % 4294967296 ≡ 2 ^ c.loop-b.b = one_shl c.loop-b.b 32 (omega arith) in
          w.bits-is ∙ (omega (arith, shifted, c.loop-b.invariant, step, ap (λ (b : Bool). if b then 2 ^ c.loop-b.b else 0) here))
      | else-has w ↦
          let here : spec.has c.args.self.now (c.args.first + c.loop-b.b) ≡ false = sym c.has.ensures ∙ w.if-has.false in
          w.bits-is ∙ (omega (arith, c.loop-b.invariant, step, ap (λ (b : Bool). if b then 2 ^ c.loop-b.b else 0) here))
    ]
