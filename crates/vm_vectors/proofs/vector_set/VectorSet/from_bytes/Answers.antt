use Rattle.std.proofs.Common.{◌≡◌, ◌∙◌, ◌/◌, ◌%◌, ap, ℕ, eqb, get_or, bit_and, ◌^◌, arith, rules}
use Rattle.std.specs.Ordering.{nat_cmp}
use Rattle.std.specs.FinSet.{contains-empty}
use Rattle.std.proofs.lemmas.Nat.Bits.{shr_and_one}
use Rattle.vm_vectors.specs.Vectors as spec
use Rattle.vm_vectors.specs.Vectors.{Vectors, has}
use Rattle.vm_vectors.proofs.Bits.{bit_test, bytes_of-vectors_of}
use Rattle.vm_vectors.proofs.FourWords.{put_below, put_above, all_read}
use Rattle.vm_vectors.proofs.vector_set.VectorSet.from_bytes.Goals as goal

pub loop-v-init : goal.loop-v-init
loop-v-init c = record {
  below = λ q lt. absurd (omega arith);
  above = λ q _. ap (λ (s : Vectors). has s q) c.empty-set.ensures ∙ contains-empty nat_cmp q;
  fits = λ lt. absurd (omega arith);
}

pub loop-v-preserved : goal.loop-v-preserved
loop-v-preserved c =
    let bytes = c.args.bytes.now in
    let v = c.loop-v.v in
    let bit = eqb (bit_and (get_or bytes (v / 8) 0 / 2 ^ (v % 8)) 1) 1 in
    let is : bit ≡ bit_test bytes v = ap (λ (b : ℕ). eqb b 1) (shr_and_one (get_or bytes (v / 8) 0) (v % 8)) in
    record {
      below = λ q lt. ap (λ (s : Vectors). has s q) c.put.ensures ∙ put_below c.loop-v.set v bit (bit_test bytes) is c.loop-v.invariant.below c.loop-v.invariant.above q lt;
      above = λ q le. ap (λ (s : Vectors). has s q) c.put.ensures ∙ put_above c.loop-v.set v bit c.loop-v.invariant.above q le;
      fits = λ _ k. search rules;
    }

read : (c : goal.After-loop-v) → c.loop-v.set ≡ spec.vectors_of c.args.bytes.now
read c = all_read c.args.bytes.now c.loop-v.set c.loop-v.v c.loop-v-test.false c.loop-v.auto.v-end c.loop-v.invariant.below c.loop-v.invariant.above

pub returns-clause-set : goal.returns-clause-set
returns-clause-set c = read c

pub returns-clause-inverse : goal.returns-clause-inverse
returns-clause-inverse c = ap spec.bytes_of (read c) ∙ bytes_of-vectors_of c.args.bytes.now c.told-bytes (c.loop-v.invariant.fits (omega arith))
