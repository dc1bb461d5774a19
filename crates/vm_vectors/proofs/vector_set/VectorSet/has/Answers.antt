use Rattle.std.proofs.Common.{◌∙◌, sym, ap, ◌/◌, ◌%◌, ℕ, eqb, get_or, arith}
use Rattle.std.proofs.lemmas.Nat.Bits.{shr_and_one}
use Rattle.vm_vectors.specs.Vectors.{Vectors, has}
use Rattle.vm_vectors.proofs.FourWords.{has_in}
use Rattle.vm_vectors.proofs.vector_set.VectorSet.has.Goals as goal

pub returns : goal.returns
returns c =
    let words = c.self.inside.words in
    let v = c.args.vector in
    ap (λ (b : ℕ). eqb b 1) (shr_and_one (get_or words (v / 64) 0) (v % 64))
    ∙ sym (has_in words v (omega arith))
    ∙ ap (λ (s : Vectors). has s v) c.self.view_is
