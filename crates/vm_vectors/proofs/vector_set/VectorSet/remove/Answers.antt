use Rattle.std.proofs.Common.{◌∙◌, ap, arith}
use Rattle.std.specs.FinSet.{remove}
use Rattle.vm_vectors.specs.Vectors.{Vectors}
use Rattle.vm_vectors.proofs.FourWords.{removed}
use Rattle.vm_vectors.proofs.vector_set.VectorSet.remove.Goals as goal

pub returns : goal.returns
returns c = removed c.self.inside.words c.args.vector c.self.told (omega arith) ∙ ap (λ (s : Vectors). remove s c.args.vector) c.self.view_is
