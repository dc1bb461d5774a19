use Rattle.std.proofs.Common.{◌∙◌, ap, arith}
use Rattle.std.specs.FinSet.{insert}
use Rattle.vm_vectors.specs.Vectors.{Vectors}
use Rattle.vm_vectors.proofs.FourWords.{inserted}
use Rattle.vm_vectors.proofs.vector_set.VectorSet.insert.Goals as goal

pub returns : goal.returns
returns c = inserted c.self.inside.words c.args.vector c.self.told (omega arith) ∙ ap (λ (s : Vectors). insert s c.args.vector) c.self.view_is
