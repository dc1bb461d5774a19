use Rattle.std.proofs.Common.{◌∙◌, sym, ap}
use Rattle.vm_vectors.specs.Vectors.{Vectors, has}
use Rattle.vm_vectors.proofs.FourWords.{none_in}
use Rattle.vm_vectors.proofs.vector_set.VectorSet.is_small.Goals as goal

pub returns : goal.returns
returns c = λ v le. sym (ap (λ (s : Vectors). has s v) c.self.view_is) ∙ none_in c.self.inside.words v le
