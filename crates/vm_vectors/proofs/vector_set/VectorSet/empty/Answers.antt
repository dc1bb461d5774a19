use Rattle.vm_law.proofs.BitSets.{set_of_none}
use Rattle.vm_vectors.specs.Words.{set_in}
use Rattle.vm_vectors.proofs.vector_set.VectorSet.empty.Goals as goal

pub returns : goal.returns
unfolding set_in
returns c = set_of_none 256
