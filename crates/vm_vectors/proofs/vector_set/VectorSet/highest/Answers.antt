use Rattle.std.proofs.Common.{subst}
use Rattle.vm_vectors.specs.Vectors.{Vectors}
use Rattle.vm_vectors.proofs.FourWords.{TellsHighest, top_tells}
use Rattle.vm_vectors.proofs.vector_set.VectorSet.highest.Goals as goal

pub returns : goal.returns
returns c =
    let all : TellsHighest c.args.self.now c.top.result =
    subst (λ (s : Vectors). TellsHighest s c.top.result) c.self.view_is (top_tells c.self.inside.words c.top.result c.self.told c.top.ensures) in
    record { value = all.value; none = all.none; member = all.member; greatest = all.greatest }
