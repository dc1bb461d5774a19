use Rattle.vm_laws.proofs.Picks.{control_picks}
use Rattle.vm_laws.proofs.law.control_picks_the_end.Goals as goal

pub returns : goal.returns
returns c = λ s g e n. control_picks s g e n
