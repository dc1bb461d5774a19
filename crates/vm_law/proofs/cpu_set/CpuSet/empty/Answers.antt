use Rattle.vm_law.proofs.BitSets.{set_of_none}
use Rattle.vm_law.proofs.cpu_set.CpuSet.empty.Goals as goal

pub returns : goal.returns
returns c = set_of_none 16
