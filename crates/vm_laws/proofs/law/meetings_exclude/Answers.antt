use Rattle.vm_laws.proofs.Excluding.{excludes}
use Rattle.vm_laws.proofs.law.meetings_exclude.Goals as goal

pub returns : goal.returns
returns c = λ start before x m xs legal o k. excludes start before x m xs legal o k
