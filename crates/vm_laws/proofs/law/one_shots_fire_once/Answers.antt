use Rattle.vm_laws.proofs.Timing.{fires_once}
use Rattle.vm_laws.proofs.law.one_shots_fire_once.Goals as goal

pub returns : goal.returns
returns c = λ s x i xs l h one f a. fires_once s x i xs l h one f a
