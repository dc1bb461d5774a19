use Rattle.std.proofs.Common.{refl}
use Rattle.vm_lapic.specs.declared.register.Register.TheVariants.{Svr}
use Rattle.vm_lapic.specs.Window.{value_of}
use Rattle.vm_devices.proofs.heard.spurious_vector.Goals as goal

pub returns : goal.returns
unfolding value_of
returns c = c.read.ensures.register Svr refl refl
