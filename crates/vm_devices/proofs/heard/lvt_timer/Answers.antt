use Rattle.std.proofs.Common.{refl}
use Rattle.vm_lapic.specs.declared.register.Register.TheVariants.{LvtTimer}
use Rattle.vm_lapic.specs.Window.{value_of}
use Rattle.vm_devices.proofs.heard.lvt_timer.Goals as goal

pub returns : goal.returns
unfolding value_of
returns c = c.read.ensures.register LvtTimer refl refl
