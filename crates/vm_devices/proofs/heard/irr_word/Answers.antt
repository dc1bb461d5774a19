use Rattle.std.proofs.Common.{refl, arith}
use Rattle.std.proofs.lemmas.Bool.Decides.{nat_tests}
use Rattle.vm_lapic.specs.declared.register.Register.TheVariants.{Irr}
use Rattle.vm_lapic.specs.Window.{value_of}
use Rattle.vm_devices.proofs.heard.irr_word.Goals as goal

pub returns : goal.returns
unfolding value_of
returns c = c.read.ensures.register (Irr c.args.k) (grind (arith, nat_tests)) refl
