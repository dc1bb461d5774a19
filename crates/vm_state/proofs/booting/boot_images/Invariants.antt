use Rattle.std.proofs.Common.{◌≡◌, take}
use Rattle.std.specs.Prelude.{map}
use Rattle.vm_state.specs.Start.{boot_image}
use Rattle.vm_state.proofs.booting.boot_images.Given as goal

abbrev pub invariant-loop-disk : goal.invariant-loop-disk
invariant-loop-disk l = l.images.items ≡ map boot_image (take l.disk-index l.disks)
