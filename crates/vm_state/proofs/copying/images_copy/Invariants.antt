use Rattle.std.proofs.Common.{◌≡◌, take}
use Rattle.vm_state.proofs.copying.images_copy.Given as goal

abbrev pub invariant-loop-image : goal.invariant-loop-image
invariant-loop-image l = l.copies.items ≡ take l.image-index l.images
