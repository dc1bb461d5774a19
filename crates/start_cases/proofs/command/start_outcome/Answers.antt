use Rattle.std.proofs.Common.{ℕ, List, Option, refl, subst, sym}
use Rattle.vm_start.specs.Images.{AreFilesOf}
use Rattle.start_cases.proofs.command.start_outcome.Goals as goal

pub through_images-requires-clause-disks : goal.through_images-requires-clause-disks
through_images-requires-clause-disks c =
    subst (λ (file : List ℕ → Option (List ℕ)). AreFilesOf file c.in-Ok.start) (sym (c.in-Ok.ensures.leaves.files refl)) (c.in-Ok.ensures.disks refl)
