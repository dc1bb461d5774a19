use Rattle.std.proofs.Common.{sym, ◌∙◌}
use Rattle.vm_blkwork.proofs.Boards.{give_fits, give_may}
use Rattle.vm_blkwork.proofs.worker.Worker.bring_back.Goals as goal

pub give_image-requires-clause-may : goal.give_image-requires-clause-may
give_image-requires-clause-may g c =
    give_may g.I.Image.seen _ c.args.self.now c.in-Some-Some.field-0 c.in-Some-Some.ok c.is_sound.ensures c.requires.fits (sym c.take.ensures.value ∙ c.in-Some-Some.is)

pub returns-in-Some-Some-clause-fits : goal.returns-in-Some-Some-clause-fits
returns-in-Some-Some-clause-fits g c =
    let fits = give_fits g.I.Image.seen _ _ c.args.self.now c.in-Some-Some.field-0 c.in-Some-Some.ok c.requires.fits (sym c.take.ensures.value ∙ c.in-Some-Some.is) c.give_image.ensures.added in
    rw c.take.ensures.after fits
