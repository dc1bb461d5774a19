use Rattle.vm_blkwork.proofs.Boards.{chosen_may, take_fits}
use Rattle.vm_blkwork.proofs.worker.Worker.hold.Goals as goal

pub take_image-sector-requires-clause-may : goal.take_image-sector-requires-clause-may
take_image-sector-requires-clause-may g c = chosen_may _ _ _ c.requires.may

pub returns-clause-fits : goal.returns-clause-fits
returns-clause-fits g c =
    let t = c.take_image-sector in
    take_fits g.I.Image.seen _ _ c.args.self.now c.args.disk c.args.id t.result.0 t.result.1 c.is_sound.ensures c.requires.fits c.requires.may t.ensures.added t.ensures.sector t.ensures.home
