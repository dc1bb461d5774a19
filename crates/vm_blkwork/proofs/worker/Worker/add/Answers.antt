use Rattle.vm_blkwork.proofs.Boards.{add_fits, chosen_may}
use Rattle.vm_blkwork.proofs.worker.Worker.add.Goals as goal

pub add-requires-clause-may : goal.add-requires-clause-may
add-requires-clause-may g c = chosen_may _ _ _ c.requires.may

pub returns-clause-fits : goal.returns-clause-fits
returns-clause-fits g c = add_fits g.I.Image.seen _ _ c.args.self.now c.args.entry c.is_sound.ensures c.requires.fits c.requires.may c.requires.kind c.add.ensures.added
