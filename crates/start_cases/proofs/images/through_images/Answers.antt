use Rattle.start_cases.proofs.Fresh.{have_sectors}
use Rattle.start_cases.proofs.images.through_images.Goals as goal

pub homes_of-requires : goal.homes_of-requires
homes_of-requires c = have_sectors c.args.start.now.disks c.in-Ok.images.items c.requires.sound.each_disk c.in-Ok.ensures.fresh
