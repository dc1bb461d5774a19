use Rattle.std.proofs.Common.{◌<◌, sym, subst}
use Rattle.vm_state.specs.Machine.{drive_count}
use Rattle.vm_state.specs.State.{State}
use Rattle.vm_blkwork.proofs.Boards.{disk_there}
use Rattle.vm_blkwork.proofs.worker.Worker.turn.Goals as goal

pub leaves-leaves-requires : goal.leaves-leaves-requires
leaves-leaves-requires g c =
    subst (λ (s : State). c.choose-chosen.new.self.disk < drive_count s.machine) (sym c.run.ensures)
    (disk_there g.I.Image.seen c.choose-chosen.new.board c.choose-chosen.new.self c.is_sound.ensures c.choose-chosen.ensures.fits)
