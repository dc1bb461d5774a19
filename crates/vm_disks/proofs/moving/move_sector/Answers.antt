use Rattle.std.proofs.Common.{◌≡◌, true, sym, ap, subst}
use Rattle.blk_queue.specs.Progress.{moves}
use Rattle.blk_queue.specs.Queue.{some_request}
use Rattle.vm_state.specs.Machine.{MachineState, drive_at}
use Rattle.vm_state.specs.View.{RunView}
use Rattle.vm_disks.proofs.Allowed.{move_goes}
use Rattle.vm_disks.proofs.moving.move_sector.Goals as goal

pub move_in-requires-clause-may : goal.move_in-requires-clause-may
move_in-requires-clause-may c =
    let same : c.run.inside.machine.state ≡ c.args.run.now.state.machine = ap (λ (v : RunView). v.state.machine) c.run.view_is in
    subst (λ (m : MachineState). some_request (drive_at m c.args.d).queue c.args.id moves ≡ true) (sym same) (move_goes c.args.run.now.state c.args.by c.args.d c.args.id c.requires.sound c.requires.may)
