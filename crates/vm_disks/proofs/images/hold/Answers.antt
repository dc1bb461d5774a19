use Rattle.std.proofs.Common.{◌≡◌, true, sym, ap, subst}
use Rattle.blk_queue.specs.Progress.{puts}
use Rattle.blk_queue.specs.Queue.{some_request}
use Rattle.vm_state.specs.Machine.{MachineState, drive_at}
use Rattle.vm_state.specs.View.{RunView}
use Rattle.vm_disks.proofs.Allowed.{hold_goes}
use Rattle.vm_disks.proofs.images.hold.Goals as goal

pub write_in-requires-clause-may : goal.write_in-requires-clause-may
write_in-requires-clause-may c =
    let same : c.run.inside.machine.state ≡ c.args.run.now.state.machine = ap (λ (v : RunView). v.state.machine) c.run.view_is in
    subst (λ (m : MachineState). some_request (drive_at m c.args.d).queue c.args.id puts ≡ true) (sym same) (hold_goes c.args.run.now.state c.args.by c.args.d c.args.id c.requires.sound c.requires.may)
