use Rattle.std.proofs.Common.{◌≡◌, true, sym, ap, subst}
use Rattle.blk_queue.specs.Progress.{ends}
use Rattle.blk_queue.specs.Queue.{some_request}
use Rattle.vm_ioapic.specs.Ioapic.{pin_at}
use Rattle.vm_vblk.specs.Window.{line}
use Rattle.vm_state.specs.Machine.{MachineState, drive_at, drive_pin}
use Rattle.vm_state.specs.Sound.{number_of}
use Rattle.vm_state.specs.View.{RunView}
use Rattle.vm_devices.proofs.Lines.{drive_count_is}
use Rattle.vm_disks.proofs.Allowed.{finish_there, finish_goes}
use Rattle.vm_disks.proofs.moving.finish.Goals as goal

pub finish_in-requires-clause-may : goal.finish_in-requires-clause-may
finish_in-requires-clause-may c =
    let same : c.run.inside.machine.state ≡ c.args.run.now.state.machine = ap (λ (v : RunView). v.state.machine) c.run.view_is in
    subst (λ (m : MachineState). some_request (drive_at m c.args.d).queue c.args.id ends ≡ true) (sym same) (finish_goes c.args.run.now.state c.args.by c.args.d c.args.id c.requires.sound c.requires.may)

pub finish_in-requires-clause-count : goal.finish_in-requires-clause-count
finish_in-requires-clause-count c =
    let same : c.run.inside.machine.state ≡ c.args.run.now.state.machine = ap (λ (v : RunView). v.state.machine) c.run.view_is in
    subst (λ (m : MachineState). (pin_at m.ioapic (drive_pin c.args.d)).count ≡ number_of (line (drive_at m c.args.d).window)) (sym same)
    (drive_count_is c.args.run.now.state.machine c.args.d c.requires.sound.machine (finish_there c.args.run.now.state c.args.by c.args.d c.args.id c.requires.may))
