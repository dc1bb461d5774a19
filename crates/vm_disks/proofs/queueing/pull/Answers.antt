use Rattle.std.proofs.Common.{◌≡◌, true, sym, ap, subst}
use Rattle.vm_ioapic.specs.Ioapic.{pin_at}
use Rattle.vm_vblk.specs.Window.{line}
use Rattle.vm_state.specs.Machine.{MachineState, drive_at, drive_pin}
use Rattle.vm_state.specs.Sound.{number_of}
use Rattle.vm_state.specs.View.{RunView}
use Rattle.vm_disks.specs.Queueing.{can_pull}
use Rattle.vm_devices.proofs.Lines.{drive_count_is}
use Rattle.vm_disks.proofs.Allowed.{pull_there, pull_goes}
use Rattle.vm_disks.proofs.queueing.pull.Goals as goal

pub pull_in-requires-clause-may : goal.pull_in-requires-clause-may
pull_in-requires-clause-may c =
    let same : c.run.inside.machine.state ≡ c.args.run.now.state.machine = ap (λ (v : RunView). v.state.machine) c.run.view_is in
    subst (λ (m : MachineState). can_pull m.ram (drive_at m c.args.d) ≡ true) (sym same) (pull_goes c.args.run.now.state c.args.by c.args.d c.requires.may)

pub pull_in-requires-clause-count : goal.pull_in-requires-clause-count
pull_in-requires-clause-count c =
    let same : c.run.inside.machine.state ≡ c.args.run.now.state.machine = ap (λ (v : RunView). v.state.machine) c.run.view_is in
    subst (λ (m : MachineState). (pin_at m.ioapic (drive_pin c.args.d)).count ≡ number_of (line (drive_at m c.args.d).window)) (sym same)
    (drive_count_is c.args.run.now.state.machine c.args.d c.requires.sound.machine (pull_there c.args.run.now.state c.args.by c.args.d c.requires.may))
