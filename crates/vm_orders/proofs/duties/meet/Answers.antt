use Rattle.std.proofs.Common.{◌≡◌, ◌≢◌, nat_cmp, sym, ap, subst}
use Rattle.std.specs.FinSet as set
use Rattle.vm_law.specs.CpuSet.{Cpus}
use Rattle.vm_state.specs.Machine.{MachineState, started_cpus}
use Rattle.vm_state.specs.View.{RunView}
use Rattle.vm_devices.proofs.Started.{some_started}
use Rattle.vm_orders.proofs.duties.meet.Goals as goal

pub start-requires : goal.start-requires
start-requires c =
    let same : c.run.inside.machine.state ≡ c.args.run.now.state.machine = ap (λ (v : RunView). v.state.machine) c.run.view_is in
    let h = c.requires.sound.machine in
    subst (λ (x : Cpus). x ≢ set.empty) (sym c.started_cpus-named.ensures.set)
    (subst (λ (m : MachineState). started_cpus m ≢ set.empty) (sym same) (some_started c.args.run.now.state.machine h.some_cpu h.first))
