use Rattle.std.proofs.Common.{◌≡◌, ◌∙◌, ℕ, length, ap, arith}
use Rattle.vm_law.specs.CpuSet.{Cpus, has}
use Rattle.vm_state.specs.View.{MachineView}
use Rattle.vm_state.specs.Machine.{cpu_count}
use Rattle.vm_devices.proofs.Started.{started_below, started_all, has_started}
use Rattle.vm_devices.proofs.messages.started_cpus.Goals as goal

pub returns-clause-set : goal.returns-clause-set
returns-clause-set c =
    let all : c.loop-i.i ≡ cpu_count c.args.machine.now.state = omega (arith, ap (λ (v : MachineView). length v.state.cpus) c.machine.view_is) in
    c.loop-i.invariant ∙ ap (λ (n : ℕ). started_below c.args.machine.now.state n) all ∙ started_all c.args.machine.now.state

pub returns-clause-members : goal.returns-clause-members
returns-clause-members c i = ap (λ (s : Cpus). has s i) (returns-clause-set c) ∙ has_started c.args.machine.now.state i
