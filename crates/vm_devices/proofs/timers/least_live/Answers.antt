use Rattle.std.proofs.Common.{◌≡◌, ◌∙◌, ℕ, length, ap, arith}
use Rattle.std.specs.Prelude.{Option, unwrap_or}
use Rattle.vm_state.specs.View.{MachineView}
use Rattle.vm_state.specs.Machine.{cpu_count}
use Rattle.vm_devices.proofs.Live.{least_below, least_all}
use Rattle.vm_devices.proofs.timers.least_live.Goals as goal

pub returns : goal.returns
returns c =
    let m = c.args.machine.now.state in
    let all : c.loop-i.i ≡ cpu_count m = omega (arith, ap (λ (v : MachineView). length v.state.cpus) c.machine.view_is) in
    c.unwrap_or.ensures
    ∙ ap (λ (o : Option ℕ). unwrap_or o 0) (c.loop-i.invariant ∙ ap (λ (n : ℕ). least_below m n) all)
    ∙ least_all m
