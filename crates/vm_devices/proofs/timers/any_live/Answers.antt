use Rattle.std.proofs.Common.{◌∙◌, length, sym, ap, arith}
use Rattle.vm_state.specs.View.{MachineView}
use Rattle.vm_state.specs.Machine.{cpu_count}
use Rattle.vm_devices.specs.Timers as spec
use Rattle.vm_devices.proofs.Live.{any_found}
use Rattle.vm_devices.proofs.timers.any_live.Goals as goal

pub returns-then-is_live : goal.returns-then-is_live
returns-then-is_live c =
    sym (any_found (spec.is_live c.args.machine.now.state) (cpu_count c.args.machine.now.state) c.loop-i.i (omega (arith, ap (λ (v : MachineView). length v.state.cpus) c.machine.view_is)) (sym c.is_live.ensures ∙ c.if-is_live.true))
