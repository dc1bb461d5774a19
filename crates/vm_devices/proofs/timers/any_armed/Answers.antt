use Rattle.std.proofs.Common.{◌∙◌, length, sym, ap, arith}
use Rattle.vm_state.specs.View.{MachineView}
use Rattle.vm_state.specs.Machine.{cpu_count}
use Rattle.vm_devices.specs.Timers as spec
use Rattle.vm_devices.proofs.Live.{any_found}
use Rattle.vm_devices.proofs.timers.any_armed.Goals as goal

pub returns-then-is_armed : goal.returns-then-is_armed
returns-then-is_armed c =
    sym (any_found (spec.is_armed c.args.machine.now.state) (cpu_count c.args.machine.now.state) c.loop-i.i (omega (arith, ap (λ (v : MachineView). length v.state.cpus) c.machine.view_is)) (sym c.is_armed.ensures ∙ c.if-is_armed.true))
