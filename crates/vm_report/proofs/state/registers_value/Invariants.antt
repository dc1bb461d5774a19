use Rattle.std.proofs.Common.{◌≡◌, ◌++◌, drop, map}
use Rattle.serde_json.specs.View.{view}
use Rattle.vm_report.specs.StateText.{register_data}
use Rattle.vm_report.proofs.state.registers_value.Given as goal

abbrev pub invariant-loop-register : goal.invariant-loop-register
invariant-loop-register l = map view l.values.items ++ map register_data (drop l.register-index (l.ctx).regs) ≡ map register_data (l.ctx).regs
