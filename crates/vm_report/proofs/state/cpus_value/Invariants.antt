use Rattle.std.specs.List.{range_with_len}
use Rattle.std.proofs.Common.{◌≡◌, map}
use Rattle.serde_json.specs.View.{view}
use Rattle.vm_state.specs.Machine.{cpu_at}
use Rattle.vm_report.specs.StateText.{cpu_data}
use Rattle.vm_report.proofs.state.cpus_value.Given as goal

abbrev pub invariant-loop-cpu : goal.invariant-loop-cpu
invariant-loop-cpu l = map view l.values.items ≡ map (λ i. cpu_data (cpu_at (l.run.state).machine i)) (range_with_len 0 l.cpu)
