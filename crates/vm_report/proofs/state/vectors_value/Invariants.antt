use Rattle.std.specs.List.{filter, range_with_len}
use Rattle.std.proofs.Common.{◌≡◌, map}
use Rattle.serde_json.specs.View.{view}
use Rattle.vm_vectors.specs.Vectors.{has}
use Rattle.vm_report.specs.StateText.{number_data}
use Rattle.vm_report.proofs.state.vectors_value.Given as goal

abbrev pub invariant-loop-vector : goal.invariant-loop-vector
invariant-loop-vector l = map view l.values.items ≡ map number_data (filter (has l.set) (range_with_len 0 l.vector))
