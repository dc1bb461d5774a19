use Rattle.std.proofs.Common.{◌≡◌, take}
use Rattle.std.specs.List.{sum_by}
use Rattle.vm_state.specs.View.{input_length}
use Rattle.vm_state.proofs.booting.input_total.Given as goal

abbrev pub invariant-loop-answer : goal.invariant-loop-answer
invariant-loop-answer l = l.total ≡ sum_by input_length (take l.answer-index l.orders)
