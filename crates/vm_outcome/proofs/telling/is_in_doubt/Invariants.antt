use Rattle.std.specs.Prelude.{nat_lt}
use Rattle.std.specs.List.{list_any, range_with_len}
use Rattle.std.proofs.Common.{◌≡◌, false}
use Rattle.vm_table.specs.Tally.{tally_of}
use Rattle.vm_outcome.proofs.telling.is_in_doubt.Given as goal

abbrev pub invariant-loop-disk : goal.invariant-loop-disk
invariant-loop-disk l = list_any (λ d. nat_lt 0 (tally_of (l.run).state d).doubt) (range_with_len 0 l.disk) ≡ false
