use Rattle.std.proofs.Common.{◌≡◌, ◌++◌, ◌∷◌, [], map, take, drop}
use Rattle.blk_queue.specs.Steps.{freed}
use Rattle.chip_tests.proofs.plain_queue.free.Given as goal

abbrev pub invariant-loop-entry : goal.invariant-loop-entry
invariant-loop-entry l = l.list ≡ map (freed (l.leaving ∷ [])) (take l.entry-index l.fn.list) ++ drop l.entry-index l.fn.list
