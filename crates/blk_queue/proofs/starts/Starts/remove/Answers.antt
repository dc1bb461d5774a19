use Rattle.std.proofs.Common.{arith}
use Rattle.std.specs.Prelude.{not, ◌==◌}
use Rattle.std.proofs.lemmas.List.Kept.{IsNonDecreasingBy-filter}
use Rattle.blk_queue.specs.declared.starts.Mark.{Mark}
use Rattle.blk_queue.proofs.Runs.{start_of}
use Rattle.blk_queue.proofs.starts.Starts.remove.Goals as goal

pub invariant_of-self : goal.invariant_of-self
invariant_of-self c =
    (omega (arith, c.remove.ensures.capacity), rw c.remove.ensures.kept (IsNonDecreasingBy-filter start_of (λ (m : Mark). not (m.id == c.args.id)) c.self.inside.marks.items c.self.invariant.1))
