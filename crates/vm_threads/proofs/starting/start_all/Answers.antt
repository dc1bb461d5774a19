use Rattle.std.proofs.Common.{rules, ◌+◌, arith}
use Rattle.vm_threads.proofs.starting.start_all.Goals as goal

pub loop-actor-preserved : goal.loop-actor-preserved
loop-actor-preserved g c =
    let was = c.loop-actor.invariant in (
      tt,
      tt,
      grind (arith, rules),
      (λ k d below. let h = was.3 (k + 1) d in grind rules),
      grind (arith, rules),
      grind (arith, rules),
      grind (arith, rules),
      search rules,
      search rules,
    )
