use Rattle.std.proofs.Common.{◌-◌, ◌++◌, List, ℕ, ap, arith, drop, length, length-drop, length-take, take, ◌∙◌}
use Rattle.vm_control.proofs.Pieces.{took_more}
use Rattle.vm_control.proofs.writing.write_out.Goals as goal

pub loop-at-preserved : goal.loop-at-preserved
loop-at-preserved g c =
    let inv = c.loop-at.invariant in
    let left = length c.args.bytes.now - c.loop-at.at in
    record {
      within = omega (arith, c.in-Ok.ensures.within, length-take left (drop c.loop-at.at c.args.bytes.now), length-drop c.loop-at.at c.args.bytes.now);
      took = record {
        told = c.in-Ok.ensures.takes.told ∙ inv.took.told;
        taken = λ told.
            c.in-Ok.ensures.takes.taken (inv.took.told ∙ told)
            ∙ ap (λ (l : List ℕ). l ++ take c.in-Ok.count (take left (drop c.loop-at.at c.args.bytes.now))) (inv.took.taken told)
            ∙ took_more (g.S.Sink.seen c.args.sink.now).taken c.args.bytes.now c.loop-at.at c.in-Ok.count inv.within;
      };
      faults = c.in-Ok.ensures.cause.quiet ∙ inv.faults;
    }
