use Rattle.std.proofs.Common.{refl, ◌∙◌}
use Rattle.vm_threads.proofs.Joining.{turned_none, turned_then}
use Rattle.vm_threads.proofs.crew.turns.Goals as goal

pub loop-init : goal.loop-init
loop-init g c = (tt, tt, turned_none c.args.chair.now (g.S.Sink.seen c.args.console.now), c.requires.runners, c.requires.workers, refl, refl)

pub loop-preserved : goal.loop-preserved
loop-preserved g c =
    let was = c.loop.invariant in (
      tt,
      tt,
      turned_then c.args.chair.now c.loop.chair c.stay-did.new.chair (g.S.Sink.seen c.args.console.now) (g.S.Sink.seen c.loop.console) (g.S.Sink.seen c.stay-did.new.console) was.2 c.stay-did.ensures.turned,
      c.go_each.ensures.here,
      c.go_each-in-loop.ensures.here,
      c.go_each.ensures.count ∙ was.5,
      c.go_each-in-loop.ensures.count ∙ was.6,
    )
