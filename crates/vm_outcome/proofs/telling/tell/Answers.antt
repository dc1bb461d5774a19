use Rattle.std.proofs.Common.{refl, sym, subst, ◌∙◌, ap}
use Rattle.vm_status.specs.Lines.{line_of}
use Rattle.vm_outcome.specs.Telling as telling
use Rattle.vm_outcome.specs.Telling.{TellsRun}
use Rattle.vm_outcome.proofs.Frames.{no_refusal, takes_line}
use Rattle.vm_outcome.proofs.telling.tell.Goals as goal
use Rattle.vm_outcome.proofs.telling.tell.Goals.{in-Some, in-None}

pub returns-in-Refused-clause-told : goal.returns-in-Refused-clause-told
returns-in-Refused-clause-told g c =
    telling.refused c.in-Refused.refusal c.in-Refused.is refl
    (takes_line (line_of c.in-Refused.refusal) (g.L.Sink.seen c.args.log.now) (g.L.Sink.seen c.write_line-told.new.sink) c.write_line-told.result
    c.write_line-told.ensures.whole c.write_line-told.ensures.part c.write_line-told.ensures.cause)

pub returns : goal.returns
returns g c = elim c.match-kept.branch [
  | in-Some w ↦ record {
    kept = refl;
    told = telling.ran w.in-Some.kept w.in-Some.is (no_refusal c.args.finish.ending c.in_default.not-Refused)
        (subst (λ l. TellsRun c.args.finish.ending w.in-Some.kept c.args.state c.match-kept.ending (g.L.Sink.seen c.args.log.now) (g.L.Sink.seen l)) (sym w.log-is)
        (subst (λ e. TellsRun c.args.finish.ending w.in-Some.kept c.args.state e (g.L.Sink.seen c.args.log.now) (g.L.Sink.seen w.tell_run-ending.new.log)) (sym w.ending-is)
        w.tell_run-ending.ensures));
  }
  | in-None w ↦ record {
    kept = refl;
    told = telling.silent w.in-None.is (no_refusal c.args.finish.ending c.in_default.not-Refused) w.ending-is w.log-is;
  }
]
