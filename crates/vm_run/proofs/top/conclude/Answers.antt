use Rattle.std.proofs.Common.{Bool, Option, None, sym, subst}
use Rattle.vm_outcome.specs.declared.outcome.Kept.{Kept}
use Rattle.vm_outcome.specs.Telling.{Tells}
use Rattle.vm_run.specs.Words.{asks_state}
use Rattle.vm_run.proofs.top.conclude.Goals as goal

-- the log is told of the run that is kept
pub returns-then-has_report-clause-told : goal.returns-then-has_report-clause-told
returns-then-has_report-clause-told g c =
    let command = c.args.command.now in
    let finish = c.args.finish in
    subst (λ (k : Option Kept). Tells finish.ending k (asks_state command) c.tell.result.ending c.args.log.now c.tell.new.log (g.L.Sink.seen c.args.log.now) (g.L.Sink.seen c.tell.new.log))
    (sym (c.has_report.ensures.yes c.if-has_report.true finish.kept))
    (subst (λ (b : Bool). Tells finish.ending finish.kept b c.tell.result.ending c.args.log.now c.tell.new.log (g.L.Sink.seen c.args.log.now) (g.L.Sink.seen c.tell.new.log)) c.asks_state.ensures c.tell.ensures.told)

-- or of none
pub returns-else-has_report-clause-told : goal.returns-else-has_report-clause-told
returns-else-has_report-clause-told g c =
    let command = c.args.command.now in
    let finish = c.args.finish in
    let none = c.has_report.ensures.no c.if-has_report.false in
    subst (λ (k : Option Kept). Tells finish.ending k (asks_state command) c.tell_refusal.result.ending c.args.log.now c.tell_refusal.new.log (g.L.Sink.seen c.args.log.now) (g.L.Sink.seen c.tell_refusal.new.log))
    (sym (none.1 finish.kept))
    (subst (λ (b : Bool). Tells finish.ending None b c.tell_refusal.result.ending c.args.log.now c.tell_refusal.new.log (g.L.Sink.seen c.args.log.now) (g.L.Sink.seen c.tell_refusal.new.log)) (sym none.0) c.tell_refusal.ensures.told)
