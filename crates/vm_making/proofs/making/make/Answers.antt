use Rattle.std.proofs.Common.{ap, refl, arith}
use Rattle.vm_making.specs.Answers as answer
use Rattle.vm_making.proofs.Runs.{make_answers, make_causes, make_no_host, make_sent, make_silent, make_start}
use Rattle.vm_making.proofs.Starts.{disks_apart, no_disk, none_apart}
use Rattle.vm_outcome.proofs.Frames.{if_some}
use Rattle.vm_making.proofs.making.make.Goals as goal

pub run_start-ending-requires-clause-apart : goal.run_start-ending-requires-clause-apart
run_start-ending-requires-clause-apart g c = λ lifetimes outlive. disks_apart c.args.cpus c.args.number c.in-Ok.start c.in-Ok.ensures.start

pub run_start-ending-requires-clause-disks : goal.run_start-ending-requires-clause-disks
run_start-ending-requires-clause-disks g c = λ lifetimes outlive told d within. absurd (omega (arith, within, no_disk c.args.cpus c.args.number c.in-Ok.start c.in-Ok.ensures.start))

pub run_start-ending-requires-clause-journal : goal.run_start-ending-requires-clause-journal
run_start-ending-requires-clause-journal g c = λ lifetimes outlive. none_apart c.in-Ok.start.plan

pub returns-in_default-clause-answers : goal.returns-in_default-clause-answers
returns-in_default-clause-answers g c = answer.spent refl refl

pub returns-clause-answers : goal.returns-clause-answers
returns-clause-answers g c =
    make_answers c.args.cpus c.args.number c.run_start-ending.result.ending c.tell_total-ending.result (g.S.Sink.seen c.run_start-ending.new.console) (g.S.Sink.seen c.tell_total-ending.new.console) c.run_start-ending.new.console c.tell_total-ending.new.console
    (λ e. ap g.S.Sink.seen e) c.tell_total-ending.ensures c.in-Ok.start c.in-Ok.ensures.start _ _ (g.S.Sink.seen c.args.console.now) c.run_start-ending.result.kept
    c.run_start-ending.ensures.runs c.run_start-ending.ensures.spent

pub returns-clause-start : goal.returns-clause-start
returns-clause-start g c =
    make_start c.args.cpus c.args.number c.run_start-ending.result.ending c.tell_total-ending.result (g.S.Sink.seen c.run_start-ending.new.console) (g.S.Sink.seen c.tell_total-ending.new.console) c.run_start-ending.new.console c.tell_total-ending.new.console
    (λ e. ap g.S.Sink.seen e) c.tell_total-ending.ensures c.in-Ok.start c.in-Ok.ensures.start _ _ (g.S.Sink.seen c.args.console.now) c.run_start-ending.result.kept
    c.run_start-ending.ensures.runs

pub returns-clause-run : goal.returns-clause-run
returns-clause-run g c = if_some _ _ c.run_start-ending.result.kept (λ k r. r.from.run) c.run_start-ending.ensures.runs

pub returns-clause-orderly : goal.returns-clause-orderly
returns-clause-orderly g c = if_some _ _ c.run_start-ending.result.kept (λ k r. r.from.orderly) c.run_start-ending.ensures.runs

pub returns-clause-causes : goal.returns-clause-causes
returns-clause-causes g c =
    make_causes c.args.cpus c.args.number c.run_start-ending.result.ending c.tell_total-ending.result _ _ (g.S.Sink.seen c.args.console.now) (g.S.Sink.seen c.run_start-ending.new.console)
    (g.S.Sink.seen c.tell_total-ending.new.console) c.run_start-ending.new.console c.tell_total-ending.new.console (λ e. ap g.S.Sink.seen e) c.run_start-ending.ensures.causes c.tell_total-ending.ensures
    (make_no_host c.args.cpus c.args.number (g.S.Sink.seen c.args.console.now) (g.S.Sink.seen c.tell_total-ending.new.console) c.tell_total-ending.result c.run_start-ending.result.kept (returns-clause-answers g c))

pub returns-clause-console : goal.returns-clause-console
returns-clause-console g c = make_sent c.args.cpus c.args.number (g.S.Sink.seen c.args.console.now) (g.S.Sink.seen c.tell_total-ending.new.console) c.tell_total-ending.result c.run_start-ending.result.kept (returns-clause-answers g c)

pub returns-clause-silent : goal.returns-clause-silent
returns-clause-silent g c =
    make_silent c.args.cpus c.args.number c.run_start-ending.result.ending c.tell_total-ending.result (g.S.Sink.seen c.run_start-ending.new.console) (g.S.Sink.seen c.tell_total-ending.new.console) c.run_start-ending.new.console c.tell_total-ending.new.console
    (λ e. ap g.S.Sink.seen e) c.tell_total-ending.ensures c.run_start-ending.result.kept
    c.run_start-ending.ensures.spent c.args.console.now c.run_start-ending.ensures.silent
