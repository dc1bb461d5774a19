use Rattle.vm_outcome.specs.Ends.{ending_status}
use Rattle.vm_outcome.proofs.Frames.{causes_after, sink_causes}
use Rattle.vm_replaying.proofs.Starting.{quiet_counts, read_causes, read_named}
use Rattle.vm_run.proofs.Shown.{no_host_named, no_plan, plan_done, plan_no_console, plan_shown, plan_spent}
use Rattle.vm_run.proofs.showing.show.Goals as goal

-- ---- the file gives a plan

pub returns-in-Ok-clause-answers : goal.returns-in-Ok-clause-answers
returns-in-Ok-clause-answers g c =
    plan_shown (g.H.Host.seen c.args.host.now) (g.H.Host.seen c.read_plan.new.host) (g.S.Sink.seen c.args.console.now) (g.S.Sink.seen c.write_plan.new.console) c.write_plan.result.ending
    c.args.config.now c.in-Ok.plan c.in-Ok.ensures.plan c.write_plan.ensures.shows

pub returns-in-Ok-clause-complete : goal.returns-in-Ok-clause-complete
returns-in-Ok-clause-complete g c = λ plan told is calm.
    plan_done (g.H.Host.seen c.args.host.now) (g.H.Host.seen c.read_plan.new.host) (g.S.Sink.seen c.args.console.now) (g.S.Sink.seen c.write_plan.new.console) c.write_plan.result.ending
    c.in-Ok.plan c.write_plan.ensures.causes calm c.write_plan.ensures.shows

pub returns-in-Ok-clause-refuses : goal.returns-in-Ok-clause-refuses
returns-in-Ok-clause-refuses g c = λ e told of other. absurd (let due = c.in-Ok.ensures.exact e told of in other due.0 due.1)

pub returns-in-Ok-clause-causes : goal.returns-in-Ok-clause-causes
returns-in-Ok-clause-causes g c =
    let old = g.H.Host.seen c.args.host.now in
    let mid = g.H.Host.seen c.read_plan.new.host in
    let console = g.S.Sink.seen c.args.console.now in
    let console_now = g.S.Sink.seen c.write_plan.new.console in
    let calm = quiet_counts c.in-Ok.plan old mid c.in-Ok.ensures.causes in
    causes_after (ending_status c.write_plan.result.ending) old mid mid console console_now calm.0 calm.1
    (sink_causes (ending_status c.write_plan.result.ending) mid console console_now c.write_plan.ensures.causes)

pub returns-in-Ok-clause-named : goal.returns-in-Ok-clause-named
returns-in-Ok-clause-named g c = λ name e.
    no_host_named (g.H.Host.seen c.args.host.now) (g.H.Host.seen c.read_plan.new.host) (g.S.Sink.seen c.args.console.now) (g.S.Sink.seen c.write_plan.new.console) c.write_plan.result.ending
    name c.write_plan.ensures.causes e

-- ---- it gives none

pub returns-in-Err-clause-answers : goal.returns-in-Err-clause-answers
returns-in-Err-clause-answers g c =
    no_plan (g.H.Host.seen c.args.host.now) (g.H.Host.seen c.read_plan.new.host) (g.S.Sink.seen c.args.console.now) c.args.config.now c.in-Err.refusal c.in-Err.ensures.plan

pub returns-in-Err-clause-complete : goal.returns-in-Err-clause-complete
returns-in-Err-clause-complete g c = λ plan told is calm.
    plan_spent c.in-Err.refusal (c.in-Err.ensures.complete plan told is (record { not_failed = calm.not_failed; not_missing = calm.not_missing }))

pub returns-in-Err-clause-causes : goal.returns-in-Err-clause-causes
returns-in-Err-clause-causes g c =
    let old = g.H.Host.seen c.args.host.now in
    read_causes c.read_plan.result c.in-Err.refusal old (g.H.Host.seen c.read_plan.new.host) (g.S.Sink.seen c.args.console.now) c.in-Err.is c.read_plan.ensures.causes
    (plan_no_console old c.args.config.now c.in-Err.refusal c.in-Err.ensures.plan)

pub returns-in-Err-clause-named : goal.returns-in-Err-clause-named
returns-in-Err-clause-named g c = λ name e.
    read_named c.in-Err.refusal name (g.H.Host.seen c.args.host.now) (g.H.Host.seen c.read_plan.new.host) c.in-Err.ensures.causes e
