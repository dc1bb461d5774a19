use Rattle.std.proofs.Common.{List, ℕ, Some, subst}
use Rattle.vm_host.proofs.Frames.{reads_on}
use Rattle.vm_outcome.specs.Ends.{ending_status}
use Rattle.vm_outcome.specs.Outside.{outside}
use Rattle.vm_outcome.proofs.Frames.{causes_after}
use Rattle.vm_start.specs.Start.{IsStartOf}
use Rattle.vm_replaying.specs.Answers.{JournalAnswers}
use Rattle.vm_replaying.proofs.Replays.{is_run, is_start, no_start, replay_began, starts_at}
use Rattle.vm_replaying.proofs.Starting.{as_ending, none_before, quiet_counts, read_causes, read_named, start_no_console}
use Rattle.vm_replaying.proofs.replaying.replay.Goals as goal

-- ---- the files give a start

pub returns-in-Ok-clause-answers : goal.returns-in-Ok-clause-answers
returns-in-Ok-clause-answers g c =
    let old = g.H.Host.seen c.args.host.now in
    let mid = g.H.Host.seen c.read_start.new.host in
    let new = g.H.Host.seen c.replay_from.new.host in
    let console = g.S.Sink.seen c.args.console.now in
    let console_now = g.S.Sink.seen c.replay_from.new.console in
    replay_began old mid c.in-Ok.ensures.leaves c.args.journal.now new console console_now c.args.words.now c.replay_from.result.ending c.replay_from.result.kept
    (subst (λ (name : List ℕ). JournalAnswers (outside mid new console console_now) name c.replay_from.result.ending c.replay_from.result.kept) c.as_str.ensures c.replay_from.ensures.answers)

pub returns-in-Ok-clause-run : goal.returns-in-Ok-clause-run
returns-in-Ok-clause-run g c = is_run c.in-Ok.start c.replay_from.result.kept c.replay_from.ensures.run

pub returns-in-Ok-clause-start : goal.returns-in-Ok-clause-start
returns-in-Ok-clause-start g c =
    let host = g.H.Host.seen c.args.host.now in
    is_start (IsStartOf host.tells host.file c.args.words.now (Some c.args.journal.now)) c.in-Ok.start c.replay_from.result.kept c.in-Ok.ensures.start c.replay_from.ensures.run

pub returns-in-Ok-clause-begins : goal.returns-in-Ok-clause-begins
returns-in-Ok-clause-begins g c = λ start told is none.
    let old = g.H.Host.seen c.args.host.now in
    let mid = g.H.Host.seen c.read_start.new.host in
    let new = g.H.Host.seen c.replay_from.new.host in
    starts_at c.in-Ok.start start c.replay_from.result.ending c.replay_from.result.kept
    (c.in-Ok.ensures.complete start told is (none_before old mid new none c.replay_from.ensures.causes.later.0 c.replay_from.ensures.causes.later.1))
    c.replay_from.ensures.spent c.replay_from.ensures.run

pub returns-in-Ok-clause-refuses : goal.returns-in-Ok-clause-refuses
returns-in-Ok-clause-refuses g c = λ e told of other. absurd (let due = c.in-Ok.ensures.exact e told of in other due.0 due.1)

pub returns-in-Ok-clause-causes : goal.returns-in-Ok-clause-causes
returns-in-Ok-clause-causes g c =
    let old = g.H.Host.seen c.args.host.now in
    let mid = g.H.Host.seen c.read_start.new.host in
    let calm = quiet_counts c.in-Ok.start old mid c.in-Ok.ensures.causes in
    causes_after (ending_status c.replay_from.result.ending) old mid (g.H.Host.seen c.replay_from.new.host) (g.S.Sink.seen c.args.console.now) (g.S.Sink.seen c.replay_from.new.console)
    calm.0 calm.1 c.replay_from.ensures.causes

pub returns-in-Ok-clause-host : goal.returns-in-Ok-clause-host
returns-in-Ok-clause-host g c =
    reads_on (g.H.Host.seen c.args.host.now) (g.H.Host.seen c.read_start.new.host) (g.H.Host.seen c.replay_from.new.host) c.in-Ok.ensures.leaves c.replay_from.ensures.host

-- ---- they give none

pub returns-in-Err-clause-answers : goal.returns-in-Err-clause-answers
returns-in-Err-clause-answers g c =
    no_start (g.H.Host.seen c.args.host.now) (g.H.Host.seen c.read_start.new.host) (g.S.Sink.seen c.args.console.now) c.args.words.now c.args.journal.now c.in-Err.refusal c.in-Err.ensures.start

pub returns-in-Err-clause-begins : goal.returns-in-Err-clause-begins
returns-in-Err-clause-begins g c = λ start told is none. as_ending _ _ (c.in-Err.ensures.complete start told is none)

pub returns-in-Err-clause-causes : goal.returns-in-Err-clause-causes
returns-in-Err-clause-causes g c =
    let old = g.H.Host.seen c.args.host.now in
    read_causes c.read_start.result c.in-Err.refusal old (g.H.Host.seen c.read_start.new.host) (g.S.Sink.seen c.args.console.now) c.in-Err.is c.read_start.ensures.causes
    (start_no_console old.tells old.file c.args.words.now (Some c.args.journal.now) c.in-Err.refusal c.in-Err.ensures.start)

pub returns-in-Err-clause-named : goal.returns-in-Err-clause-named
returns-in-Err-clause-named g c = λ name e.
    read_named c.in-Err.refusal name (g.H.Host.seen c.args.host.now) (g.H.Host.seen c.read_start.new.host) c.in-Err.ensures.causes e
