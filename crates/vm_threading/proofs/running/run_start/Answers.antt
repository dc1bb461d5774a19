use Rattle.std.proofs.Common.{◌≡◌, sym, ap, ◌∙◌, arith}
use Rattle.std.specs.Option.{option_copied}
use Rattle.vm_host.proofs.Frames.{reads_itself, reads_writes, writes_leaves}
use Rattle.vm_outcome.specs.Ends.{ending_status}
use Rattle.vm_outcome.proofs.Frames.{if_none, no_causes}
use Rattle.vm_soloing.specs.Answers.{in_threads}
use Rattle.vm_soloing.specs.Disks.{IsOwn}
use Rattle.vm_soloing.proofs.Crews.{no_none, none_of, opened_causes, opened_host, opened_runs, some_kept}
use Rattle.vm_soloing.proofs.Moving.{quiet_opens, unlent_runs}
use Rattle.vm_soloing.proofs.Solos.{is_some_of, unlent_kept}
use Rattle.vm_threading.proofs.running.run_start.Goals as goal

pub play-requires-clause-stand : goal.play-requires-clause-stand
play-requires-clause-stand g c = λ lifetimes outlive told. c.in-Ok-open_images.ensures.stand (sym c.in-Ok-open_images.ensures.leaves.told ∙ told)

-- ---- the images were opened

pub returns-in-Ok-open_images-clause-runs : goal.returns-in-Ok-open_images-clause-runs
returns-in-Ok-open_images-clause-runs g c =
    let old = g.H.Host.seen c.args.host.now in
    let mid = g.H.Host.seen c.open_images.new.host in
    let opened = c.in-Ok-open_images.ensures in
    opened_runs in_threads c.args.start (option_copied c.args.journal) old mid (g.H.Host.seen c.play.new.host) (g.S.Sink.seen c.args.console.now) (g.S.Sink.seen c.play.new.console)
    (quiet_opens c.in-Ok-open_images.images c.args.start.plan (option_copied c.args.journal) old mid opened.causes opened.leaves) c.play.result.ending c.play.result.kept c.play.ensures.runs

pub returns-in-Ok-open_images-clause-causes : goal.returns-in-Ok-open_images-clause-causes
returns-in-Ok-open_images-clause-causes g c =
    let old = g.H.Host.seen c.args.host.now in
    let mid = g.H.Host.seen c.open_images.new.host in
    let opened = c.in-Ok-open_images.ensures in
    let ran = c.play.ensures in
    opened_causes in_threads c.args.start (option_copied c.args.journal) old mid (g.H.Host.seen c.play.new.host) (g.S.Sink.seen c.args.console.now) (g.S.Sink.seen c.play.new.console)
    (quiet_opens c.in-Ok-open_images.images c.args.start.plan (option_copied c.args.journal) old mid opened.causes opened.leaves) c.play.result.ending c.play.result.kept ran.runs ran.spent
    (λ e. ap g.H.Host.seen (none_of _ c.play.result.kept ran.still e)) (if_none _ _ c.play.result.kept (λ e. ap (λ s. g.S.Sink.seen s) e) ran.silent)

pub returns-in-Ok-open_images-clause-host : goal.returns-in-Ok-open_images-clause-host
returns-in-Ok-open_images-clause-host g c =
    let old = g.H.Host.seen c.args.host.now in
    let mid = g.H.Host.seen c.open_images.new.host in
    let opened = c.in-Ok-open_images.ensures in
    let ran = c.play.ensures in
    opened_host in_threads c.args.start (option_copied c.args.journal) old mid (g.H.Host.seen c.play.new.host) (g.S.Sink.seen c.args.console.now) (g.S.Sink.seen c.play.new.console)
    (quiet_opens c.in-Ok-open_images.images c.args.start.plan (option_copied c.args.journal) old mid opened.causes opened.leaves) c.play.result.ending c.play.result.kept ran.runs
    (λ e. ap g.H.Host.seen (none_of _ c.play.result.kept ran.still e))

-- ---- they weren't

pub returns-in-Err-open_images-clause-runs : goal.returns-in-Err-open_images-clause-runs
returns-in-Err-open_images-clause-runs g c =
    unlent_kept _ _ c.unopened.result.kept c.unopened.ensures.kept
    (λ k p. unlent_runs in_threads c.args.start (option_copied c.args.journal) (g.H.Host.seen c.args.host.now) (g.H.Host.seen c.open_images.new.host) (g.S.Sink.seen c.args.console.now) k c.open_images.result
    c.in-Err-open_images.refusal c.unopened.result.ending c.unopened.ensures.ending p.0 p.1 c.in-Err-open_images.is c.in-Err-open_images.ensures.refusal c.open_images.ensures.causes c.open_images.ensures.leaves)

pub returns-in-Err-open_images-clause-spent : goal.returns-in-Err-open_images-clause-spent
returns-in-Err-open_images-clause-spent g c = no_none _ c.unopened.result.kept (is_some_of _ c.unopened.result.kept c.unopened.ensures.kept)

pub returns-in-Err-open_images-clause-causes : goal.returns-in-Err-open_images-clause-causes
returns-in-Err-open_images-clause-causes g c =
    (some_kept _ c.unopened.result.kept (is_some_of _ c.unopened.result.kept c.unopened.ensures.kept) (returns-in-Err-open_images-clause-runs g c)).2.causes

pub returns-in-Err-open_images-clause-host : goal.returns-in-Err-open_images-clause-host
returns-in-Err-open_images-clause-host g c =
    (some_kept _ c.unopened.result.kept (is_some_of _ c.unopened.result.kept c.unopened.ensures.kept) (returns-in-Err-open_images-clause-runs g c)).2.host

pub returns-in-Err-open_images-clause-silent : goal.returns-in-Err-open_images-clause-silent
returns-in-Err-open_images-clause-silent g c = no_none _ c.unopened.result.kept (is_some_of _ c.unopened.result.kept c.unopened.ensures.kept)

-- ---- memory was out before

pub returns-in-Err-clause-causes : goal.returns-in-Err-clause-causes
returns-in-Err-clause-causes g c =
    let e : ending_status c.spent.result.ending ≡ 71 = ap ending_status c.spent.ensures.ending in
    no_causes (ending_status c.spent.result.ending) (g.H.Host.seen c.args.host.now) (g.S.Sink.seen c.args.console.now) (λ s. omega (arith, e, s)) (λ s. omega (arith, e, s)) (λ s. omega (arith, e, s))

pub returns-in-Err-clause-host : goal.returns-in-Err-clause-host
returns-in-Err-clause-host g c =
    let host = g.H.Host.seen c.args.host.now in
    let own = IsOwn c.args.start.plan (option_copied c.args.journal) in
    writes_leaves host host own (reads_writes host host own (reads_itself host (λ told. g.met.H.Host.since_earlier c.args.host.now told)))
