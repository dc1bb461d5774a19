use Rattle.std.proofs.Common.{sym, subst, ◌∙◌}
use Rattle.std.specs.Option.{option_copied}
use Rattle.vm_host.specs.Told.{WhereTold}
use Rattle.vm_outcome.specs.Outside.{Outside, outside}
use Rattle.vm_solo.proofs.AtHome.{all_home}
use Rattle.vm_start.specs.Images.{AllStand, AreApart}
use Rattle.vm_state.specs.declared.start.Start.{Start}
use Rattle.vm_soloing.specs.Answers.{in_threads}
use Rattle.vm_soloing.specs.Closing.{IsApart}
use Rattle.vm_soloing.specs.Keeping.{RunsFrom}
use Rattle.vm_soloing.proofs.Crews.{crew_runs, parts_count, parts_home}
use Rattle.vm_threading.proofs.running.play.Goals as goal

pub give_back-ending-requires-clause-count : goal.give_back-ending-requires-clause-count
give_back-ending-requires-clause-count g c = λ lifetimes outlive.
    let p = c.into_parts-start.result in
    let e = c.into_parts-start.ensures in
    parts_count g.H.Image.Image.seen c.in-Ok.played.board p.0 p.1 p.3.items e.start e.journal e.images e.sound

pub give_back-ending-requires-clause-home : goal.give_back-ending-requires-clause-home
give_back-ending-requires-clause-home g c = λ lifetimes outlive well.
    let b = c.in-Ok.played.board in
    let p = c.into_parts-start.result in
    let e = c.into_parts-start.ensures in
    parts_home g.H.Image.Image.seen b p.0 p.1 p.3.items e.start e.journal e.images (all_home g.H.Image.Image.seen b e.sound (c.in-Ok.ensures.closed well))

pub give_back-ending-requires-clause-apart : goal.give_back-ending-requires-clause-apart
give_back-ending-requires-clause-apart g c = λ lifetimes outlive.
    subst (λ (s : Start). AreApart s.plan) (sym (c.into_parts-start.ensures.start ∙ c.in-Ok.ensures.start)) c.requires.apart

pub give_back-ending-requires-clause-stand : goal.give_back-ending-requires-clause-stand
give_back-ending-requires-clause-stand g c = λ lifetimes outlive.
    subst (λ h. WhereTold (g.H.Host.seen h).tells (AllStand (g.H.Host.seen h).file c.into_parts-start.result.0.plan)) (sym c.play_threads.ensures.host)
    (subst (λ (s : Start). WhereTold (g.H.Host.seen c.args.host.now).tells (AllStand (g.H.Host.seen c.args.host.now).file s.plan))
    (sym (c.into_parts-start.ensures.start ∙ c.in-Ok.ensures.start)) c.requires.stand)

pub give_back-ending-requires-clause-journal : goal.give_back-ending-requires-clause-journal
give_back-ending-requires-clause-journal g c = λ lifetimes outlive.
    subst (λ (s : Start). IsApart (option_copied c.args.journal) s.plan) (sym (c.into_parts-start.ensures.start ∙ c.in-Ok.ensures.start)) c.requires.journal

-- nothing is said of the way in which threads interleave
pub returns-clause-runs : goal.returns-clause-runs
returns-clause-runs g c =
    let p = c.into_parts-start.result in
    let e = c.into_parts-start.ensures in
    let b = c.in-Ok.played.board in
    let played = c.in-Ok.ensures in
    let back = c.give_back-ending.ensures in
    let mid : Outside = outside (g.H.Host.seen c.play_threads.new._host) (g.H.Host.seen c.give_back-ending.new.host) (g.S.Sink.seen c.args.console.now) (g.S.Sink.seen c.play_threads.new.console) in
    subst (λ h. RunsFrom in_threads c.args.start (option_copied c.args.journal)
    (outside (g.H.Host.seen h) (g.H.Host.seen c.give_back-ending.new.host) (g.S.Sink.seen c.args.console.now) (g.S.Sink.seen c.play_threads.new.console)) c.give_back-ending.result
    (record { start = p.0; journal = p.1; run = p.2 }))
    c.play_threads.ensures.host
    (crew_runs in_threads g.H.Image.Image.seen c.args.start (option_copied c.args.journal) mid b p.2 c.in-Ok.played.answer c.give_back-ending.result p.0 p.1
    (record {
      board = e.sound;
      start = played.start;
      closed = played.closed;
      went = λ _. tt;
      no_fault = played.no_fault;
      part = played.part;
      all = played.all;
      quiet = played.quiet;
      cause = played.cause;
      later = c.play_threads.ensures.later;
      cut = λ _. tt;
      only = played.only;
    })
    e.run e.start e.journal
    (record { closes = back.closes; causes = back.causes; host = back.host; disks = back.disks; failed = back.failed }))
