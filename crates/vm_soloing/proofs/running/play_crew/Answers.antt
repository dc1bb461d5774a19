use Rattle.std.proofs.Common.{sym, subst, ◌∙◌}
use Rattle.std.specs.Option.{option_copied}
use Rattle.vm_host.specs.Told.{WhereTold}
use Rattle.vm_outcome.specs.Outside.{Outside, outside}
use Rattle.vm_start.specs.Images.{AllStand, AreApart}
use Rattle.vm_state.specs.declared.start.Start.{Start}
use Rattle.vm_soloing.specs.Answers.{by_rounds}
use Rattle.vm_soloing.specs.Closing.{IsApart}
use Rattle.vm_soloing.specs.Keeping.{RunsFrom}
use Rattle.vm_soloing.proofs.Crews.{crew_runs, parts_count, parts_home}
use Rattle.vm_soloing.proofs.running.play_crew.Goals as goal

pub give_back-ending-requires-clause-count : goal.give_back-ending-requires-clause-count
give_back-ending-requires-clause-count g c = λ lifetimes outlive.
    let p = c.into_parts-start.result in
    let e = c.into_parts-start.ensures in
    parts_count _ c.play-end.new.self.board p.0 p.1 p.3.items e.start e.journal e.images e.sound

pub give_back-ending-requires-clause-home : goal.give_back-ending-requires-clause-home
give_back-ending-requires-clause-home g c = λ lifetimes outlive well.
    let p = c.into_parts-start.result in
    let e = c.into_parts-start.ensures in
    parts_home _ c.play-end.new.self.board p.0 p.1 p.3.items e.start e.journal e.images (e.home (c.play-end.ensures.closed well))

pub give_back-ending-requires-clause-apart : goal.give_back-ending-requires-clause-apart
give_back-ending-requires-clause-apart g c = λ lifetimes outlive.
    subst (λ (s : Start). AreApart s.plan) (sym (c.into_parts-start.ensures.start ∙ c.play-end.ensures.start)) c.requires.apart

pub give_back-ending-requires-clause-stand : goal.give_back-ending-requires-clause-stand
give_back-ending-requires-clause-stand g c = λ lifetimes outlive.
    subst (λ h. WhereTold (g.H.Host.seen h).tells (AllStand (g.H.Host.seen h).file c.into_parts-start.result.0.plan)) (sym c.play-end.ensures.host)
    (subst (λ (s : Start). WhereTold (g.H.Host.seen c.args.host.now).tells (AllStand (g.H.Host.seen c.args.host.now).file s.plan))
    (sym (c.into_parts-start.ensures.start ∙ c.play-end.ensures.start)) c.requires.stand)

pub give_back-ending-requires-clause-journal : goal.give_back-ending-requires-clause-journal
give_back-ending-requires-clause-journal g c = λ lifetimes outlive.
    subst (λ (s : Start). IsApart (option_copied c.args.journal) s.plan) (sym (c.into_parts-start.ensures.start ∙ c.play-end.ensures.start)) c.requires.journal

pub returns-clause-runs : goal.returns-clause-runs
returns-clause-runs g c =
    let p = c.into_parts-start.result in
    let e = c.into_parts-start.ensures in
    let played = c.play-end.ensures in
    let back = c.give_back-ending.ensures in
    let mid : Outside = outside (g.H.Host.seen c.play-end.new.host) (g.H.Host.seen c.give_back-ending.new.host) (g.S.Sink.seen c.args.console.now) (g.S.Sink.seen c.play-end.new.console) in
    subst (λ h. RunsFrom by_rounds c.args.crew.board.start (option_copied c.args.journal)
    (outside (g.H.Host.seen h) (g.H.Host.seen c.give_back-ending.new.host) (g.S.Sink.seen c.args.console.now) (g.S.Sink.seen c.play-end.new.console)) c.give_back-ending.result
    (record { start = p.0; journal = p.1; run = p.2 }))
    played.host
    (crew_runs by_rounds g.H.Image.Image.seen c.args.crew.board.start (option_copied c.args.journal) mid c.play-end.new.self.board p.2 c.play-end.result c.give_back-ending.result p.0 p.1
    (record {
      board = e.sound;
      start = played.start;
      closed = played.closed;
      went = played.solo;
      no_fault = played.no_fault;
      part = played.part;
      all = played.all;
      quiet = played.quiet;
      cause = played.cause;
      later = played.later;
      cut = played.cut;
      only = played.only;
    })
    e.run e.start e.journal
    (record { closes = back.closes; causes = back.causes; host = back.host; disks = back.disks; failed = back.failed }))
