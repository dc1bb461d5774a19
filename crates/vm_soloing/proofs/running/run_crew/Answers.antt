use Rattle.std.proofs.Common.{IfSome, sym, subst}
use Rattle.std.specs.Option.{option_copied}
use Rattle.vm_host.specs.Told.{WhereTold}
use Rattle.vm_outcome.specs.Outside.{outside}
use Rattle.vm_start.specs.Images.{AllStand, AreApart}
use Rattle.vm_state.specs.declared.start.Start.{Start}
use Rattle.vm_soloing.specs.Answers.{by_rounds}
use Rattle.vm_soloing.specs.Closing.{IsApart}
use Rattle.vm_soloing.specs.Keeping.{RunsFrom}
use Rattle.vm_soloing.proofs.Crews.{no_none}
use Rattle.vm_soloing.proofs.running.run_crew.Goals as goal

pub play_crew-requires-clause-apart : goal.play_crew-requires-clause-apart
play_crew-requires-clause-apart g c = λ lifetimes outlive. subst (λ (s : Start). AreApart s.plan) (sym c.in-Ok.ensures.start) c.requires.apart

pub play_crew-requires-clause-stand : goal.play_crew-requires-clause-stand
play_crew-requires-clause-stand g c = λ lifetimes outlive.
    subst (λ (s : Start). WhereTold (g.H.Host.seen c.args.host.now).tells (AllStand (g.H.Host.seen c.args.host.now).file s.plan)) (sym c.in-Ok.ensures.start) c.requires.stand

pub play_crew-requires-clause-journal : goal.play_crew-requires-clause-journal
play_crew-requires-clause-journal g c = λ lifetimes outlive. subst (λ (s : Start). IsApart (option_copied c.args.journal) s.plan) (sym c.in-Ok.ensures.start) c.requires.journal

pub returns-in-Ok-clause-runs : goal.returns-in-Ok-clause-runs
returns-in-Ok-clause-runs g c =
    subst (λ (s : Start). IfSome c.play_crew.result.kept (λ k. RunsFrom by_rounds s (option_copied c.args.journal)
    (outside (g.H.Host.seen c.args.host.now) (g.H.Host.seen c.play_crew.new.host) (g.S.Sink.seen c.args.console.now) (g.S.Sink.seen c.play_crew.new.console)) c.play_crew.result.ending k))
    c.in-Ok.ensures.start c.play_crew.ensures.runs

pub returns-in-Ok-clause-spent : goal.returns-in-Ok-clause-spent
returns-in-Ok-clause-spent g c = no_none _ c.play_crew.result.kept c.play_crew.ensures.kept

pub returns-in-Ok-clause-still : goal.returns-in-Ok-clause-still
returns-in-Ok-clause-still g c = no_none _ c.play_crew.result.kept c.play_crew.ensures.kept

pub returns-in-Ok-clause-silent : goal.returns-in-Ok-clause-silent
returns-in-Ok-clause-silent g c = no_none _ c.play_crew.result.kept c.play_crew.ensures.kept
