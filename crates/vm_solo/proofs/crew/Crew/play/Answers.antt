-- A new crew's rounds up to Close: the facts of the call, and the lemmas of Played and Taken.
use Rattle.std.proofs.Common.{Bool, List, sym, subst}
use Rattle.vm_state.specs.declared.start.Start.{Start}
use Rattle.vm_solo.specs.Ending.{IsCutShort}
use Rattle.vm_table.specs.Rounds.{IsSolo}
use Rattle.vm_solo.proofs.Played.{new_played, played_cut, played_inside, played_solo}
use Rattle.vm_solo.proofs.Taken.{later, quiet, rose, sinks, took_all, took_some}
use Rattle.vm_solo.proofs.crew.Crew.play.Goals as goal

pub play_all-played-requires-clause-played : goal.play_all-played-requires-clause-played
play_all-played-requires-clause-played g c κs within = new_played c.args.self.now c.requires.new

pub returns-in-Err-clause-part : goal.returns-in-Err-clause-part
returns-in-Err-clause-part g c = took_some c.args.self.now c.play_all-played.new.self (g.S.Sink.seen c.args.console.now) (g.S.Sink.seen c.play_all-played.new.console) c.requires.new c.play_all-played.ensures.went g.I.Image.seen c.is_sound.ensures

pub returns-in-Err-clause-later : goal.returns-in-Err-clause-later
returns-in-Err-clause-later g c = later c.args.self.now c.play_all-played.new.self (g.S.Sink.seen c.args.console.now) (g.S.Sink.seen c.play_all-played.new.console) c.requires.new c.play_all-played.ensures.went

pub returns-in-Some-clause-part : goal.returns-in-Some-clause-part
returns-in-Some-clause-part g c = took_some c.args.self.now c.play_all-played.new.self (g.S.Sink.seen c.args.console.now) (g.S.Sink.seen c.play_all-played.new.console) c.requires.new c.play_all-played.ensures.went g.I.Image.seen c.is_sound.ensures

pub returns-in-Some-clause-later : goal.returns-in-Some-clause-later
returns-in-Some-clause-later g c = later c.args.self.now c.play_all-played.new.self (g.S.Sink.seen c.args.console.now) (g.S.Sink.seen c.play_all-played.new.console) c.requires.new c.play_all-played.ensures.went

pub returns-in-None-clause-part : goal.returns-in-None-clause-part
returns-in-None-clause-part g c = took_some c.args.self.now c.play_all-played.new.self (g.S.Sink.seen c.args.console.now) (g.S.Sink.seen c.play_all-played.new.console) c.requires.new c.play_all-played.ensures.went g.I.Image.seen c.is_sound.ensures

pub returns-in-None-clause-later : goal.returns-in-None-clause-later
returns-in-None-clause-later g c = later c.args.self.now c.play_all-played.new.self (g.S.Sink.seen c.args.console.now) (g.S.Sink.seen c.play_all-played.new.console) c.requires.new c.play_all-played.ensures.went

pub returns-in-Some-clause-starved : goal.returns-in-Some-clause-starved
returns-in-Some-clause-starved g c = λ e. absurd (let s = sinks c.args.self.now c.play_all-played.new.self (g.S.Sink.seen c.args.console.now) (g.S.Sink.seen c.play_all-played.new.console) c.requires.new c.play_all-played.ensures.went c.in-Some.fault (sym c.in-Some.ensures) in let h = e in cc)

pub returns-in-Some-clause-cause : goal.returns-in-Some-clause-cause
returns-in-Some-clause-cause g c = λ e. rose c.args.self.now c.play_all-played.new.self (g.S.Sink.seen c.args.console.now) (g.S.Sink.seen c.play_all-played.new.console) c.requires.new c.play_all-played.ensures.went c.in-Some.fault (sym c.in-Some.ensures)

pub returns-in-Some-clause-cut : goal.returns-in-Some-clause-cut
returns-in-Some-clause-cut g c = λ e.
    subst (λ (s : Start). IsCutShort s c.play_all-played.new.self.board.journal c.play_all-played.new.self.board.state.ended) c.play_all-played.ensures.went.continues.start
    (played_cut g.I.Image.seen c.play_all-played.new.self c.in-Some.fault c.is_sound.ensures c.in-Ok.ensures.played (sym c.in-Some.ensures) c.in-Ok.ensures.closed)

pub returns-in-None-clause-solo : goal.returns-in-None-clause-solo
returns-in-None-clause-solo g c = λ e.
    subst (λ (s : Start). (calls : List Bool) × IsSolo s calls c.play_all-played.new.self.board.journal) c.play_all-played.ensures.went.continues.start
    (played_solo c.play_all-played.new.self c.in-Ok.ensures.played (sym c.in-None.ensures) c.in-Ok.ensures.closed)

pub returns-in-None-clause-no_fault : goal.returns-in-None-clause-no_fault
returns-in-None-clause-no_fault g c = λ e. played_inside c.play_all-played.new.self c.in-Ok.ensures.played (sym c.in-None.ensures)

pub returns-in-None-clause-all : goal.returns-in-None-clause-all
returns-in-None-clause-all g c = λ e. took_all c.args.self.now c.play_all-played.new.self (g.S.Sink.seen c.args.console.now) (g.S.Sink.seen c.play_all-played.new.console) c.requires.new c.play_all-played.ensures.went c.in-Ok.ensures.played (sym c.in-None.ensures) c.in-Ok.ensures.closed

pub returns-in-None-clause-quiet : goal.returns-in-None-clause-quiet
returns-in-None-clause-quiet g c = λ e. quiet c.args.self.now c.play_all-played.new.self (g.S.Sink.seen c.args.console.now) (g.S.Sink.seen c.play_all-played.new.console) c.requires.new c.play_all-played.ensures.went (sym c.in-None.ensures)
