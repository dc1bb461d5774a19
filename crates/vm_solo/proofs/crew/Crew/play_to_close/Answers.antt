-- Each round of a run that has ended brings Close nearer.
use Rattle.std.proofs.Common.{◌≡◌, false, refl, ap, ◌∙◌}
use Rattle.vm_solo.specs.Played.{WentOn}
use Rattle.vm_solo.specs.View.{CrewView}
use Rattle.vm_solo.proofs.Going.{went_nowhere, went_then}
use Rattle.vm_solo.proofs.Measures.{ended_round_falls, ended_stays}
use Rattle.vm_solo.proofs.Played.{next_played}
use Rattle.vm_solo.proofs.crew.Crew.play_to_close.Goals as goal

pub rounds-init : goal.rounds-init
rounds-init g c = record { went = went_nowhere c.args.self.now (g.S.Sink.seen c.args.console.now); host = refl; played = c.requires.played; ended = c.requires.ended }

pub rounds-preserved : goal.rounds-preserved
rounds-preserved g c =
    let o = c.in_ok-round.ensures in
    let w : WentOn c.rounds.self c.round.new.self (g.S.Sink.seen c.rounds.console) (g.S.Sink.seen c.round.new.console) = record { continues = o.continues; writes = o.writes; keeps = o.keeps; cause = o.cause } in
    record {
      went = went_then c.args.self.now c.rounds.self c.round.new.self _ _ _ c.rounds.invariant.went w;
      host = o.host ∙ c.rounds.invariant.host;
      played = next_played g.I.Image.seen c.rounds.self c.round.new.self _ _ c.is_sound.ensures w o.plays o.whole o.fed c.rounds.invariant.played;
      ended = ended_stays g.I.Image.seen c.rounds.self c.round.new.self c.is_sound.ensures c.rounds.invariant.ended o.plays;
    }

pub rounds-smaller : goal.rounds-smaller
rounds-smaller g c =
    let v = ap (λ (o : CrewView g.row.I.Denot). o.board.state.closed) c.self.view_is in
    let r = c.run.ensures in
    let k = c.closed.ensures in
    let t = c.rounds-test.true in
    let going : c.rounds.self.board.state.closed ≡ false = cc in
    ended_round_falls g.I.Image.seen c.rounds.self c.round.new.self c.is_sound.ensures going c.rounds.invariant.ended c.in_ok-round.ensures.plays

pub returns-in_err-round-clause-went : goal.returns-in_err-round-clause-went
returns-in_err-round-clause-went g c =
    let o = c.in_err-round.ensures in
    let w : WentOn c.rounds.self c.round.new.self (g.S.Sink.seen c.rounds.console) (g.S.Sink.seen c.round.new.console) = record { continues = o.continues; writes = o.writes; keeps = o.keeps; cause = o.cause } in
    went_then c.args.self.now c.rounds.self c.round.new.self _ _ _ c.rounds.invariant.went w
