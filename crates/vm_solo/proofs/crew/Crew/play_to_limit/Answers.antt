-- Each round brings the limit nearer, or ends the run.
use Rattle.std.proofs.Common.{◌<◌, refl, sym, ap, ◌∙◌, arith}
use Rattle.vm_state.specs.State.{State}
use Rattle.vm_orders.specs.Ending.{entry_limit}
use Rattle.vm_solo.specs.Played.{WentOn}
use Rattle.vm_solo.specs.View.{CrewView}
use Rattle.vm_solo.proofs.Going.{went_nowhere, went_then}
use Rattle.vm_solo.proofs.Lasts.{early_less}
use Rattle.vm_solo.proofs.Played.{next_played}
use Rattle.vm_solo.proofs.crew.Crew.play_to_limit.Goals as goal

pub rounds-init : goal.rounds-init
rounds-init g c = record { went = went_nowhere c.args.self.now (g.S.Sink.seen c.args.console.now); host = refl; played = c.requires.played }

pub rounds-preserved : goal.rounds-preserved
rounds-preserved g c =
    let o = c.in_ok-round.ensures in
    let w : WentOn c.rounds.self c.round.new.self (g.S.Sink.seen c.rounds.console) (g.S.Sink.seen c.round.new.console) = record { continues = o.continues; writes = o.writes; keeps = o.keeps; cause = o.cause } in
    record {
      went = went_then c.args.self.now c.rounds.self c.round.new.self _ _ _ c.rounds.invariant.went w;
      host = o.host ∙ c.rounds.invariant.host;
      played = next_played g.I.Image.seen c.rounds.self c.round.new.self _ _ c.is_sound.ensures w o.plays o.whole o.fed c.rounds.invariant.played;
    }

pub rounds-smaller : goal.rounds-smaller
rounds-smaller g c =
    let going = sym c.is_going.ensures ∙ c.rounds-test.true in
    let v = ap (λ (o : CrewView g.row.I.Denot). o.board.state.entries) c.self.view_is in
    let r = ap (λ (s : State). s.entries) c.run.ensures in
    let e = c.entries.ensures in
    let t = c.if-entries-lt-ENTRY_LIMIT.true in
    let early : c.rounds.self.board.state.entries < entry_limit = omega (arith, v, r, e, t) in
    early_less g.I.Image.seen c.rounds.self c.round.new.self c.is_sound.ensures going early c.in_ok-round.ensures.plays

pub returns-in_err-round-clause-went : goal.returns-in_err-round-clause-went
returns-in_err-round-clause-went g c =
    let o = c.in_err-round.ensures in
    let w : WentOn c.rounds.self c.round.new.self (g.S.Sink.seen c.rounds.console) (g.S.Sink.seen c.round.new.console) = record { continues = o.continues; writes = o.writes; keeps = o.keeps; cause = o.cause } in
    went_then c.args.self.now c.rounds.self c.round.new.self _ _ _ c.rounds.invariant.went w
