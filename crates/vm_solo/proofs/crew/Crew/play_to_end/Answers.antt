-- Each round brings the end nearer, or ends the run.
use Rattle.std.proofs.Common.{refl, sym, ◌∙◌}
use Rattle.vm_solo.specs.Played.{WentOn}
use Rattle.vm_solo.proofs.Going.{went_nowhere, went_then}
use Rattle.vm_solo.proofs.Lasts.{late_less, late_stays}
use Rattle.vm_solo.proofs.Played.{next_played}
use Rattle.vm_solo.proofs.crew.Crew.play_to_end.Goals as goal

pub rounds-init : goal.rounds-init
rounds-init g c = record { went = went_nowhere c.args.self.now (g.S.Sink.seen c.args.console.now); host = refl; played = c.requires.played; late = c.requires.late }

pub rounds-preserved : goal.rounds-preserved
rounds-preserved g c =
    let o = c.in_ok-round.ensures in
    let w : WentOn c.rounds.self c.round.new.self (g.S.Sink.seen c.rounds.console) (g.S.Sink.seen c.round.new.console) = record { continues = o.continues; writes = o.writes; keeps = o.keeps; cause = o.cause } in
    record {
      went = went_then c.args.self.now c.rounds.self c.round.new.self _ _ _ c.rounds.invariant.went w;
      host = o.host ∙ c.rounds.invariant.host;
      played = next_played g.I.Image.seen c.rounds.self c.round.new.self _ _ c.is_sound.ensures w o.plays o.whole o.fed c.rounds.invariant.played;
      late = (let going = sym c.is_going.ensures ∙ c.rounds-test.true in late_stays g.I.Image.seen c.rounds.self c.round.new.self c.is_sound.ensures going (c.rounds.invariant.late going) o.plays);
    }

pub rounds-smaller : goal.rounds-smaller
rounds-smaller g c =
    let going = sym c.is_going.ensures ∙ c.rounds-test.true in
    late_less g.I.Image.seen c.rounds.self c.round.new.self c.is_sound.ensures going (c.rounds.invariant.late going) c.in_ok-round.ensures.plays

pub returns-in_err-round-clause-went : goal.returns-in_err-round-clause-went
returns-in_err-round-clause-went g c =
    let o = c.in_err-round.ensures in
    let w : WentOn c.rounds.self c.round.new.self (g.S.Sink.seen c.rounds.console) (g.S.Sink.seen c.round.new.console) = record { continues = o.continues; writes = o.writes; keeps = o.keeps; cause = o.cause } in
    went_then c.args.self.now c.rounds.self c.round.new.self _ _ _ c.rounds.invariant.went w
