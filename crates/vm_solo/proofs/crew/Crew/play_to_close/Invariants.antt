use Rattle.std.specs.Prelude.{is_some, []}
use Rattle.std.proofs.Common.{◌≡◌, true}
use Rattle.vm_laws.specs.Ending.{need}
use Rattle.vm_solo.specs.Played.{HasPlayed, WentOn}
use Rattle.vm_solo.specs.Rounds.{rounds_of}
use Rattle.vm_solo.proofs.Falling.{twice}
use Rattle.vm_solo.proofs.crew.Crew.play_to_close.Given as goal

abbrev pub invariant-rounds : goal.invariant-rounds
invariant-rounds g l = record {
  went : WentOn l.initial.self l.self (g.S.Sink.seen l.initial.console) (g.S.Sink.seen l.console);
  host : l.host ≡ l.initial.host;
  played : HasPlayed l.self;
  ended : is_some l.self.board.state.ended ≡ true;
}

-- what the run still needs until Close
abbrev pub decreases-rounds : goal.decreases-rounds
decreases-rounds g l = twice (need l.self.board.state) (rounds_of l.self [])
