use Rattle.std.specs.Prelude.{[]}
use Rattle.std.proofs.Common.{◌≡◌}
use Rattle.vm_rounds.proofs.Closed.{to_come}
use Rattle.vm_solo.specs.Played.{HasPlayed, WentOn}
use Rattle.vm_solo.specs.Rounds.{rounds_of}
use Rattle.vm_solo.proofs.Falling.{twice}
use Rattle.vm_solo.proofs.Lasts.{rounds_left}
use Rattle.vm_solo.proofs.crew.Crew.play_to_limit.Given as goal

abbrev pub invariant-rounds : goal.invariant-rounds
invariant-rounds g l = record {
  went : WentOn l.initial.self l.self (g.S.Sink.seen l.initial.console) (g.S.Sink.seen l.console);
  host : l.host ≡ l.initial.host;
  played : HasPlayed l.self;
}

-- the entries until the limit
abbrev pub decreases-rounds : goal.decreases-rounds
decreases-rounds g l = rounds_left l.self (twice (to_come l.self.board.state) (rounds_of l.self []))
