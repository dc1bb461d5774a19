use Rattle.std.proofs.Common.{◌≡◌, ◌≤◌, true}
use Rattle.vm_orders.specs.Ending.{entry_limit}
use Rattle.vm_rounds.proofs.Lasting.{before_last}
use Rattle.vm_solo.specs.Played.{HasPlayed, WentOn}
use Rattle.vm_solo.specs.Playing.{is_going}
use Rattle.vm_solo.proofs.Lasts.{rounds_left}
use Rattle.vm_solo.proofs.crew.Crew.play_to_end.Given as goal

abbrev pub invariant-rounds : goal.invariant-rounds
invariant-rounds g l = record {
  went : WentOn l.initial.self l.self (g.S.Sink.seen l.initial.console) (g.S.Sink.seen l.console);
  host : l.host ≡ l.initial.host;
  played : HasPlayed l.self;
  late : is_going l.self.board.state ≡ true → entry_limit ≤ l.self.board.state.entries;
}

-- what is left before the end
abbrev pub decreases-rounds : goal.decreases-rounds
decreases-rounds g l = rounds_left l.self (before_last l.self.board.state)
