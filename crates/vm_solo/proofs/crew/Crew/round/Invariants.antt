use Rattle.std.proofs.Common.{◌≡◌, true, length}
use Rattle.vm_solo.specs.Playing.{Continues}
use Rattle.vm_solo.proofs.Rounding.{PlaysBehind, PlaysOthers}
use Rattle.vm_solo.proofs.crew.Crew.round.Given as goal

abbrev pub invariant-loop-cpu : goal.invariant-loop-cpu
invariant-loop-cpu g l = record {
  runners : length l.self.runners ≡ length l.initial.self.runners;
  workers : l.self.workers ≡ l.initial.self.workers;
  control : (l.self.control ≡ l.initial.self.control) × (l.self.fault ≡ l.initial.self.fault);
  continues : Continues l.initial.self.board l.self.board;
  fed : l.self.board.starved ≡ l.initial.self.board.starved;
  shut : l.self.board.state.closed ≡ true → l.self.board.state ≡ l.initial.self.board.state;
  plays : PlaysOthers l.cpu l.initial.self l.self;
}

abbrev pub invariant-loop-k : goal.invariant-loop-k
invariant-loop-k g l = record {
  runners : l.self.runners ≡ l.initial.self.runners;
  workers : length l.self.workers ≡ length l.initial.self.workers;
  control : (l.self.control ≡ l.initial.self.control) × (l.self.fault ≡ l.initial.self.fault);
  continues : Continues l.initial.self.board l.self.board;
  fed : l.self.board.starved ≡ l.initial.self.board.starved;
  shut : l.self.board.state.closed ≡ true → l.self.board.state ≡ l.initial.self.board.state;
  plays : PlaysBehind (length l.initial.self.runners) l.k l.initial.self l.self;
}
