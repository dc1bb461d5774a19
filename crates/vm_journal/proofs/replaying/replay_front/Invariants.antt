use Rattle.std.proofs.Common.{◌≡◌, take}
use Rattle.vm_table.specs.History as history
use Rattle.vm_journal.proofs.replaying.replay_front.Given as goal

abbrev pub invariant-loop-at : goal.invariant-loop-at
invariant-loop-at l = record {
  legal : history.IsLegal l.start (take l.at l.journal);
  state : l.run.state ≡ history.last_state l.start (take l.at l.journal);
}
