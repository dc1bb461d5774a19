use Rattle.std.proofs.Common.{length, ◌-◌, ◌≡◌, ◌≤◌, take}
use Rattle.vm_host.specs.Leaves.{Takes}
use Rattle.vm_status.proofs.writing.write_all.Given as goal

abbrev pub invariant-loop-at : goal.invariant-loop-at
invariant-loop-at g l = record {
  within : l.at ≤ length l.bytes;
  took : Takes (take l.at l.bytes) (g.S.Sink.seen l.initial.sink) (g.S.Sink.seen l.sink);
  faults : (g.S.Sink.seen l.sink).faults ≡ (g.S.Sink.seen l.initial.sink).faults;
}

abbrev pub decreases-loop-at : goal.decreases-loop-at
decreases-loop-at g l = length l.bytes - l.at
