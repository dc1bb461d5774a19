use Rattle.std.proofs.Common.{◌≡◌, ◌≤◌, take}
use Rattle.vm_host.specs.Leaves.{Takes}
use Rattle.vm_status.specs.Lines.{joined, pieces_of}
use Rattle.vm_status.proofs.line.write_line.Given as goal

abbrev pub invariant-loop-k : goal.invariant-loop-k
invariant-loop-k g l = record {
  took : Takes (joined (take l.k (pieces_of l.refusal))) (g.S.Sink.seen l.fn.sink) (g.S.Sink.seen l.sink);
  faults : (g.S.Sink.seen l.sink).faults ≡ (g.S.Sink.seen l.fn.sink).faults;
}
