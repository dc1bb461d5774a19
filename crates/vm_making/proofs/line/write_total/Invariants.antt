use Rattle.std.proofs.Common.{◌≡◌, take}
use Rattle.vm_host.specs.Leaves.{Takes}
use Rattle.vm_making.specs.Line.{total_pieces}
use Rattle.vm_making.proofs.line.write_total.Given as goal
use Rattle.vm_status.specs.Lines.{joined}

abbrev pub invariant-loop-k : goal.invariant-loop-k
invariant-loop-k g l = record {
  took : Takes (joined (take l.k (total_pieces l.cpus_digits l.number_digits l.total_digits))) (g.S.Sink.seen l.fn.sink) (g.S.Sink.seen l.sink);
  faults : (g.S.Sink.seen l.sink).faults ≡ (g.S.Sink.seen l.fn.sink).faults;
}
