use Rattle.std.proofs.Common.{◌≡◌, ◌<◌}
use Rattle.vm_making.specs.Counts.{counts, drawn}
use Rattle.vm_making.proofs.counting.counts_of.Given as goal

abbrev pub invariant-loop-cpu : goal.invariant-loop-cpu
invariant-loop-cpu l = record {
  drawn : l.x ≡ drawn l.number l._cpu;
  below : l.x < 2147483648;
  counts : l.counts.items ≡ counts l._cpu l.number;
}
