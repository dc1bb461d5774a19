use Rattle.std.proofs.Common.{take, Ok}
use Rattle.vm_host.specs.Leaves.{ReadsHost}
use Rattle.vm_start.specs.Causes.{HasReadCauses}
use Rattle.vm_start.specs.Start.{DisksOf}
use Rattle.vm_start.proofs.disks.read_disks.Given as goal

abbrev pub invariant-loop-plan : goal.invariant-loop-plan
invariant-loop-plan g l =
    let old = g.H.Host.seen l.initial.host in
    let now = g.H.Host.seen l.host in
    record {
      read : DisksOf old.tells old.file (take l.plan-index l.plans) (Ok l.disks);
      causes : HasReadCauses {X = Unit {0}} (Ok tt) old now;
      leaves : ReadsHost old now;
    }
