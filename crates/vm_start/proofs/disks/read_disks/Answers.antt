use Rattle.std.proofs.Common.{◌≡◌, ◌+◌, ◌<◌, ◌∙◌, ℕ, List, length, Err, Ok, sym, ap, subst, take, arith}
use Rattle.std.specs.Prelude.{slice_index_or}
use Rattle.vm_law.specs.declared.plan.DiskPlan.{DiskPlan}
use Rattle.std.proofs.lemmas.Result.{err_from_is_err_and}
use Rattle.vm_host.proofs.Frames.{reads_itself, reads_on}
use Rattle.vm_start.specs.Start.{DiskOf, DisksOf}
use Rattle.vm_start.proofs.Back.{up_as, disk_as}
use Rattle.vm_start.proofs.Causes.{causes_on, ok_as, ok_still, err_as}
use Rattle.vm_start.proofs.Read.{disks_next, disks_stop}
use Rattle.vm_start.proofs.disks.read_disks.Goals as goal

pub loop-plan-init : goal.loop-plan-init
loop-plan-init g c = record {
  read = ap (λ (l : List (List ℕ)). Ok l) c.new-disks.ensures;
  causes = ok_still tt (g.H.Host.seen c.args.host.now);
  leaves = reads_itself (g.H.Host.seen c.args.host.now) (λ told. g.met.H.Host.since_earlier c.args.host.now told);
}

pub returns-in_err-disk-clause-causes : goal.returns-in_err-disk-clause-causes
returns-in_err-disk-clause-causes g c =
    let inv = c.loop-plan.invariant in
    let p = err_from_is_err_and c.from_residual.result c.from_residual.ensures.1 in
    rw (p.1, p.2) (err_as c.in_err-disk.field-0.0 _ _ (causes_on (g.H.Host.seen c.args.host.now) (g.H.Host.seen c.loop-plan.host) (g.H.Host.seen c.read_disk.new.host) tt (Err c.in_err-disk.field-0.0) inv.causes c.in_err-disk.ensures.causes))

pub returns-in_err-disk-clause-leaves : goal.returns-in_err-disk-clause-leaves
returns-in_err-disk-clause-leaves g c = reads_on _ _ _ c.loop-plan.invariant.leaves c.in_err-disk.ensures.leaves

pub returns-in_err-disk-clause-value : goal.returns-in_err-disk-clause-value
returns-in_err-disk-clause-value g c =
    let host = g.H.Host.seen c.args.host.now in
    let now = g.H.Host.seen c.loop-plan.host in
    let plans = c.args.plans.now in
    let i = c.loop-plan.plan-index in
    let d = c.plan-item.result in
    let path = c.as_str.result.now in
    let f = c.in_err-disk.field-0.0 in
    let is : path ≡ (slice_index_or plans i d).path = c.as_str.ensures ∙ ap (λ (p : DiskPlan). p.path) c.plan-item.is in
    let lt : i < length plans = omega arith in
    let p = err_from_is_err_and c.from_residual.result c.from_residual.ensures.1 in
    rw (p.1, p.2) (disks_stop host.tells host.file plans i d path c.loop-plan.disks f lt is c.loop-plan.invariant.read
    (up_as (DiskOf now.tells now.file path) (DiskOf host.tells host.file path) (disk_as host now c.loop-plan.invariant.leaves path) (Err f) c.in_err-disk.ensures.value))

pub loop-plan-preserved : goal.loop-plan-preserved
loop-plan-preserved g c =
    let host = g.H.Host.seen c.args.host.now in
    let now = g.H.Host.seen c.loop-plan.host in
    let new = g.H.Host.seen c.read_disk.new.host in
    let inv = c.loop-plan.invariant in
    let plans = c.args.plans.now in
    let i = c.loop-plan.plan-index in
    let d = c.plan-item.result in
    let path = c.as_str.result.now in
    let disk = c.in_ok-disk.disk in
    let is : path ≡ (slice_index_or plans i d).path = c.as_str.ensures ∙ ap (λ (p : DiskPlan). p.path) c.plan-item.is in
    let lt : i < length plans = omega arith in
    record {
      read = subst (λ (l : List (List ℕ)). DisksOf host.tells host.file (take (i + 1) plans) (Ok l)) (sym c.in_ok-push.ensures.ok)
          (disks_next host.tells host.file plans i d path c.loop-plan.disks disk lt is inv.read (disk_as host now inv.leaves path (Ok disk) c.in_ok-disk.ensures.value));
      causes = ok_as disk tt host new (causes_on host now new tt (Ok disk) inv.causes c.in_ok-disk.ensures.causes);
      leaves = reads_on host now new inv.leaves c.in_ok-disk.ensures.leaves;
    }
