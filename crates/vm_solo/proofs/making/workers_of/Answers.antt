use Rattle.std.proofs.Common.{◌≡◌, ℕ, List, sym, ap, subst, ◌∙◌, arith}
use Rattle.vm_state.specs.Machine.{drive_count}
use Rattle.vm_state.specs.Requests.{first_worker, pass_count}
use Rattle.vm_blkwork.specs.declared.worker.Worker.{Worker}
use Rattle.vm_solo.specs.New.{AreNewWorkers}
use Rattle.vm_solo.proofs.ByPasses.{first_last, none_made}
use Rattle.vm_solo.proofs.making.workers_of.Goals as goal

pub loop-disk-init : goal.loop-disk-init
loop-disk-init g c =
    let m = c.args.run.now.state.machine in
    subst (λ (ws : List (Worker g.row.I.Denot)). AreNewWorkers m (first_worker m 0) ws) (sym c.new-workers.ensures.items) (none_made m)

pub returns : goal.returns
returns g c =
    let m = c.args.run.now.state.machine in
    let count = c.drive_count-disk-end.ensures in
    let test = c.loop-disk-test.false in
    let most = c.loop-disk.auto.disk-end in
    let last : c.loop-disk.disk ≡ drive_count m = omega (arith, count, test, most) in
    subst (λ (n : ℕ). AreNewWorkers m n c.loop-disk.workers.items) (ap (first_worker m) last ∙ first_last m) c.loop-disk.invariant
