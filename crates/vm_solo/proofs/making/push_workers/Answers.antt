use Rattle.std.specs.Prelude.{Option, None}
use Rattle.std.proofs.Common.{◌≡◌, ℕ, ◌+◌, ◌<◌, List, sym, ap, subst, ◌∙◌, arith}
use Rattle.vm_state.specs.declared.drive.Drive.{Drive}
use Rattle.vm_state.specs.Machine.{drive_at}
use Rattle.vm_state.specs.Requests.{first_worker}
use Rattle.vm_blkwork.specs.declared.worker.Worker.{Worker}
use Rattle.vm_solo.specs.New.{AreNewWorkers}
use Rattle.vm_solo.proofs.ByPasses.{first_next, first_small, one_made}
use Rattle.vm_solo.proofs.making.push_workers.Goals as goal

pub overflow_cast-first : goal.overflow_cast-first
overflow_cast-first g c =
    let small = first_small c.args.run.now.state.machine c.args.disk c.is_sound.ensures.machine in
    let count = c.requires.before.count in
    let len = c.len.ensures in
    omega (arith, small, count, len)

pub overflow_add-first-2 : goal.overflow_add-first-2
overflow_add-first-2 g c =
    let small = first_small c.args.run.now.state.machine c.args.disk c.is_sound.ensures.machine in
    let count = c.requires.before.count in
    let len = c.len.ensures in
    let cpus = c.cpu_count.ensures in
    let from = c.from.ensures in
    omega (arith, small, count, len, cpus, from)

pub overflow_add-first-in-loop-k : goal.overflow_add-first-in-loop-k
overflow_add-first-in-loop-k g c =
    let m = c.args.run.now.state.machine in
    let small = first_small m (c.args.disk + 1) c.is_sound.ensures.machine in
    let next = first_next m c.args.disk c.requires.there in
    let same = ap (λ (x : Drive). x.workers) c.drive.ensures in
    let count = c.requires.before.count in
    let len = c.len.ensures in
    let cpus = c.cpu_count.ensures in
    let from = c.from.ensures in
    let k = c.from-in-loop-k.ensures in
    let less = c.loop-k-test.true in
    omega (arith, small, next, same, count, len, cpus, from, k, less)

pub loop-k-preserved : goal.loop-k-preserved
loop-k-preserved g c =
    let m = c.args.run.now.state.machine in
    let d = c.args.disk in
    let k = c.loop-k.k in
    let same = ap (λ (x : Drive). x.workers) c.drive.ensures in
    let test = c.loop-k-test.true in
    let less : k < (drive_at m d).workers = omega (arith, same, test) in
    let count = c.requires.before.count in
    let len = c.len.ensures in
    let cpus = c.cpu_count.ensures in
    let from = c.from.ensures in
    let number = c.from-in-loop-k.ensures in
    let by : 1 + c.from.result + c.len.result + c.from-in-loop-k.result ≡ first_worker m d + k = omega (arith, count, len, cpus, from, number) in
    let is = c.new.ensures ∙ ap (λ (n : ℕ). let w : Worker g.row.I.Denot = record { disk = d; by = n; out = None } in w) by in
    subst (λ (ws : List (Worker g.row.I.Denot)). AreNewWorkers m (first_worker m d + (k + 1)) ws) (sym c.in_ok-push.ensures.items)
    (one_made m d k c.loop-k.workers.items c.new.result c.requires.there less is c.loop-k.invariant)

pub returns : goal.returns
returns g c =
    let m = c.args.run.now.state.machine in
    let d = c.args.disk in
    let next = first_next m d c.requires.there in
    let same = ap (λ (x : Drive). x.workers) c.drive.ensures in
    let test = c.loop-k-test.false in
    let most = c.loop-k.auto.k-end in
    let all : first_worker m d + c.loop-k.k ≡ first_worker m (d + 1) = omega (arith, next, same, test, most) in
    subst (λ (n : ℕ). AreNewWorkers m n c.loop-k.workers.items) all c.loop-k.invariant
