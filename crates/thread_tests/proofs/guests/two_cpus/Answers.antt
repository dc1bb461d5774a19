use Rattle.std.proofs.Common.{◌≡◌, inl, length, sym, ap, ◌∙◌, arith}
use Rattle.vm_law.specs.Image.{IsAllowed}
use Rattle.vm_law.specs.declared.image.FlatImage.{FlatImage}
use Rattle.vm_state.specs.Start.{IsDisk, IsPlanned}
use Rattle.thread_tests.proofs.Sound.{none, plan_sound, start_sound}
use Rattle.thread_tests.proofs.guests.two_cpus.Goals as goal

pub returns-clause-sound : goal.returns-clause-sound
returns-clause-sound c =
    let p = c.in_ok-plan.plan in
    let cpus = c.in_ok-plan.ensures.cpus in
    let memory = c.in_ok-plan.ensures.memory in
    let plans = c.in_ok-plan.ensures.disks ∙ c.new.ensures in
    let planned : length p.disks ≡ 0 = ap length plans in
    let disks = c.new-2.ensures in
    let inside = c.requires.inside in
    let size : length c.in_ok-payload.payload ≡ length c.args.code.now = ap length c.in_ok-payload.ensures in
    let f : FlatImage = record { entry = c.args.entry; code = length c.args.code.now; payload = c.in_ok-payload.payload } in
    let allowed : IsAllowed 1048576 f = record { some_code = omega (arith, inside); small_code = omega (arith, inside); within = omega (arith, size); entry = inside.0; fits = omega (arith, size, inside) } in
    start_sound p f c.new-2.result c.args.order c.in_ok-script.script 20000000 1048576
    (plan_sound p (omega (arith, cpus)) (omega (arith, cpus)) (inl memory) (omega (arith, planned)) (none IsPlanned p.disks plans)) memory
    (ap length disks ∙ sym planned) (none IsDisk c.new-2.result disks) allowed c.requires.waits c.in_ok-script.ensures (omega arith) (omega arith)
