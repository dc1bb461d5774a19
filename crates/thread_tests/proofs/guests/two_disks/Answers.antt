use Rattle.std.proofs.Common.{◌≡◌, length, inl, refl, sym, ap, subst, ◌∙◌, arith}
use Rattle.std.specs.List.{All}
use Rattle.vm_law.specs.Image.{IsAllowed}
use Rattle.vm_law.specs.declared.image.FlatImage.{FlatImage}
use Rattle.vm_law.specs.declared.script.Order.TheVariants.{WaitQuiet}
use Rattle.vm_state.specs.Start.{IsPlanned}
use Rattle.thread_tests.proofs.Sound.{plan_sound, start_sound, two}
use Rattle.thread_tests.proofs.guests.two_disks.Goals as goal

pub returns-clause-sound : goal.returns-clause-sound
returns-clause-sound c =
    let p = c.in_ok-plan.plan in
    let cpus = c.in_ok-plan.ensures.cpus in
    let memory = c.in_ok-plan.ensures.memory in
    let same = c.in_ok-plan.ensures.disks in
    let planned : length p.disks ≡ 2 = ap length same ∙ c.in_ok-disk_plans.ensures.count in
    let size = c.in_ok-payload.ensures in
    let f : FlatImage = record { entry = 0; code = 179; payload = c.in_ok-payload.payload } in
    let allowed : IsAllowed 1048576 f = record { some_code = omega arith; small_code = omega arith; within = omega (arith, size); entry = omega arith; fits = omega (arith, size) } in
    start_sound p f c.in_ok-disks.disks WaitQuiet c.in_ok-script.script 1000000 1048576
    (plan_sound p (omega (arith, cpus)) (omega (arith, cpus)) (inl memory) (omega (arith, planned)) (subst (All IsPlanned) (sym same) c.in_ok-disk_plans.ensures.each)) memory
    (ap length c.in_ok-disks.ensures ∙ sym planned) (two c.args.disk.now c.in_ok-disks.disks c.in_ok-disks.ensures c.requires) allowed (inl refl) c.in_ok-script.ensures (omega arith) (omega arith)
