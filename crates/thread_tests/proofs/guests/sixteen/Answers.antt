use Rattle.std.proofs.Common.{◌≡◌, length, inl, inr, refl, sym, ap, ◌∙◌, arith}
use Rattle.vm_law.specs.declared.script.Order.TheVariants.{WaitQuiet}
use Rattle.vm_state.specs.Start.{IsDisk, IsPlanned}
use Rattle.thread_tests.proofs.Sound.{none, plan_sound, start_sound}
use Rattle.thread_tests.proofs.guests.sixteen.Goals as goal

pub returns-clause-sound : goal.returns-clause-sound
returns-clause-sound c =
    let p = c.in_ok-plan.plan in
    let cpus = c.in_ok-plan.ensures.cpus in
    let memory = c.in_ok-plan.ensures.memory in
    let plans = c.in_ok-plan.ensures.disks ∙ c.new.ensures in
    let planned : length p.disks ≡ 0 = ap length plans in
    let disks = c.new-2.ensures in
    start_sound p c.in_ok-image.image c.new-2.result WaitQuiet c.in_ok-script.script 20000000 16777216
    (plan_sound p (omega (arith, cpus)) (omega (arith, cpus)) (inr memory) (omega (arith, planned)) (none IsPlanned p.disks plans)) memory
    (ap length disks ∙ sym planned) (none IsDisk c.new-2.result disks) c.in_ok-image.ensures.allowed (inl refl) c.in_ok-script.ensures (omega arith) (omega arith)
