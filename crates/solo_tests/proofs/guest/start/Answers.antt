use Rattle.std.proofs.Common.{length, sym, ap, subst, ◌∙◌}
use Rattle.std.specs.List.{All}
use Rattle.vm_state.specs.Start.{IsPlanned}
use Rattle.solo_tests.proofs.Sound.{start_sound}
use Rattle.solo_tests.proofs.guest.start.Goals as goal

pub returns-clause-sound : goal.returns-clause-sound
returns-clause-sound c =
    let p = c.in_ok-plan.field-0 in
    start_sound p c.in_ok-flat.field-0 c.args.disk.now c.in_ok-disks.field-0 c.in_ok-script.field-0 c.in_ok-plan.ensures.cpus c.in_ok-plan.ensures.memory
    (ap length c.in_ok-plan.ensures.disks ∙ c.in_ok-disk_plans.ensures.count) (subst (All IsPlanned) (sym c.in_ok-plan.ensures.disks) c.in_ok-disk_plans.ensures.each)
    c.in_ok-disks.ensures c.requires c.in_ok-flat.ensures c.in_ok-script.ensures
