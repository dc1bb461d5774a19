use Rattle.std.proofs.Common.{◌≡◌, ◌≤◌, length, sym, ap, subst, ◌∙◌, arith}
use Rattle.std.specs.List.{All}
use Rattle.vm_state.specs.Start.{IsPlanned}
use Rattle.journal_tests.proofs.Sound.{quiet_allowed, sound_flat}
use Rattle.journal_tests.proofs.starts.writing_start.Goals as goal

pub returns : goal.returns
returns c =
    let p = c.in_ok-plan.field-0 in
    let some : 1 ≤ p.cpus = omega (arith, c.in_ok-plan.ensures.cpus) in
    let most : p.cpus ≤ 16 = omega (arith, c.in_ok-plan.ensures.cpus) in
    let one : length p.disks ≡ 1 = ap length c.in_ok-plan.ensures.disks ∙ c.in_ok-disk_plans.ensures.count in
    sound_flat p c.in_ok-flat.field-0 c.in_ok-disks.field-0 c.in_ok-quiet_script.field-0 some most c.in_ok-plan.ensures.memory
    (omega (arith, one)) (subst (All IsPlanned) (sym c.in_ok-plan.ensures.disks) c.in_ok-disk_plans.ensures.each)
    (c.in_ok-disks.ensures.count ∙ sym one) c.in_ok-disks.ensures.each c.in_ok-flat.ensures
    (quiet_allowed p c.in_ok-quiet_script.field-0 c.in_ok-quiet_script.ensures)
