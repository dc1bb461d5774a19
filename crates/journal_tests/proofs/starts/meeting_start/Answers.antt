use Rattle.std.proofs.Common.{◌≡◌, ◌≤◌, length, [], sym, ap, ◌∙◌, arith}
use Rattle.std.proofs.lemmas.List.Elements.{All-nil}
use Rattle.vm_state.specs.Start.{IsDisk, IsPlanned}
use Rattle.journal_tests.proofs.Sound.{meeting_allowed, sound_flat}
use Rattle.journal_tests.proofs.starts.meeting_start.Goals as goal

pub returns : goal.returns
returns c =
    let p = c.in_ok-plan.field-0 in
    let some : 1 ≤ p.cpus = omega (arith, c.in_ok-plan.ensures.cpus) in
    let most : p.cpus ≤ 16 = omega (arith, c.in_ok-plan.ensures.cpus) in
    let none : p.disks ≡ [] = c.in_ok-plan.ensures.disks ∙ c.new.ensures in
    let zero : length p.disks ≡ 0 = ap length none in
    sound_flat p c.in_ok-flat.field-0 c.new-2.result c.in_ok-meeting_script.field-0 some most c.in_ok-plan.ensures.memory
    (omega (arith, zero)) (rw none (All-nil IsPlanned))
    (ap length c.new-2.ensures ∙ sym zero) (rw c.new-2.ensures (All-nil IsDisk)) c.in_ok-flat.ensures
    (meeting_allowed p c.in_ok-meeting_script.field-0 c.in_ok-meeting_script.ensures)
