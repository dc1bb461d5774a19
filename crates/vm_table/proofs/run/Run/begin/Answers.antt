use Rattle.vm_state.proofs.Sound.{boot_is_sound}
use Rattle.vm_table.proofs.run.Run.begin.Goals as goal

pub invariant_of-result : goal.invariant_of-result
invariant_of-result c = rw c.in_ok-run.ensures.state (boot_is_sound c.args.start.now c.requires)
