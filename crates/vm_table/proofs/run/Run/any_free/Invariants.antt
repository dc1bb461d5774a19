use Rattle.std.proofs.Common.{◌≡◌, ℕ, ◌<◌, false}
use Rattle.vm_state.specs.Machine.{cpu_at}
use Rattle.vm_table.specs.Choosing.{is_free}
use Rattle.vm_table.proofs.run.Run.any_free.Given as goal

-- none of the vCPUs before is free
abbrev pub invariant-loop-cpu : goal.invariant-loop-cpu
invariant-loop-cpu l = (i : ℕ) → i < l.cpu → is_free (cpu_at l.self.state.machine i).stage ≡ false
