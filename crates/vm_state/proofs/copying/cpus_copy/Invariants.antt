use Rattle.std.proofs.Common.{◌≡◌, take}
use Rattle.vm_state.proofs.copying.cpus_copy.Given as goal

abbrev pub invariant-loop-cpu : goal.invariant-loop-cpu
invariant-loop-cpu l = l.copies.items ≡ take l.cpu-index l.cpus
