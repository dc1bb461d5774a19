use Rattle.std.proofs.Common.{◌≡◌, ◌∷◌}
use Rattle.std.specs.Prelude.{map}
use Rattle.std.specs.List.{range_with_len}
use Rattle.vm_state.specs.Machine.{unstarted_cpu}
use Rattle.vm_state.specs.Start.{first_cpu}
use Rattle.vm_state.proofs.booting.boot_cpus.Given as goal

abbrev pub invariant-loop-k : goal.invariant-loop-k
invariant-loop-k l = l.cpus.items ≡ first_cpu l.entry ∷ map unstarted_cpu (range_with_len 1 l.k)
