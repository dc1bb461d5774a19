use Rattle.std.proofs.Common.{◌≡◌, ◌-◌, map}
use Rattle.std.specs.List.{find, range_with_len}
use Rattle.vm_state.specs.Machine.{cpu_count, cpu_numbers}
use Rattle.vm_table.specs.Choosing.{care_of}
use Rattle.vm_table.specs.Table.{lawful}
use Rattle.vm_table.proofs.run.Run.first_care.Given as goal

-- none of the vCPUs before is to be cared for
abbrev pub invariant-loop-cpu : goal.invariant-loop-cpu
invariant-loop-cpu l =
    find (λ e. lawful l.self.state 0 e) (map (care_of l.care) (cpu_numbers l.self.state.machine))
    ≡ find (λ e. lawful l.self.state 0 e) (map (care_of l.care) (range_with_len l.cpu (cpu_count l.self.state.machine - l.cpu)))
