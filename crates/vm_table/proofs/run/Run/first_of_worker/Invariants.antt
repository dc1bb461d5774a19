use Rattle.std.proofs.Common.{◌≡◌, ◌-◌}
use Rattle.std.specs.List.{find, flat_map, range_with_len}
use Rattle.vm_state.specs.Machine.{drive_count}
use Rattle.vm_table.specs.Table.{lawful}
use Rattle.vm_table.specs.Turns.{where_worker}
use Rattle.vm_table.proofs.run.Run.first_of_worker.Given as goal

-- the pass has nothing to do at the devices before
abbrev pub invariant-loop-disk : goal.invariant-loop-disk
invariant-loop-disk l =
    find (λ e. lawful l.self.state l.by e) (flat_map (where_worker l.self.state l.by) (range_with_len 0 (drive_count l.self.state.machine)))
    ≡ find (λ e. lawful l.self.state l.by e) (flat_map (where_worker l.self.state l.by) (range_with_len l.disk (drive_count l.self.state.machine - l.disk)))
