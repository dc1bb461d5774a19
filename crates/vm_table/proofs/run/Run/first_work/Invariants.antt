use Rattle.std.proofs.Common.{◌≡◌, drop}
use Rattle.std.specs.List.{find}
use Rattle.vm_state.specs.Machine.{drive_at}
use Rattle.vm_state.specs.Requests.{is_busy_by}
use Rattle.vm_table.specs.Choosing.{work_on}
use Rattle.vm_table.specs.Table.{lawful}
use Rattle.vm_table.proofs.Firsts.{on_each}
use Rattle.vm_table.proofs.run.Run.first_work.Given as goal

-- no work on a request before is lawful
abbrev pub invariant-loop-k : goal.invariant-loop-k
invariant-loop-k l =
    find (λ e. lawful l.self.state l.by e) (on_each (work_on l.work l.disk) (is_busy_by l.by) (drive_at l.self.state.machine l.disk).queue.requests)
    ≡ find (λ e. lawful l.self.state l.by e) (on_each (work_on l.work l.disk) (is_busy_by l.by) (drop l.k (drive_at l.self.state.machine l.disk).queue.requests))
