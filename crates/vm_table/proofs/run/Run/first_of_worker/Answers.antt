use Rattle.std.proofs.Common.{◌<◌, sym, ◌∙◌, arith}
use Rattle.vm_state.specs.Machine.{drive_count}
use Rattle.vm_table.specs.Table.{lawful}
use Rattle.vm_table.specs.Turns.{where_worker, worker_list}
use Rattle.vm_table.proofs.Firsts.{pieces_found, pieces_passed}
use Rattle.vm_table.proofs.run.Run.first_of_worker.Goals as goal

pub returns-in-Some : goal.returns-in-Some
unfolding worker_list
returns-in-Some c =
    let s = c.args.self.now.state in
    let within : c.loop-disk.disk < drive_count s.machine = omega (arith, c.loop-disk-test.true, c.drive_count-disk-end.ensures) in
    pieces_found (λ e. lawful s c.args.by e) (where_worker s c.args.by) c.loop-disk.disk (drive_count s.machine) c.in-Some.entry within (sym c.first_where_worker.ensures ∙ c.in-Some.is) c.loop-disk.invariant

pub loop-disk-preserved : goal.loop-disk-preserved
loop-disk-preserved c =
    let s = c.args.self.now.state in
    let within : c.loop-disk.disk < drive_count s.machine = omega (arith, c.loop-disk-test.true, c.drive_count-disk-end.ensures) in
    pieces_passed (λ e. lawful s c.args.by e) (where_worker s c.args.by) c.loop-disk.disk (drive_count s.machine) within (sym c.first_where_worker.ensures ∙ c.in_default.is) c.loop-disk.invariant
