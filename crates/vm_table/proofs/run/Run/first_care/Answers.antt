use Rattle.std.proofs.Common.{◌<◌, sym, ◌∙◌, arith}
use Rattle.vm_state.specs.Machine.{cpu_count}
use Rattle.vm_table.specs.Choosing.{care_of}
use Rattle.vm_table.specs.Table.{lawful}
use Rattle.vm_table.proofs.Firsts.{row_passed}
use Rattle.vm_table.proofs.run.Run.first_care.Goals as goal

pub loop-cpu-preserved : goal.loop-cpu-preserved
loop-cpu-preserved c =
    let s = c.args.self.now.state in
    let within : c.loop-cpu.cpu < cpu_count s.machine = omega (arith, c.loop-cpu-test.true, c.cpu_count-cpu-end.ensures) in
    row_passed (λ e. lawful s 0 e) (care_of c.args.care) c.loop-cpu.cpu (cpu_count s.machine) within
    (sym c.may_care.ensures ∙ c.if-may_care.false) c.loop-cpu.invariant
