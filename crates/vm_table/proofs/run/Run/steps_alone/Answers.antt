use Rattle.std.proofs.Common.{◌≡◌, ◌+◌, ◌-◌, ◌<◌, true, false, sym, subst, ◌∙◌, arith}
use Rattle.std.proofs.lemmas.Bool.Decides.{nat_tests}
use Rattle.vm_state.specs.declared.cpu.Cpu.{Cpu}
use Rattle.vm_state.specs.Machine.{cpu_at, cpu_count, is_running}
use Rattle.vm_table.specs.Turns.{is_exit_due}
use Rattle.vm_table.proofs.Stages.{pass_steps_alone}
use Rattle.vm_table.proofs.run.Run.steps_alone.Goals as goal

pub returns-then-not-exit_due : goal.returns-then-not-exit_due
returns-then-not-exit_due c =
    let s = c.args.self.now.state in
    let p = c.args.by in
    let one : p ≡ 1 + (p - 1) = grind (arith, nat_tests, c.if-by-eq0.false) in
    let there : p - 1 < cpu_count s.machine = grind (arith, nat_tests, c.if-by-eq0.false, c.if-by-from.false, c.cpu_count.ensures, c.from.ensures) in
    let runs : is_running (cpu_at s.machine (p - 1)).stage p ≡ true = subst (λ (x : Cpu). is_running x.stage p ≡ true) c.cpu.ensures (sym c.is_running.ensures ∙ c.if-is_running.true) in
    let due : is_exit_due s (p - 1) ≡ false = sym c.exit_due.ensures ∙ c.if-not-exit_due.true in
    pass_steps_alone s p (p - 1) one there runs due
