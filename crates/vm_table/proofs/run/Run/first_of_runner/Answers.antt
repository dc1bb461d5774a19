use Rattle.std.proofs.Common.{◌≡◌, true, sym, subst, ◌∙◌}
use Rattle.vm_state.specs.declared.cpu.Cpu.{Cpu}
use Rattle.vm_state.specs.Machine.{is_running}
use Rattle.vm_table.proofs.Stages.{running_last}
use Rattle.vm_table.proofs.run.Run.first_of_runner.Goals as goal

pub returns-then-is_running : goal.returns-then-is_running
returns-then-is_running c =
    let runs = subst (λ (x : Cpu). is_running x.stage c.args.by ≡ true) c.cpu.ensures (sym c.is_running.ensures ∙ c.if-is_running.true) in
    c.last_of_runner.ensures ∙ sym (running_last c.args.self.now.state c.args.by c.args.cpu runs)
