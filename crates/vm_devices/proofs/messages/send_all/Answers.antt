use Rattle.std.proofs.Common.{◌≤◌, ℕ, ◌∙◌, sym, ap, subst}
use Rattle.vm_state.specs.Machine.{MachineState}
use Rattle.vm_devices.proofs.Same.{count_sent, all_more}
use Rattle.vm_devices.proofs.messages.send_all.Goals as goal

pub loop-message-preserved : goal.loop-message-preserved
loop-message-preserved c =
    let before = c.loop-message.machine in
    record {
      cpus = rw c.send.ensures (subst (λ (n : ℕ). n ≤ 16) (sym (count_sent before.state _)) c.loop-message.invariant.cpus);
      rest =
          rw c.send.ensures
          (ap (λ (m : MachineState). record { state = m; spare = before.spare }) (sym (all_more before.state c.args.messages.now c.loop-message.message-index _ c.loop-message-test.true))
          ∙ c.loop-message.invariant.rest);
    }
