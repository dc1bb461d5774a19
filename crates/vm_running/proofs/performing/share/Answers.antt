use Rattle.std.proofs.Common.{◌∙◌, sym, ap, subst}
use Rattle.vm_law.specs.Memory.{KeepsSize}
use Rattle.vm_law.specs.declared.context.Ctx.{Ctx}
use Rattle.x86_exec.specs.declared.effect.Effect.{Effect}
use Rattle.x86_exec.specs.Kept.{Leaves}
use Rattle.x86_exec.specs.Shared as exec
use Rattle.vm_state.specs.State.{State}
use Rattle.vm_state.specs.Sound.{IsSoundState}
use Rattle.vm_devices.proofs.KeptMemory.{keeps_run_memory}
use Rattle.vm_running.specs.Step.{performed_as}
use Rattle.vm_running.proofs.Sharing.{shared_there}
use Rattle.vm_running.proofs.performing.share.Goals as goal

pub follow-requires-clause-sound : goal.follow-requires-clause-sound
follow-requires-clause-sound c =
    let s = c.args.run.now.state in
    let done = c.perform_on-done.ensures in
    let x = exec.shared c.ctx_of-ctx.result c.args.insn.now c.args.len s.machine.ram in
    let same : KeepsSize s.machine.ram x.memory = subst (λ (t : State). KeepsSize s.machine.ram t.machine.ram) done.state done.size in
    subst (λ (t : State). IsSoundState t) (sym done.state) (keeps_run_memory s x.memory c.requires.sound same)

pub returns-clause-state : goal.returns-clause-state
returns-clause-state c =
    let s = c.args.run.now.state in
    let done = c.perform_on-done in
    let before = c.ctx_of-ctx.result in
    let x = exec.shared before c.args.insn.now c.args.len s.machine.ram in
    let same : KeepsSize s.machine.ram x.memory = subst (λ (t : State). KeepsSize s.machine.ram t.machine.ram) done.ensures.state done.ensures.size in
    let leaves : Leaves x.effect before x.ctx s.machine.ram x.memory =
    subst (λ (e : Effect). Leaves e before x.ctx s.machine.ram x.memory) done.ensures.effect
    (subst (λ (d : Ctx). Leaves done.result.effect before d s.machine.ram x.memory) done.ensures.ctx
    (subst (λ (t : State). Leaves done.result.effect before done.new.ctx s.machine.ram t.machine.ram) done.ensures.state done.ensures.leaves)) in
    c.follow.ensures.state
    ∙ shared_there s done.new.run.state c.args.by c.args.i c.args.insn.now c.args.len x done.result.effect done.new.ctx before done.result.stored
    done.ensures.state done.ensures.effect done.ensures.ctx done.ensures.stored same.code leaves
    ∙ ap (λ (d : Ctx). performed_as s c.args.by c.args.i c.args.insn.now c.args.len (exec.shared d c.args.insn.now c.args.len s.machine.ram) (exec.shared d c.args.insn.now c.args.len s.machine.ram).effect) c.ctx_of-ctx.ensures
