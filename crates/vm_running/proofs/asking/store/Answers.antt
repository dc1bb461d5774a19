use Rattle.std.proofs.Common.{sym, ap, subst}
use Rattle.vm_state.specs.State.{State}
use Rattle.vm_state.specs.View.{RunView}
use Rattle.vm_devices.proofs.Counts.{Leaves, window_leaves}
use Rattle.vm_running.proofs.Spends.{spends_on, cpu_on}
use Rattle.vm_running.proofs.asking.store.Goals as goal

pub step_to-requires-clause-cpu : goal.step_to-requires-clause-cpu
step_to-requires-clause-cpu c =
    let same = ap (λ (v : RunView). v.state) c.write_window.ensures in
    cpu_on c.args.run.now.state c.write_window.new.run.state c.args.i
    (subst (λ (t : State). Leaves c.args.run.now.state t) (sym same) (window_leaves c.args.run.now.state c.args.by c.args.i c.args.area c.args.value)) c.requires.cpu

pub step_to-requires-clause-spends : goal.step_to-requires-clause-spends
step_to-requires-clause-spends c =
    let same = ap (λ (v : RunView). v.state) c.write_window.ensures in
    spends_on c.args.run.now.state c.write_window.new.run.state c.args.i
    (subst (λ (t : State). Leaves c.args.run.now.state t) (sym same) (window_leaves c.args.run.now.state c.args.by c.args.i c.args.area c.args.value)) c.requires.spends
