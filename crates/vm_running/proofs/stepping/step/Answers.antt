use Rattle.vm_running.proofs.Spends.{step_cpu, step_spends, may_has}
use Rattle.vm_running.proofs.stepping.step.Goals as goal

pub step_next-requires-clause-cpu : goal.step_next-requires-clause-cpu
step_next-requires-clause-cpu c = step_cpu c.args.run.now.state c.args.by c.args.i (may_has c.args.run.now.state c.args.by c.args.i c.requires.may)

pub step_next-requires-clause-spends : goal.step_next-requires-clause-spends
step_next-requires-clause-spends c =
    step_spends c.args.run.now.state c.args.by c.args.i c.requires.sound (may_has c.args.run.now.state c.args.by c.args.i c.requires.may)
