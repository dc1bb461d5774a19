use Rattle.std.proofs.Common.{◌≡◌, ◌∙◌, true, sym}
use Rattle.std.proofs.lemmas.Grind.{common_steps}
use Rattle.std.proofs.Common.{arith}
use Rattle.vm_running.specs.Step.{has_step}
use Rattle.vm_running.proofs.Spends.{step_cpu, step_spends}
use Rattle.vm_running.proofs.stepping.step_where_allowed.Goals as goal

pub step_next-requires-clause-cpu : goal.step_next-requires-clause-cpu
step_next-requires-clause-cpu c =
    let has : has_step c.args.run.now.state c.args.by c.args.i ≡ true = sym c.has_step.ensures ∙ grind (arith, common_steps) in
    step_cpu c.args.run.now.state c.args.by c.args.i has

pub step_next-requires-clause-spends : goal.step_next-requires-clause-spends
step_next-requires-clause-spends c =
    let has : has_step c.args.run.now.state c.args.by c.args.i ≡ true = sym c.has_step.ensures ∙ grind (arith, common_steps) in
    step_spends c.args.run.now.state c.args.by c.args.i c.requires.sound has
