use Rattle.std.proofs.Common.{sym, subst, ◌∙◌, List, ℕ}
use Rattle.vm_state.specs.Machine.{cpu_count}
use Rattle.vm_solo.specs.New.{AreNewRunners}
use Rattle.vm_solo.proofs.making.actors_of.Goals as goal

pub returns : goal.returns
returns g c = record {
  runners = subst (λ (xs : List ℕ). AreNewRunners (cpu_count c.args.run.now.state.machine) xs c.in_ok-runners.runners.items) (c.as_slice.ensures.value ∙ c.in_ok-code.ensures.bytes) c.in_ok-runners.ensures;
  workers = c.in_ok-workers.ensures;
}
