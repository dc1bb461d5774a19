use Rattle.std.proofs.Common.{ap}
use Rattle.vm_state.specs.Machine.{cpu_at}
use Rattle.vm_state.specs.View.{RunView}
use Rattle.vm_running.specs.Step.{after_step, next_at}
use Rattle.vm_running.proofs.InPlace.{next_in_place}
use Rattle.vm_running.proofs.stepping.step_in_place.Goals as goal

pub returns-in-Ok-clause-ran : goal.returns-in-Ok-clause-ran
unfolding after_step
returns-in-Ok-clause-ran c = λ _ by.
    let s = c.args.run.now.state in
    let moved = c.run_in_place.new.run.state in
    next_in_place s moved c.count_stored.new.run.state c.go_on.new.run.state by c.args.i (next_at s c.args.i) (cpu_at moved.machine c.args.i).ctx moved.machine.ram c.in-Ok.stored
    c.requires.cpu c.in-Ok.ensures.done c.run_in_place.ensures.size.code c.run_in_place.ensures.state (ap (λ (v : RunView). v.state) c.count_stored.ensures) (ap (λ (v : RunView). v.state) c.go_on.ensures)
