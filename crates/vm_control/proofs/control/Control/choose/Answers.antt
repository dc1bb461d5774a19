use Rattle.std.proofs.Common.{◌≡◌, refl, ap, ◌∙◌}
use Rattle.vm_state.specs.State.{State}
use Rattle.vm_control.proofs.Duties.{chosen_console, chosen_duty, duty_console, duty_stays}
use Rattle.vm_control.proofs.control.Control.choose.Goals as goal

pub returns-then-may-clause-console : goal.returns-then-may-clause-console
returns-then-may-clause-console g c = ap (λ (s : State). s.console) c.add.ensures.added.state ∙ duty_console c.args.board.now.state _ refl

pub add_first-requires-clause-home : goal.add_first-requires-clause-home
add_first-requires-clause-home g c e is = duty_stays e (chosen_duty c.args.board.now.state e is).1

pub returns-clause-console : goal.returns-clause-console
returns-clause-console g c = ap (λ (s : State). s.console) c.add_first.ensures.goes_on.state ∙ chosen_console c.args.board.now.state
