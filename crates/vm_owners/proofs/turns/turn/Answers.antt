use Rattle.std.proofs.Common.{◌≡◌, sym, ap, ◌∙◌, Some}
use Rattle.vm_meet.specs.Meeting.{awaits}
use Rattle.vm_state.specs.declared.run_state.RunState.TheInside.{Inside}
use Rattle.vm_state.specs.View.{RunView}
use Rattle.vm_owners.proofs.Turning.{room_for_sample, turn_cpu, turn_awaited}
use Rattle.vm_owners.proofs.turns.turn.Goals as goal

pub take_turn-requires-clause-cpu : goal.take_turn-requires-clause-cpu
take_turn-requires-clause-cpu c = turn_cpu c.args.run.now.state c.args.by c.args.i c.requires.may

pub take_turn-requires-clause-few : goal.take_turn-requires-clause-few
take_turn-requires-clause-few c =
    λ e. let meet : c.args.run.now.state.machine.meet ≡ Some c.in-Some.meeting =
    ap (λ (v : RunView). v.state.machine.meet) (sym c.run.view_is) ∙ ap (λ (r : Inside). r.machine.state.meet) (sym c.run-inside.view_is) ∙ sym c.in-Some.ensures.value
    in
    (room_for_sample c.args.run.now.state c.args.by c.args.i c.in-Some.meeting c.requires.sound c.requires.may meet e).few

pub take_turn-requires-clause-order : goal.take_turn-requires-clause-order
take_turn-requires-clause-order c =
    λ e. let meet : c.args.run.now.state.machine.meet ≡ Some c.in-Some.meeting =
    ap (λ (v : RunView). v.state.machine.meet) (sym c.run.view_is) ∙ ap (λ (r : Inside). r.machine.state.meet) (sym c.run-inside.view_is) ∙ sym c.in-Some.ensures.value
    in
    (room_for_sample c.args.run.now.state c.args.by c.args.i c.in-Some.meeting c.requires.sound c.requires.may meet e).order

pub finish_turn-requires : goal.finish_turn-requires
finish_turn-requires c =
    ap (λ (v : RunView). awaits v.state.machine.meet c.args.i) c.take_turn.ensures ∙ turn_awaited c.args.run.now.state c.args.by c.args.i c.in-Some.meeting.kind c.requires.may
