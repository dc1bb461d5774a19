use Rattle.std.proofs.Common.{Some, None, refl, sym, ap, subst, ◌∙◌}
use Rattle.vm_state.specs.declared.start.Start.{Start}
use Rattle.vm_state.specs.Start.{IsSound, boot}
use Rattle.vm_control.specs.View.{ControlView}
use Rattle.vm_threads.specs.Chair.{IsChair}
use Rattle.vm_threads.proofs.Firsts.{first_chair}
use Rattle.vm_threads.proofs.seating.seat_all.Goals as goal

pub invariant_of-chair : goal.invariant_of-chair
invariant_of-chair g c =
    let pass = c.in_ok-turnstile.pass in
    subst (λ (x : ControlView). IsChair (record { control = x; pass = pass; fault = None })) (sym c.in_ok-control.ensures) (first_chair pass.turnstile pass.view _ c.in_ok-turnstile.ensures.first)

pub returns-clause-chair : goal.returns-clause-chair
returns-clause-chair g c = record {
  turnstile = c.in_ok-turnstile.ensures.own;
  control = c.in_ok-control.ensures;
  fault = refl;
  root = c.in_ok-turnstile.ensures.root ∙ ap (λ (s : Start). Some s) c.in_ok-board.ensures.start;
  first = c.in_ok-turnstile.ensures.first;
}

pub seat_board-requires : goal.seat_board-requires
seat_board-requires g c = record {
  sound = subst (λ (s : Start). IsSound s) (sym c.in_ok-board.ensures.start) c.requires.sound;
  boot = c.in_ok-board.ensures.state ∙ ap (λ (s : Start). boot s) (sym c.in_ok-board.ensures.start);
  journal = c.in_ok-board.ensures.journal;
}
