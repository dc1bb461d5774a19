use Rattle.std.proofs.Common.{◌≡◌, refl, sym, ap, subst}
use Rattle.vm_law.specs.declared.journal.Signed.{Signed}
use Rattle.vm_state.specs.State.{State}
use Rattle.vm_board.specs.Calls.{MayAdd}
use Rattle.vm_board.proofs.Keeping.{longer_at_home}
use Rattle.vm_board.proofs.board.Board.add.Goals as goal

pub invariant_of-self : goal.invariant_of-self
invariant_of-self g c =
    let is : c.args.self.now.state ≡ c.self.inside.run.state = ap (λ b. b.state) (sym c.self.view_is) in
    let x : Signed = record { by = c.args.by; entry = c.args.entry } in
    longer_at_home g.I.Image.seen _ _ x c.self.invariant (subst (λ (s : State). MayAdd s x) is c.requires.may) c.requires.kind refl c.apply.ensures.step c.push_reserved.ensures.items refl
