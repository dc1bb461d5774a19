use Rattle.std.proofs.Common.{◌≡◌, Some, refl, sym, ap, subst, ◌∙◌, inl}
use Rattle.vm_law.specs.declared.journal.Signed.{Signed}
use Rattle.vm_state.specs.State.{State}
use Rattle.vm_table.specs.Table.{lawful}
use Rattle.vm_table.specs.Turns.{first_lawful, list_of}
use Rattle.vm_table.proofs.Firsts.{find_passes}
use Rattle.vm_board.specs.Calls.{ChoosesAtHome, MayAdd}
use Rattle.vm_board.proofs.Keeping.{longer_at_home}
use Rattle.vm_board.proofs.board.Board.add_first.Goals as goal

pub invariant_of-self : goal.invariant_of-self
invariant_of-self g c =
    let s = c.self.inside.run.state in
    let p = c.args.by in
    let e = c.in-Some.entry in
    let x : Signed = record { by = p; entry = e } in
    let is : c.args.self.now.state ≡ s = ap (λ b. b.state) (sym c.self.view_is) in
    let first : first_lawful s p ≡ Some e = sym c.advance_first.ensures.chosen ∙ c.in-Some.is in
    let may : MayAdd s x = record { lawful = find_passes (λ y. lawful s p y) (list_of s p) e first; orderly = inl first } in
    longer_at_home g.I.Image.seen _ _ x c.self.invariant may ((subst (λ (t : State). ChoosesAtHome t p) is c.requires.home) e first) refl c.in-Some.ensures.step c.push_reserved.ensures.items refl
