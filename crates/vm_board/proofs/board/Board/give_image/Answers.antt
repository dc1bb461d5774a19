use Rattle.std.proofs.Common.{◌≡◌, [], ◌∷◌, ◌++◌, refl, sym, ap, subst}
use Rattle.vm_law.specs.declared.journal.Entry.TheVariants.{Put}
use Rattle.vm_law.specs.declared.journal.Signed.{Signed}
use Rattle.vm_state.specs.State.{State}
use Rattle.vm_board.specs.Calls.{MayAdd}
use Rattle.vm_board.specs.Homes.{IsAtHome}
use Rattle.vm_board.specs.View.{BoardView}
use Rattle.vm_board.proofs.Keeping.{longer_back, put_there}
use Rattle.vm_board.proofs.board.Board.give_image.Goals as goal

pub set-requires : goal.set-requires
set-requires g c =
    let is : c.args.self.now.state ≡ c.self.inside.run.state = ap (λ b. b.state) (sym c.self.view_is) in
    let x : Signed = record { by = c.args.by; entry = Put c.args.disk c.args.id c.args.ok } in
    let m : MayAdd c.self.inside.run.state x = subst (λ (s : State). MayAdd s x) is c.requires.may in
    put_there g.I.Image.seen _ c.args.by c.args.disk c.args.id c.args.ok c.self.invariant c.is_sound.ensures m.lawful

pub invariant_of-self : goal.invariant_of-self
invariant_of-self g c =
    let is : c.args.self.now.state ≡ c.self.inside.run.state = ap (λ b. b.state) (sym c.self.view_is) in
    let x : Signed = record { by = c.args.by; entry = Put c.args.disk c.args.id c.args.ok } in
    let home = subst (λ (b : BoardView g.row.I.Denot). IsAtHome b.start (b.journal ++ x ∷ []) c.args.disk (g.I.Image.seen c.args.image)) (sym c.self.view_is) c.requires.home in
    longer_back g.I.Image.seen _ _ c.args.by c.args.disk c.args.id c.args.ok c.args.image c.self.invariant c.is_sound.ensures (subst (λ (s : State). MayAdd s x) is c.requires.may) home refl c.apply.ensures.step c.push_reserved.ensures.items c.set.ensures
