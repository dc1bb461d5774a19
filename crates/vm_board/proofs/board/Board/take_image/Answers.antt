use Rattle.std.proofs.Common.{◌≡◌, ◌<◌, ℕ, List, [], ◌∷◌, ◌++◌, length, Option, Some, None, IsSome, refl, sym, ap, subst, ◌∙◌}
use Rattle.std.specs.Prelude.{slice_index_or, slice_set}
use Rattle.std.proofs.lemmas.List.{get_or_default}
use Rattle.vm_law.specs.declared.journal.Entry.TheVariants.{Hold}
use Rattle.vm_law.specs.declared.journal.Signed.{Signed}
use Rattle.vm_state.specs.State.{State}
use Rattle.vm_state.specs.Machine.{drive_count}
use Rattle.vm_state.specs.State.{image_at}
use Rattle.vm_disks.specs.Images.{is_holder}
use Rattle.vm_board.specs.Calls.{MayAdd}
use Rattle.vm_board.specs.Homes.{IsAtHome}
use Rattle.vm_board.specs.View.{BoardView}
use Rattle.vm_board.proofs.Home.{hold_drive, hold_holder, hold_within}
use Rattle.vm_board.proofs.Keeping.{hold_there, longer_out, out}
use Rattle.vm_board.proofs.board.Board.take_image.Goals as goal

pub at_mut-requires : goal.at_mut-requires
at_mut-requires g c =
    let is : c.args.self.now.state ≡ c.self.inside.run.state = ap (λ b. b.state) (sym c.self.view_is) in
    let x : Signed = record { by = c.args.by; entry = Hold c.args.disk c.args.id } in
    let m : MayAdd c.self.inside.run.state x = subst (λ (s : State). MayAdd s x) is c.requires.may in
    hold_there g.I.Image.seen _ c.args.by c.args.disk c.args.id c.self.invariant c.is_sound.ensures m.lawful

-- the image that stood there, for each call's result
some_there : {I : Type 0} (images : List (Option I)) (d : ℕ) (image : I) (now : Option I) → d < length images → slice_index_or images d None ≡ Some image → now ≡ slice_index_or images d now → now ≡ Some image
some_there images d image now l e h = h ∙ get_or_default images d now None l ∙ e

is_some_of : {I : Type 0} (o : Option I) (x : I) → o ≡ Some x → IsSome o
is_some_of o x e = subst (λ p. IsSome p) (sym e) refl

pub unwrap-image-requires : goal.unwrap-image-requires
unwrap-image-requires g c =
    let is : c.args.self.now.state ≡ c.self.inside.run.state = ap (λ b. b.state) (sym c.self.view_is) in
    let x : Signed = record { by = c.args.by; entry = Hold c.args.disk c.args.id } in
    let m : MayAdd c.self.inside.run.state x = subst (λ (s : State). MayAdd s x) is c.requires.may in
    let l = hold_there g.I.Image.seen _ c.args.by c.args.disk c.args.id c.self.invariant c.is_sound.ensures m.lawful in
    let o = out g.I.Image.seen _ c.args.by c.args.disk c.args.id c.self.invariant c.is_sound.ensures m.lawful in
    is_some_of c.take.result o.image (c.take.ensures.value ∙ some_there c.self.inside.images c.args.disk o.image c.at_mut.result.now l o.there c.at_mut.ensures.value)

pub held_sector-requires-clause-there : goal.held_sector-requires-clause-there
held_sector-requires-clause-there g c =
    let is : c.args.self.now.state ≡ c.self.inside.run.state = ap (λ b. b.state) (sym c.self.view_is) in
    let x : Signed = record { by = c.args.by; entry = Hold c.args.disk c.args.id } in
    let m : MayAdd c.self.inside.run.state x = subst (λ (s : State). MayAdd s x) is c.requires.may in
    subst (λ (s : State). c.args.disk < drive_count s.machine) (sym c.apply.ensures.step) (hold_drive c.self.inside.run.state c.args.by c.args.disk c.args.id m.lawful)

pub held_sector-requires-clause-held : goal.held_sector-requires-clause-held
held_sector-requires-clause-held g c =
    let is : c.args.self.now.state ≡ c.self.inside.run.state = ap (λ b. b.state) (sym c.self.view_is) in
    let x : Signed = record { by = c.args.by; entry = Hold c.args.disk c.args.id } in
    let m : MayAdd c.self.inside.run.state x = subst (λ (s : State). MayAdd s x) is c.requires.may in
    ap (λ (s : State). is_holder c.args.by c.args.id (image_at s c.args.disk).holder) c.apply.ensures.step
    ∙ hold_holder c.self.inside.run.state c.args.by c.args.disk c.args.id (hold_within c.self.inside.run.state c.args.by c.args.disk c.args.id c.is_sound.ensures m.lawful)

pub invariant_of-self : goal.invariant_of-self
invariant_of-self g c =
    let is : c.args.self.now.state ≡ c.self.inside.run.state = ap (λ b. b.state) (sym c.self.view_is) in
    let x : Signed = record { by = c.args.by; entry = Hold c.args.disk c.args.id } in
    let m : MayAdd c.self.inside.run.state x = subst (λ (s : State). MayAdd s x) is c.requires.may in
    longer_out g.I.Image.seen _ _ c.args.by c.args.disk c.args.id c.self.invariant c.is_sound.ensures m refl c.apply.ensures.step c.push_reserved.ensures.items
    (ap (λ (o : Option g.row.I.Denot). slice_set c.self.inside.images c.args.disk o) c.take.ensures.after)

pub returns-clause-image : goal.returns-clause-image
returns-clause-image g c =
    let is : c.args.self.now.state ≡ c.self.inside.run.state = ap (λ b. b.state) (sym c.self.view_is) in
    let x : Signed = record { by = c.args.by; entry = Hold c.args.disk c.args.id } in
    let m : MayAdd c.self.inside.run.state x = subst (λ (s : State). MayAdd s x) is c.requires.may in
    let l = hold_there g.I.Image.seen _ c.args.by c.args.disk c.args.id c.self.invariant c.is_sound.ensures m.lawful in
    let o = out g.I.Image.seen _ c.args.by c.args.disk c.args.id c.self.invariant c.is_sound.ensures m.lawful in
    let there : slice_index_or c.args.self.now.images c.args.disk None ≡ Some o.image = ap (λ (b : BoardView g.row.I.Denot). slice_index_or b.images c.args.disk None) (sym c.self.view_is) ∙ o.there in
    let got : c.take.result ≡ Some o.image = c.take.ensures.value ∙ some_there c.self.inside.images c.args.disk o.image c.at_mut.result.now l o.there c.at_mut.ensures.value in
    there ∙ sym got ∙ c.unwrap-image.ensures

pub returns-clause-home : goal.returns-clause-home
returns-clause-home g c =
    let is : c.args.self.now.state ≡ c.self.inside.run.state = ap (λ b. b.state) (sym c.self.view_is) in
    let x : Signed = record { by = c.args.by; entry = Hold c.args.disk c.args.id } in
    let m : MayAdd c.self.inside.run.state x = subst (λ (s : State). MayAdd s x) is c.requires.may in
    let l = hold_there g.I.Image.seen _ c.args.by c.args.disk c.args.id c.self.invariant c.is_sound.ensures m.lawful in
    let o = out g.I.Image.seen _ c.args.by c.args.disk c.args.id c.self.invariant c.is_sound.ensures m.lawful in
    let got : c.take.result ≡ Some o.image = c.take.ensures.value ∙ some_there c.self.inside.images c.args.disk o.image c.at_mut.result.now l o.there c.at_mut.ensures.value in
    let e : Some o.image ≡ Some c.unwrap-image.result = sym got ∙ c.unwrap-image.ensures in
    let same : o.image ≡ c.unwrap-image.result = cc in
    subst (λ (j : List Signed). IsAtHome c.self.inside.start j c.args.disk (g.I.Image.seen c.unwrap-image.result)) (sym c.push_reserved.ensures.items)
    (subst (λ (i : g.row.I.Denot). IsAtHome c.self.inside.start (c.self.inside.journal.items ++ x ∷ []) c.args.disk (g.I.Image.seen i)) same o.home)
