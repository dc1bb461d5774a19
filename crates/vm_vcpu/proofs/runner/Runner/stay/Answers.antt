use Rattle.std.proofs.Common.{◌≡◌, refl, sym, ap, subst, ◌∙◌}
use Rattle.vm_turn.specs.View.{given_view, taken_view, with_tries}
use Rattle.vm_turn.specs.declared.view.View.{View}
use Rattle.vm_state.specs.declared.start.Start.{Start}
use Rattle.vm_board.proofs.Going.{CanGive, can_give, choice_all, one_stay}
use Rattle.vm_vcpu.specs.Going.{RunnerStays, TurnsAndRuns, back_of, leaves}
use Rattle.vm_vcpu.specs.Turn.{turn_adds}
use Rattle.vm_vcpu.specs.View.{RunnerView}
use Rattle.vm_vcpu.proofs.Seating.{back_all, found_fits, runs}
use Rattle.vm_vcpu.proofs.runner.Runner.stay.Goals as goal

pub turn-did-requires : goal.turn-did-requires
turn-did-requires g c = record { fits = found_fits g.I.Image.seen c.args.pass.now.view c.take-held.result.value c.args.self.now c.is_sound.ensures c.take-held.ensures.finds c.requires.sits }

pub give-requires : goal.give-requires
give-requires g c =
    let r = c.args.self.now in
    let sits = c.requires.sits in
    let can = can_give c.args.pass.now.view c.take-held.result.value c.turn-did.new.board _ (turn_adds c.take-held.result.value.state r) c.turn-did.result r.by c.take-held.new.pass.view.tries sits.number c.take-held.ensures.finds c.turn-did.ensures.turn
    (choice_all c.take-held.result.value.state r.by (back_of c.take-held.result.value.state r) (back_all c.take-held.result.value.state r sits.fits.pass)) in
    let here = subst (λ (w : View Start). CanGive w c.turn-did.new.board) (sym c.take-held.ensures.taken) can in
    record { own = c.take-held.ensures.same ∙ c.requires.own; holds = here.holds; root = here.root; history = here.history }

pub returns-clause-stays : goal.returns-clause-stays
returns-clause-stays g c = λ start root.
    let v = c.args.pass.now.view in
    let x = c.take-held.result.value in
    let y = c.turn-did.new.board in
    let r = c.args.self.now in
    let mid = c.turn-did.new.self in
    let did = c.turn-did.result in
    let sits = c.requires.sits in
    let given : c.give.new.pass.view ≡ given_view (with_tries (taken_view v x.journal) c.take-held.new.pass.view.tries) y.journal = c.give.ensures.given ∙ ap (λ (w : View Start). given_view w y.journal) c.take-held.ensures.taken in
    let one = one_stay g.I.Image.seen r.by back_of leaves TurnsAndRuns v x y r (runs mid) c.take-held.new.pass.view.tries did sits.number c.is_sound.ensures c.is_sound-2.ensures c.take-held.ensures.finds c.turn-did.ensures.turn (back_all x.state r sits.fits.pass)
    (record { mid = mid; takes = c.turn-did.ensures.takes; runs = refl }) start root in
    subst (λ (q : RunnerView). RunnerStays start v r c.give.new.pass.view q did) (sym c.outside.ensures) (subst (λ (w : View Start). RunnerStays start v r w (runs mid) did) (sym given) one)
