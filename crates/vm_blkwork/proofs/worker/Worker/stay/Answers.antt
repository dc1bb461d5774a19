use Rattle.std.proofs.Common.{◌≡◌, sym, ap, subst, ◌∙◌}
use Rattle.vm_turn.specs.View.{given_view, taken_view, with_tries}
use Rattle.vm_turn.specs.declared.view.View.{View}
use Rattle.vm_state.specs.declared.start.Start.{Start}
use Rattle.vm_state.specs.State.{State}
use Rattle.vm_board.proofs.Going.{CanGive, can_give, choice_all, one_stay}
use Rattle.vm_board.specs.Turn.{TakesTurn}
use Rattle.vm_blkwork.specs.Going.{TurnsAndCalls, WorkerSits, WorkerStays, leaves}
use Rattle.vm_blkwork.specs.Turn.{back_of, is_left, turn_of}
use Rattle.vm_blkwork.proofs.Seating.{back_all, found_fits, is_turned, sits_again}
use Rattle.vm_blkwork.proofs.worker.Worker.stay.Goals as goal

pub turn-did-requires : goal.turn-did-requires
turn-did-requires g c = record { fits = found_fits g.I.Image.seen c.args.pass.now.view c.take-held.result.value c.args.self.now c.is_sound.ensures c.take-held.ensures.finds c.requires.sits }

pub give-requires : goal.give-requires
give-requires g c =
    let w = c.args.self.now in
    let s = c.take-held.result.value.state in
    let can = can_give c.args.pass.now.view c.take-held.result.value c.turn-did.new.board _ (turn_of s w) c.turn-did.result w.by c.take-held.new.pass.view.tries c.requires.sits.number c.take-held.ensures.finds c.turn-did.ensures.turn (choice_all s w.by (back_of s w) (back_all s w)) in
    let here = subst (λ (v : View Start). CanGive v c.turn-did.new.board) (sym c.take-held.ensures.taken) can in
    record { own = c.take-held.ensures.same ∙ c.requires.own; holds = here.holds; root = here.root; history = here.history }

pub returns-clause-sits : goal.returns-clause-sits
returns-clause-sits g c =
    let v = c.args.pass.now.view in
    let x = c.take-held.result.value in
    let y = c.turn-did.new.board in
    let w = c.args.self.now in
    let u = c.outside.new.self in
    let given : c.give.new.pass.view ≡ given_view (with_tries (taken_view v x.journal) c.take-held.new.pass.view.tries) y.journal = c.give.ensures.given ∙ ap (λ (z : View Start). given_view z y.journal) c.take-held.ensures.taken in
    subst (λ (z : View Start). WorkerSits g.I.Image.seen z u) (sym given)
    (sits_again g.I.Image.seen v x y w u c.take-held.new.pass.view.tries _ c.turn-did.result c.take-held.ensures.finds c.requires.sits c.turn-did.ensures.turn (c.outside.ensures.numbers.1 ∙ c.turn-did.ensures.numbers.1)
    (c.outside.ensures.fits y.start y.journal c.turn-did.ensures.fits))

pub returns-clause-stays : goal.returns-clause-stays
returns-clause-stays g c = λ start root.
    let v = c.args.pass.now.view in
    let x = c.take-held.result.value in
    let y = c.turn-did.new.board in
    let w = c.args.self.now in
    let mid = c.turn-did.new.self in
    let u = c.outside.new.self in
    let did = c.turn-did.result in
    let given : c.give.new.pass.view ≡ given_view (with_tries (taken_view v x.journal) c.take-held.new.pass.view.tries) y.journal = c.give.ensures.given ∙ ap (λ (z : View Start). given_view z y.journal) c.take-held.ensures.taken in
    let same : is_left y.state mid.by mid.disk ≡ leaves y.state u = ap (λ n. is_left y.state n mid.disk) (sym c.outside.ensures.numbers.1) ∙ ap (λ n. is_left y.state u.by n) (sym c.outside.ensures.numbers.0) in
    let turn = subst (λ b. TakesTurn x y b (turn_of x.state w) did) same c.turn-did.ensures.turn in
    let one = one_stay g.I.Image.seen w.by back_of leaves (TurnsAndCalls g.I.Image.seen) v x y w u c.take-held.new.pass.view.tries did c.requires.sits.number c.is_sound.ensures c.is_sound-2.ensures c.take-held.ensures.finds turn (back_all x.state w)
    (record {
      mid = mid;
      turned = is_turned did w mid c.turn-did.ensures.starved c.turn-did.ensures.waits;
      called = c.outside.ensures.gone;
      numbers = (c.outside.ensures.numbers.0 ∙ c.turn-did.ensures.numbers.0, c.outside.ensures.numbers.1 ∙ c.turn-did.ensures.numbers.1);
    }) start root in
    subst (λ (z : View Start). WorkerStays g.I.Image.seen start v w z u did) (sym given) one
