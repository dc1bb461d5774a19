use Rattle.std.proofs.Common.{◌≡◌, sym, ap, subst, ◌∙◌}
use Rattle.vm_turn.specs.View.{given_view, taken_view, with_tries}
use Rattle.vm_turn.specs.declared.view.View.{View}
use Rattle.vm_state.specs.declared.start.Start.{Start}
use Rattle.vm_board.proofs.Going.{CanGive}
use Rattle.vm_threads.specs.Chair.{ChairView, IsChair}
use Rattle.vm_threads.proofs.Chairs.{ControlTurned, found_fits, turn_can_give, turn_keeps}
use Rattle.vm_threads.proofs.chair_turns.turn.Goals as goal

pub turn-did-requires : goal.turn-did-requires
turn-did-requires g c =
    let old : ChairView = record { control = c.chair.inside.control; pass = c.chair.inside.pass; fault = c.chair.inside.fault } in
    record { fits = found_fits g.I.Image.seen old c.take-held.result.value c.chair.invariant c.is_sound.ensures c.take-held.ensures.finds }

pub give-requires-clause-history : goal.give-requires-clause-history
give-requires-clause-history g c =
    let old : ChairView = record { control = c.chair.inside.control; pass = c.chair.inside.pass; fault = c.chair.inside.fault } in
    let x = c.take-held.result.value in
    let y = c.turn-did.new.board in
    let t : ControlTurned g.I.Image.seen old x y c.turn-did.new.self c.turn-did.result =
    record { chair = c.chair.invariant; found = c.take-held.ensures.finds; board = c.is_sound-2.ensures; turn = c.turn-did.ensures.turn; fits = c.turn-did.ensures.fits; failed = c.turn-did.ensures.failed; whole = c.turn-did.ensures.whole } in
    let can = turn_can_give g.I.Image.seen old x y c.turn-did.new.self c.turn-did.result c.take-held.new.pass.view.tries t in
    let here = subst (λ (w : View Start). CanGive w y) (sym c.take-held.ensures.taken) can in
    here.history

pub invariant_of-chair : goal.invariant_of-chair
invariant_of-chair g c =
    let old : ChairView = record { control = c.chair.inside.control; pass = c.chair.inside.pass; fault = c.chair.inside.fault } in
    let x = c.take-held.result.value in
    let y = c.turn-did.new.board in
    let t : ControlTurned g.I.Image.seen old x y c.turn-did.new.self c.turn-did.result =
    record { chair = c.chair.invariant; found = c.take-held.ensures.finds; board = c.is_sound-2.ensures; turn = c.turn-did.ensures.turn; fits = c.turn-did.ensures.fits; failed = c.turn-did.ensures.failed; whole = c.turn-did.ensures.whole } in
    let given : c.give.new.pass.view ≡ given_view (with_tries (taken_view old.pass.view x.journal) c.take-held.new.pass.view.tries) y.journal = c.give.ensures.given ∙ ap (λ (w : View Start). given_view w y.journal) c.take-held.ensures.taken in
    let keeps = turn_keeps g.I.Image.seen old x y c.turn-did.new.self c.turn-did.result c.take-held.new.pass.view.tries c.give.new.pass.turnstile t in
    subst (λ (w : View Start). IsChair (record { control = c.turn-did.new.self; pass = record { turnstile = c.give.new.pass.turnstile; view = w }; fault = old.fault })) (sym given) keeps
