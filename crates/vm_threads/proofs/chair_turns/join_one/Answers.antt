use Rattle.std.proofs.Common.{sym, subst}
use Rattle.vm_turn.specs.Known.{TableId}
use Rattle.vm_turn.specs.View.{joined_view}
use Rattle.vm_turn.specs.declared.view.View.{View}
use Rattle.vm_state.specs.declared.start.Start.{Start}
use Rattle.vm_threads.specs.Chair.{ChairView, IsChair}
use Rattle.vm_threads.proofs.Chairs.{joined_chair}
use Rattle.vm_threads.proofs.chair_turns.join_one.Goals as goal

pub invariant_of-result : goal.invariant_of-result
invariant_of-result g c =
    let old : ChairView = record { control = c.chair.inside.control; pass = c.chair.inside.pass; fault = c.chair.inside.fault } in
    let view = c.join-pass.ensures.view in
    let same = c.join-pass.ensures.same in
    let first : IsChair (record old { pass = record { turnstile = c.join-pass.result.turnstile; view = joined_view old.pass.view c.args.ended.view } }) =
    subst (λ (t : TableId). IsChair (record old { pass = record { turnstile = t; view = joined_view old.pass.view c.args.ended.view } })) (sym same) (joined_chair old c.args.ended.view c.chair.invariant) in
    subst (λ (w : View Start). IsChair (record old { pass = record { turnstile = c.join-pass.result.turnstile; view = w } })) (sym view) first
