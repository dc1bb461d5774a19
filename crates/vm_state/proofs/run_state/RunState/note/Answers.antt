use Rattle.std.proofs.Common.{◌∷◌, ◌++◌, [], refl, ap, ◌∙◌}
use Rattle.vm_state.specs.declared.run_state.Answer.{Answer}
use Rattle.vm_state.specs.View.{RunView}
use Rattle.vm_state.proofs.Answering.{reserved_set, within, noted_view}
use Rattle.vm_state.proofs.run_state.RunState.note.Goals as goal

pub invariant_of-self : goal.invariant_of-self
invariant_of-self c =
    (reserved_set c.self.inside.orders c.self.inside.place _ _ _ c.at_mut-answer.result.now (ap (λ (y : Answer). y.order) c.at_mut-answer.ensures.value) c.self.invariant.0, c.self.invariant.1)

pub returns : goal.returns
returns c =
    noted_view c.self.inside (record { order = c.at_mut-answer.result.now.order; said = c.at_mut-answer.result.now.said; samples = c.push.new.self }) c.at_mut-answer.result.now c.args.sample
    (within c.self.inside c.args.self.now c.self.view_is c.requires.order) c.at_mut-answer.ensures.value refl c.push.ensures.items
    ∙ ap (λ (v : RunView). record v { state = record v.state { samples = v.state.samples ++ c.args.sample ∷ [] } }) c.self.view_is
