use Rattle.std.proofs.Common.{◌∙◌}
use Rattle.vm_state.proofs.Copied.{copied_view}
use Rattle.vm_state.proofs.run_state.RunState.copy.Goals as goal

pub returns : goal.returns
returns c =
    copied_view c.self.inside c.args.self.now c.in_ok-held.held.machine.state c.in_ok-held.held.kept c.in_ok-told.told.orders c.in_ok-told.told.input.items c.in_ok-told.told.console.items
    c.self.view_is c.in_ok-held.ensures.machine c.in_ok-held.ensures.kept (c.in_ok-told.ensures.orders ∙ c.as_slice.ensures) c.in_ok-told.ensures.input (c.in_ok-told.ensures.console ∙ c.as_slice-2.ensures.value)
