-- Control fits a state of the run.
use Rattle.std.specs.Prelude.{◌≡◌, ℕ, List, ◌++◌}
use Rattle.vm_state.specs.State.{State}
use Rattle.vm_control.specs.View.{ControlView}

-- the bytes that it wrote, followed by those that it holds to write, are a first part of what the console received
pub record ControlFits (s : State) (c : ControlView) : Type 0 where
  pub rest : List ℕ
  pub console : s.console ≡ c.wrote ++ c.held ++ rest
