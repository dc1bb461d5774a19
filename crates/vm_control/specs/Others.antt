-- When control fits: at the beginning, and after each entry.
use Rattle.vm_law.specs.declared.journal.Signed.{Signed}
use Rattle.vm_state.specs.State.{State}
use Rattle.vm_table.specs.Table.{after}
use Rattle.vm_control.specs.Fits.{ControlFits}
use Rattle.vm_control.specs.View.{ControlView, new_control}

-- whatever is added, the console's bytes stay, and others can come behind them
abbrev pub EntriesKeepControl : Type 0
EntriesKeepControl = (s : State) (x : Signed) (c : ControlView) → ControlFits s c → ControlFits (after s x) c

abbrev pub NewControlFits : Type 0
NewControlFits = (s : State) → ControlFits s new_control
