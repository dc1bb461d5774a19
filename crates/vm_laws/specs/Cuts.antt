-- Where a machine is saved everything is at rest.
use Rattle.std.specs.Prelude.{◌≡◌, ℕ, true, List, None}
use Rattle.vm_law.specs.declared.journal.Signed.{Signed}
use Rattle.vm_state.specs.declared.start.Start as start_type
use Rattle.vm_state.specs.declared.start.Origin.TheVariants.{Saved}
use Rattle.vm_state.specs.Machine.{MachineState, all_frozen}
use Rattle.vm_state.specs.Requests.{none_busy}
use Rattle.vm_state.specs.Start.{boot}
use Rattle.vm_state.specs.State.{State, none_held}
use Rattle.vm_state.specs.View.{MachineView}
use Rattle.vm_table.specs.History.{IsCut, IsLegal, last_state}

-- a pause is wished, every vCPU is frozen by control, no request is busy, no rendezvous is open, and no image is held
pub record IsAtRest (s : State) : Type 0 where
  pub pause : s.machine.pause ≡ true
  pub frozen : all_frozen s.machine ≡ true
  pub busy : none_busy s.machine ≡ true
  pub meet : s.machine.meet ≡ None
  pub held : none_held s ≡ true

abbrev pub CutsAreAtRest : Type 0
CutsAreAtRest =
    (start : start_type.Start) (history : List Signed) (k : ℕ) (m : MachineState) → IsLegal start history → (c : IsCut start history k m)
    → IsAtRest (last_state start c.before)

-- a run on a saved machine begins with exactly that machine
abbrev pub SavedMachinesGoOn : Type 0
SavedMachinesGoOn = (start : start_type.Start) (m : MachineView) → start.origin ≡ Saved m → (boot start).machine ≡ m.state
