-- What the turn of one pass does to a crew, and what its control writes.
use Rattle.std.specs.Prelude.{◌≡◌, ◌≤◌, ℕ, Bool, List, ◌++◌, Option, Some, None, is_none}
use Rattle.vm_law.specs.declared.journal.Signed.{Signed}
use Rattle.vm_host.specs.Counts.{Rose}
use Rattle.vm_host.specs.Leaves.{Takes}
use Rattle.vm_host.specs.Views.{SinkView}
use Rattle.vm_state.specs.State.{State}
use Rattle.vm_table.specs.Rounds.{added, after_pass}
use Rattle.vm_control.specs.Turn.{turn_of}
use Rattle.vm_control.specs.View.{ControlView}
use Rattle.vm_control.specs.declared.control.OutFault.{OutFault}
use Rattle.vm_control.specs.declared.control.OutFault.TheVariants.{Sink}
use Rattle.vm_board.specs.View.{BoardView}
use Rattle.vm_solo.specs.Rounds.{rounds_of}
use Rattle.vm_solo.specs.View.{CrewView}

-- the sink takes these bytes, and control counts them as written
pub record Writes (old new : ControlView) (before now : SinkView) : Type 0 where
  pub bytes : List ℕ
  pub takes : Takes bytes before now
  pub wrote : new.wrote ≡ old.wrote ++ bytes

-- of several failures the first is kept
abbrev pub KeepsFirst : Option OutFault → Option OutFault → Type 0
KeepsFirst (Some e) now = now ≡ Some e
KeepsFirst None now = Unit {0}

module _ {I : Type 0} where
  -- the journal goes on
  pub record Continues (old new : BoardView I) : Type 0 where
    pub start : new.start ≡ old.start
    pub entries : List Signed
    pub journal : new.journal ≡ old.journal ++ entries

  -- control takes its turn
  abbrev pub PlaysControl : CrewView I → CrewView I → Type 0
  PlaysControl old new = (calls : List Bool) → rounds_of new calls ≡ added (rounds_of old calls) (turn_of old.board.state old.control.failed)

  -- pass p takes its turn and does its work outside, in which the image call, if there is one, answered `made`
  pub record PlaysPass (p : ℕ) (old new : CrewView I) : Type 0 where
    pub made : List Bool
    pub plays : (calls : List Bool) → rounds_of new calls ≡ after_pass (rounds_of old (made ++ calls)) p

-- a failure that is new raised the sink's count, which never falls, and without one the count stays
abbrev pub Causes : Option OutFault → Option OutFault → ℕ → ℕ → Type 0
Causes None (Some Sink) before now = (before ≤ now) × Rose before now
Causes None (Some fault) before now = ⊥
Causes old fault before now = now ≡ before

-- the run isn't ended
abbrev pub is_going : State → Bool
is_going s = is_none s.ended
