-- What any number of rounds did to a crew, and how it stands after them.
use Rattle.std.specs.Prelude.{◌≡◌, ◌≢◌, ℕ, Bool, true, false, List, ◌++◌, Option, Some, None}
use Rattle.vm_host.specs.Views.{SinkView}
use Rattle.vm_state.specs.declared.run_state.Why.TheVariants.{Outside}
use Rattle.vm_table.specs.Rounds.{first_round, rounds_from}
use Rattle.vm_control.specs.declared.control.OutFault.{OutFault}
use Rattle.vm_solo.specs.Ending.{IsCutShort, or_outside}
use Rattle.vm_solo.specs.Playing.{Causes, Continues, KeepsFirst, Writes}
use Rattle.vm_solo.specs.Rounds.{rounds_of}
use Rattle.vm_solo.specs.View.{CrewView}

module _ {I : Type 0} where
  -- what they did, also where want of memory cut the last one off
  pub record WentOn (old new : CrewView I) (before now : SinkView) : Type 0 where
    pub continues : Continues old.board new.board
    pub writes : Writes old.control new.control before now
    pub keeps : KeepsFirst old.fault new.fault
    pub cause : Causes old.fault new.fault before.faults now.faults

  -- once the run is closed all that it sent is written
  abbrev pub IsWritten : CrewView I → Type 0
  IsWritten c = c.board.state.closed ≡ true → c.control.wrote ≡ c.board.state.console

  -- it stands where rounds of one thread end, and the run didn't end by a failure outside
  pub record PlayedAlone (c : CrewView I) : Type 0 where
    pub calls : List Bool
    pub rounds : ℕ
    pub plays : (more : List Bool) → rounds_of c more ≡ rounds_from (first_round c.board.start (calls ++ more)) rounds
    pub inside : c.board.state.ended ≢ Some Outside
    pub written : IsWritten c

  abbrev pub PlayedTo : CrewView I → Option OutFault → Type 0
  PlayedTo c None = PlayedAlone c
  PlayedTo c (Some fault) = IsCutShort c.board.start c.board.journal (Some (or_outside c.board.state.ended))

  -- rounds from its start on brought it here, and none of them wanted memory. While nothing has failed, they are those of one
  -- thread; else the run is cut short, and where it hasn't ended it is to end by the failure
  pub record HasPlayed (c : CrewView I) : Type 0 where
    pub stands : PlayedTo c c.fault
    pub fed : c.board.starved ≡ false
