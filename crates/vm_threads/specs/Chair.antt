-- Control with pass 0.
use Rattle.std.specs.Prelude.{◌≡◌, ◌≢◌, ℕ, ◌+◌, Bool, true, false, List, ◌++◌, length, Option, Some, None, is_some}
use Rattle.std.specs.List.{list_any}
use Rattle.vm_law.specs.declared.journal.EndCause.TheVariants.{Outside}
use Rattle.vm_law.specs.declared.journal.Entry.{Entry}
use Rattle.vm_law.specs.declared.journal.Entry.TheVariants.{End}
use Rattle.vm_law.specs.declared.journal.Signed.{Signed}
use Rattle.vm_host.specs.Views.{SinkView}
use Rattle.vm_turn.specs.Known.{Known}
use Rattle.vm_state.specs.declared.start.Start.{Start}
use Rattle.vm_table.specs.History.{last_state}
use Rattle.vm_board.specs.declared.actor.Did.{Did}
use Rattle.vm_board.specs.declared.actor.Did.TheVariants.{Left, Starved}
use Rattle.vm_control.specs.Fits.{ControlFits}
use Rattle.vm_control.specs.View.{ControlView}
use Rattle.vm_control.specs.declared.control.OutFault.{OutFault}
use Rattle.vm_solo.specs.Playing.{Causes, KeepsFirst, Writes}

-- what contracts see of it, with the first failure of control's work outside
pub record ChairView : Type 0 where
  pub control : ControlView
  pub pass : Known Start
  pub fault : Option OutFault

-- an end by a failure outside
abbrev pub is_end_outside : Entry → Bool
is_end_outside (End Outside) = true
is_end_outside e = false

abbrev pub ends_outside : List Signed → Bool
ends_outside xs = list_any (λ (x : Signed). is_end_outside x.entry) xs

-- pass 0 holds nothing and control fits the history that it has seen; control knows of a failure exactly where there was one,
-- and without one it hasn't ended the run by it
pub record IsChair (c : ChairView) : Type 0 where
  pub start : Start
  pub root : c.pass.view.root ≡ Some start
  pub number : c.pass.view.number ≡ 0
  pub free : c.pass.view.holds ≡ false
  pub fits : ControlFits (last_state start c.pass.view.seen) c.control
  pub fault : c.control.failed ≡ is_some c.fault
  pub no_end : c.fault ≡ None → ends_outside c.pass.view.own ≡ false

-- ---- turns of pass 0

-- it is of the same turnstile, and has split and joined as many passes as before
pub record IsSameSeat (old new : ChairView) : Type 0 where
  pub turnstile : new.pass.turnstile ≡ old.pass.turnstile
  pub root : new.pass.view.root ≡ old.pass.view.root
  pub splits : new.pass.view.splits ≡ old.pass.view.splits
  pub ended : new.pass.view.ended ≡ old.pass.view.ended

-- after a turn that had memory what control wrote, and then what it holds to write, is all that the console received in the
-- history that the pass has seen; and where control leaves, that closed the run
pub record HasTaken (did : Did) (c : ChairView) : Type 0 where
  pub start : Start
  pub root : c.pass.view.root ≡ Some start
  pub all : did ≢ Starved → c.control.wrote ++ c.control.held ≡ (last_state start c.pass.view.seen).console
  pub closed : did ≡ Left → (last_state start c.pass.view.seen).closed ≡ true

-- what its turns and its work outside did
pub record HasTurned (old new : ChairView) (before now : SinkView) : Type 0 where
  pub seat : IsSameSeat old new
  pub writes : Writes old.control new.control before now
  pub keeps : KeepsFirst old.fault new.fault
  pub causes : Causes old.fault new.fault before.faults now.faults

-- a history that it has seen closed the run; and what control wrote by then was all that the console received in it, where
-- nothing failed
pub record HasClosed (c : ChairView) : Type 0 where
  pub start : Start
  pub root : c.pass.view.root ≡ Some start
  pub whole : List Signed
  pub rest : List Signed
  pub seen : c.pass.view.seen ≡ whole ++ rest
  pub closed : (last_state start whole).closed ≡ true
  pub wrote : c.fault ≡ None → c.control.wrote ≡ (last_state start whole).console

-- ---- joins

-- it has joined so many passes more, and may have seen more
pub record HasJoined (old : ChairView) (count : ℕ) (new : ChairView) : Type 0 where
  pub control : new.control ≡ old.control
  pub fault : new.fault ≡ old.fault
  pub turnstile : new.pass.turnstile ≡ old.pass.turnstile
  pub root : new.pass.view.root ≡ old.pass.view.root
  pub splits : new.pass.view.splits ≡ old.pass.view.splits
  pub joined : length new.pass.view.ended ≡ length old.pass.view.ended + count
  pub more : List Signed
  pub seen : new.pass.view.seen ≡ old.pass.view.seen ++ more
