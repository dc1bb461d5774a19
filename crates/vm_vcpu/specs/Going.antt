-- A runner at the turnstile.
use Rattle.std.specs.Prelude.{◌≡◌, ℕ, Bool, false, List, Some}
use Rattle.vm_law.specs.declared.journal.Signed.{Signed}
use Rattle.vm_turn.specs.declared.view.View.{View}
use Rattle.vm_state.specs.declared.start.Start.{Start}
use Rattle.vm_state.specs.State.{State}
use Rattle.vm_table.specs.History.{last_state}
use Rattle.vm_table.specs.Rounds.{lease_back}
use Rattle.vm_board.specs.declared.actor.Did.{Did}
use Rattle.vm_board.specs.declared.actor.Went.{Went}
use Rattle.vm_board.specs.Going.{HasGone, IsStay, place}
use Rattle.vm_vcpu.specs.Fits.{RunnerFits}
use Rattle.vm_vcpu.specs.Turn.{Takes, has_left}
use Rattle.vm_vcpu.specs.View.{RunnerView, lease_now, ran_ahead}

-- its pass has its number and holds nothing, and it fits the history that the pass has seen
pub record RunnerSits (pass : View Start) (r : RunnerView) : Type 0 where
  pub start : Start
  pub root : pass.root ≡ Some start
  pub number : pass.number ≡ r.by
  pub free : pass.holds ≡ false
  pub fits : RunnerFits (last_state start pass.seen) r

-- what it brings back in a turn
abbrev pub back_of : State → RunnerView → List Signed
back_of s r = lease_back s r.cpu (lease_now r)

abbrev pub leaves : State → RunnerView → Bool
leaves s r = has_left s r.cpu r.by

-- its turn, and then its work outside
pub record TurnsAndRuns (now : State) (did : Did) (before after : RunnerView) : Type 0 where
  pub mid : RunnerView
  pub takes : Takes now before mid did
  pub runs : after ≡ record mid { out = ran_ahead mid.copies mid.out }

module _ (start : Start) (old : View Start) (r : RunnerView) (new : View Start) (q : RunnerView) where
  abbrev pub RunnerStays : Did → Type 0
  RunnerStays did = IsStay start r.by back_of leaves TurnsAndRuns (place old r) (place new q) did

  abbrev pub RunnerGoes : ℕ → Went → Type 0
  RunnerGoes most w = HasGone start r.by back_of leaves TurnsAndRuns most (place old r) (place new q) w
