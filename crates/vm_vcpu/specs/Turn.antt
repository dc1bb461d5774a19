-- What a runner adds in its turn, what it then has out, and when it has no more to do.
use Rattle.std.specs.Prelude.{◌≡◌, ℕ, Bool, not, ◌&&◌, ◌||◌, List, is_some}
use Rattle.vm_law.specs.declared.journal.Signed.{Signed}
use Rattle.vm_law.specs.declared.stage.Owned.{Owned}
use Rattle.vm_meet.specs.Meeting.{names}
use Rattle.vm_state.specs.Machine.{cpu_at, is_frozen, is_running, is_sleeping}
use Rattle.vm_state.specs.State.{State}
use Rattle.vm_table.specs.Rounds.{lease_back}
use Rattle.vm_board.specs.declared.actor.Did.{Did}
use Rattle.vm_board.specs.declared.actor.Did.TheVariants.{Starved}
use Rattle.vm_board.specs.Turn.{GoesOn, with_choice}
use Rattle.vm_board.specs.View.{BoardView}
use Rattle.vm_vcpu.specs.Copies.{AreRenewed}
use Rattle.vm_vcpu.specs.View.{RunnerView, lease_now, taken_out}

-- the instructions that are out come back, and then the first lawful entry of the pass's list
abbrev pub turn_adds : State → RunnerView → List Signed
turn_adds s r = with_choice s r.by (lease_back s r.cpu (lease_now r))

-- the pass owns the vCPU
abbrev pub owns : Owned → ℕ → Bool
owns stage p = is_frozen stage p || is_running stage p || is_sleeping stage p

-- the run is closed, or it is ended, the pass owns nothing, and no open meeting names the vCPU
unfoldable pub has_left : State → ℕ → ℕ → Bool
has_left s i p = s.closed || (is_some s.ended && not (owns (cpu_at s.machine i).stage p) && not (names s.machine.meet i))

-- the runner's copies are renewed, and what it has out is its vCPU's context, where the vCPU runs on
pub record IsTaken (now : State) (r : RunnerView) : Type 0 where
  pub copies : AreRenewed now r.copies
  pub out : r.out ≡ taken_out now r.cpu

-- what a turn did to the runner: nothing where memory was wanted
abbrev pub Takes : State → RunnerView → RunnerView → Did → Type 0
Takes now before after Starved = after ≡ before
Takes now before after did = IsTaken now after

-- the board goes on by these entries, and its images stay
pub record Grows {I : Type 0} (old new : BoardView I) (added : List Signed) : Type 0 where
  pub goes : GoesOn old new added
  pub images : new.images ≡ old.images
