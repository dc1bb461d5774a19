-- The actors of a run before they start, and what came of them.
use Rattle.std.specs.Prelude.{◌≡◌, ℕ, ◌≤◌, Bool, true, false, List, length, All, Option, Some, None, Result, Ok, Err}
use Rattle.vm_host.specs.Views.{ImageView, SinkView}
use Rattle.vm_turn.specs.Known.{TableId}
use Rattle.vm_turn.specs.View.{Finds}
use Rattle.vm_board.specs.Board.{IsBoard}
use Rattle.vm_board.specs.View.{BoardView}
use Rattle.vm_control.specs.declared.control.OutFault.{OutFault}
use Rattle.vm_control.specs.declared.control.OutFault.TheVariants.{Memory}
use Rattle.vm_threads.specs.Chair.{ChairView, HasClosed, HasJoined, HasTurned, IsChair}
use Rattle.vm_threads.specs.Seats.{RunnerSeat, WorkerSeat}

-- pass 0 and all actors are of one turnstile, and there is a word for each actor
pub record IsCrew {I : Type 0} (t : TableId) (chair : ChairView) (runners : List RunnerSeat) (workers : List (WorkerSeat I)) (runner_words worker_words : ℕ) : Type 0 where
  pub chair_mine : chair.pass.turnstile ≡ t
  pub runners_mine : All (λ (s : RunnerSeat). s.pass.turnstile ≡ t) runners
  pub workers_mine : All (λ (s : WorkerSeat I). s.pass.turnstile ≡ t) workers
  pub runner_words_there : length runners ≤ runner_words
  pub worker_words_there : length workers ≤ worker_words

-- pass 0 took its turns, and joined so many passes; where nobody wanted memory the run was closed
pub record IsPlayed (old : ChairView) (count : ℕ) (new : ChairView) (starved : Bool) (before now : SinkView) : Type 0 where
  pub mid : ChairView
  pub turned : HasTurned old mid before now
  pub joined : HasJoined mid count new
  pub closed : starved ≡ false → HasClosed new

-- ---- the end

-- want of memory, or else the first failure
abbrev pub answer_of : Option OutFault → Bool → Result (Unit {0}) OutFault
answer_of fault true = Err Memory
answer_of (Some fault) false = Err fault
answer_of None false = Ok tt

module _ {I : Type 0} (seen : I → ImageView) where
  -- the board is what pass 0 finds at the end
  pub record IsBack (c : ChairView) (b : BoardView I) : Type 0 where
    pub chair : IsChair c
    pub board : IsBoard seen b
    pub found : Finds (λ (z : BoardView I). z.start) (λ (z : BoardView I). z.journal) c.pass.view b

  -- the board came back, it notes want of memory, and this is the answer
  pub record Closes (c : ChairView) (starved : Bool) (board : BoardView I) (answer : Result (Unit {0}) OutFault) : Type 0 where
    pub back : BoardView I
    pub is_back : IsBack c back
    pub start : board.start ≡ back.start
    pub state : board.state ≡ back.state
    pub notes : starved ≡ true → board.starved ≡ true
    pub answer_is : answer ≡ answer_of c.fault starved
