-- A crew fits its board: there is an actor for each pass, and each fits.
use Rattle.std.specs.Prelude.{◌≡◌, ℕ, ◌+◌, ◌<◌, List, [], length, slice_index_or, None, is_some}
use Rattle.vm_law.specs.declared.journal.Signed.{Signed}
use Rattle.vm_host.specs.Views.{ImageView}
use Rattle.vm_state.specs.declared.start.Start.{Start}
use Rattle.vm_state.specs.Machine.{cpu_count}
use Rattle.vm_state.specs.Requests.{pass_count}
use Rattle.vm_state.specs.State.{State}
use Rattle.vm_board.specs.Board.{IsBoard}
use Rattle.vm_control.specs.Fits.{ControlFits}
use Rattle.vm_vcpu.specs.Fits.{RunnerFits}
use Rattle.vm_vcpu.specs.New.{new_runner}
use Rattle.vm_vcpu.specs.View.{RunnerView}
use Rattle.vm_blkwork.specs.Fits.{WorkerFits}
use Rattle.vm_blkwork.specs.declared.worker.Worker.{Worker}
use Rattle.vm_solo.specs.View.{CrewView}

abbrev pub runner_at : List RunnerView → ℕ → RunnerView
runner_at runners i = slice_index_or runners i (new_runner 0 0 [])

-- the runner of each vCPU stands at its number
pub record RunnersFit (s : State) (runners : List RunnerView) : Type 0 where
  pub count : length runners ≡ cpu_count s.machine
  pub cpu : (i : ℕ) → i < length runners → (runner_at runners i).cpu ≡ i
  pub fits : (i : ℕ) → i < length runners → RunnerFits s (runner_at runners i)

module _ {I : Type 0} where
  abbrev pub worker_at : List (Worker I) → ℕ → Worker I
  worker_at workers k = slice_index_or workers k (record { disk = 0; by = 0; out = None })

  -- the workers stand by their passes, which are those behind the vCPUs'
  pub record WorkersFit (seen : I → ImageView) (start : Start) (journal : List Signed) (s : State) (workers : List (Worker I)) : Type 0 where
    pub count : 1 + cpu_count s.machine + length workers ≡ pass_count s.machine
    pub pass : (k : ℕ) → k < length workers → (worker_at workers k).by ≡ 1 + cpu_count s.machine + k
    pub fits : (k : ℕ) → k < length workers → WorkerFits seen start journal (worker_at workers k)

  -- and control knows of a failure outside exactly where there was one
  pub record IsCrew (seen : I → ImageView) (c : CrewView I) : Type 0 where
    pub board : IsBoard seen c.board
    pub control : ControlFits c.board.state c.control
    pub runners : RunnersFit c.board.state c.runners
    pub workers : WorkersFit seen c.board.start c.board.journal c.board.state c.workers
    pub fault : c.control.failed ≡ is_some c.fault
