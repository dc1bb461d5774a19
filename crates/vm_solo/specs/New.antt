-- The actors of a run at its start.
use Rattle.std.specs.Prelude.{◌≡◌, ℕ, ◌+◌, ◌<◌, true, List, length, None}
use Rattle.vm_state.specs.Machine.{MachineState, code_of, cpu_count}
use Rattle.vm_state.specs.Requests.{is_worker, pass_count}
use Rattle.vm_vcpu.specs.New.{new_runner}
use Rattle.vm_vcpu.specs.View.{RunnerView}
use Rattle.vm_blkwork.specs.declared.worker.Worker.{Worker}
use Rattle.vm_solo.specs.Fits.{runner_at, worker_at}

-- so many new runners, with this code
pub record AreNewRunners (cpus : ℕ) (code : List ℕ) (runners : List RunnerView) : Type 0 where
  pub count : length runners ≡ cpus
  pub each : (i : ℕ) → i < length runners → runner_at runners i ≡ new_runner i (1 + i) code

-- a worker for each pass behind the vCPUs' and below `last`, which has nothing out
pub record AreNewWorkers {I : Type 0} (m : MachineState) (last : ℕ) (workers : List (Worker I)) : Type 0 where
  pub count : 1 + cpu_count m + length workers ≡ last
  pub pass : (k : ℕ) → k < length workers → (worker_at workers k).by ≡ 1 + cpu_count m + k
  pub worker : (k : ℕ) → k < length workers → is_worker m (worker_at workers k).by (worker_at workers k).disk ≡ true
  pub out : (k : ℕ) → k < length workers → (worker_at workers k).out ≡ None

-- an actor for each pass but control's, with the code as it is
pub record AreNewActors {I : Type 0} (m : MachineState) (rs : List RunnerView) (ws : List (Worker I)) : Type 0 where
  pub runners : AreNewRunners (cpu_count m) (code_of m) rs
  pub workers : AreNewWorkers m (pass_count m) ws
