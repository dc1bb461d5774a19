-- What contracts see of an actor with its pass.
use Rattle.std.specs.Prelude.{◌<◌}
use Rattle.vm_host.specs.Views.{ImageView}
use Rattle.vm_turn.specs.Known.{Known}
use Rattle.vm_state.specs.declared.start.Start.{Start}
use Rattle.vm_vcpu.specs.Going.{RunnerSits}
use Rattle.vm_vcpu.specs.View.{RunnerView}
use Rattle.vm_blkwork.specs.Going.{WorkerSits}
use Rattle.vm_blkwork.specs.declared.worker.Worker.{Worker}

pub record RunnerSeat : Type 0 where
  pub runner : RunnerView
  pub pass : Known Start

-- its pass isn't control's, has the runner's number and holds nothing, and the runner fits the history that the pass has seen
pub record IsRunnerSeat (seat : RunnerSeat) : Type 0 where
  pub above : 0 < seat.pass.view.number
  pub sits : RunnerSits seat.pass.view seat.runner

pub record WorkerSeat (I : Type 0) : Type 0 where
  pub worker : Worker I
  pub pass : Known Start

-- the same of a worker
pub record IsWorkerSeat {I : Type 0} (seen : I → ImageView) (seat : WorkerSeat I) : Type 0 where
  pub above : 0 < seat.pass.view.number
  pub sits : WorkerSits seen seat.pass.view seat.worker
