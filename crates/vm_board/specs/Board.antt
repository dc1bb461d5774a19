-- What holds of every board.
use Rattle.std.specs.Prelude.{◌≡◌}
use Rattle.vm_host.specs.Views.{ImageView}
use Rattle.vm_state.specs.Start.{IsSound}
use Rattle.vm_table.specs.History.{IsLegal, last_state}
use Rattle.vm_table.specs.Turns.{IsOrderly}
use Rattle.vm_board.specs.Homes.{AreHomes}
use Rattle.vm_board.specs.View.{BoardView}

-- its journal is a history of the machine, in which each pass added what it adds in an orderly turn; the run's state is the last
-- one; and each image is at home or out
pub record IsBoard {I : Type 0} (seen : I → ImageView) (b : BoardView I) : Type 0 where
  pub sound : IsSound b.start
  pub legal : IsLegal b.start b.journal
  pub orderly : IsOrderly b.start b.journal
  pub last : b.state ≡ last_state b.start b.journal
  pub homes : AreHomes seen b.start b.journal b.images
