-- What a worker adds in its turn, and when it leaves.
use Rattle.std.specs.Prelude.{ℕ, Bool, not, ◌&&◌, ◌||◌, List, Option, Some, None, is_some}
use Rattle.std.specs.List.{list_any}
use Rattle.vm_law.specs.declared.journal.Signed.{Signed}
use Rattle.vm_state.specs.Machine.{drive_at}
use Rattle.vm_state.specs.Requests.{is_busy_by}
use Rattle.vm_state.specs.State.{State, image_at}
use Rattle.vm_table.specs.Rounds.{is_its, put_back}
use Rattle.vm_board.specs.Turn.{with_choice}
use Rattle.vm_blkwork.specs.declared.outside.Out.{Out}
use Rattle.vm_blkwork.specs.declared.worker.Worker.{Worker}

-- the pass has a request of the disk, or its image
abbrev pub owns : State → ℕ → ℕ → Bool
owns s p d = list_any (is_busy_by p) (drive_at s.machine d).queue.requests || is_its p (image_at s d).holder

-- the run is closed, or it is ended and the worker owns nothing
abbrev pub is_left : State → ℕ → ℕ → Bool
is_left s p d = s.closed || (is_some s.ended && not (owns s p d))

module _ {I : Type 0} where
  -- what the call on its image answered, once it was made
  abbrev pub answer_of : Option (Out I) → Option Bool
  answer_of None = None
  answer_of (Some out) = out.answer

  -- the Put that is due
  abbrev pub back_of : State → Worker I → List Signed
  back_of s w = put_back s w.by (Some w.disk) (answer_of w.out)

  -- and then the first lawful entry
  abbrev pub turn_of : State → Worker I → List Signed
  turn_of s w = with_choice s w.by (back_of s w)
