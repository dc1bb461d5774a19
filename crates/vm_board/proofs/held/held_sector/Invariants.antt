use Rattle.std.proofs.Common.{◌≡◌, ◌==◌, drop}
use Rattle.std.specs.List.{find}
use Rattle.blk_queue.specs.declared.progress.Unfinished.{Unfinished}
use Rattle.vm_board.proofs.held.held_sector.Given as goal

abbrev pub invariant-loop-k : goal.invariant-loop-k
invariant-loop-k l = find (λ (x : Unfinished). x.id == l.id) l.drive.queue.requests ≡ find (λ (x : Unfinished). x.id == l.id) (drop l.k l.drive.queue.requests)
