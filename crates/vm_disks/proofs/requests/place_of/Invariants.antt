use Rattle.std.proofs.Common.{◌≡◌, ◌==◌, drop}
use Rattle.std.specs.List.{find}
use Rattle.blk_queue.specs.declared.progress.Unfinished.{Unfinished}
use Rattle.vm_disks.proofs.requests.place_of.Given as goal

abbrev pub invariant-loop-k : goal.invariant-loop-k
invariant-loop-k l = find (λ (x : Unfinished). x.id == l.id) l.queue.requests ≡ find (λ (x : Unfinished). x.id == l.id) (drop l.k l.queue.requests)
