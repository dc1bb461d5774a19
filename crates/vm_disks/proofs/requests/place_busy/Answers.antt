use Rattle.std.proofs.Common.{sym, ◌∙◌, arith}
use Rattle.blk_queue.specs.declared.progress.Unfinished.{Unfinished}
use Rattle.vm_state.specs.Requests.{is_busy_by}
use Rattle.vm_disks.proofs.Lookup.{found_here, not_here}
use Rattle.vm_disks.proofs.requests.place_busy.Goals as goal

pub returns-then-has_worker : goal.returns-then-has_worker
returns-then-has_worker c =
    let x : Unfinished = record { id = c.nth-progress.result.0; request = c.nth-progress.result.2.now; progress = c.nth-progress.result.1 } in (
      omega (arith, c.loop-k-test.true, c.count-k-end.ensures),
      found_here (is_busy_by c.args.by) c.args.queue.now.requests c.loop-k.k x c.loop-k.invariant c.nth-progress.ensures (sym c.has_worker.ensures ∙ c.if-has_worker.true),
    )

pub loop-k-preserved : goal.loop-k-preserved
loop-k-preserved c =
    let x : Unfinished = record { id = c.nth-progress.result.0; request = c.nth-progress.result.2.now; progress = c.nth-progress.result.1 } in
    not_here (is_busy_by c.args.by) c.args.queue.now.requests c.loop-k.k x c.loop-k.invariant c.nth-progress.ensures (sym c.has_worker.ensures ∙ c.if-has_worker.false)
