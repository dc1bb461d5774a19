use Rattle.std.proofs.Common.{sym, ◌∙◌, arith}
use Rattle.blk_queue.specs.declared.progress.Unfinished.{Unfinished}
use Rattle.blk_queue.specs.Progress.{is_pending}
use Rattle.vm_disks.proofs.Lookup.{found_here, not_here}
use Rattle.vm_disks.proofs.requests.place_pending.Goals as goal

pub returns-then-is_pending : goal.returns-then-is_pending
returns-then-is_pending c =
    let x : Unfinished = record { id = c.nth-progress.result.0; request = c.nth-progress.result.2.now; progress = c.nth-progress.result.1 } in (
      omega (arith, c.loop-k-test.true, c.count-k-end.ensures),
      found_here is_pending c.args.queue.now.requests c.loop-k.k x c.loop-k.invariant c.nth-progress.ensures (sym c.is_pending.ensures ∙ c.if-is_pending.true),
    )

pub loop-k-preserved : goal.loop-k-preserved
loop-k-preserved c =
    let x : Unfinished = record { id = c.nth-progress.result.0; request = c.nth-progress.result.2.now; progress = c.nth-progress.result.1 } in
    not_here is_pending c.args.queue.now.requests c.loop-k.k x c.loop-k.invariant c.nth-progress.ensures (sym c.is_pending.ensures ∙ c.if-is_pending.false)
