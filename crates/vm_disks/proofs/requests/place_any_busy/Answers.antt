use Rattle.std.proofs.Common.{sym, ◌∙◌, arith}
use Rattle.blk_queue.specs.declared.progress.Unfinished.{Unfinished}
use Rattle.blk_queue.specs.Progress.{is_busy}
use Rattle.vm_disks.proofs.Lookup.{found_here, not_here}
use Rattle.vm_disks.proofs.requests.place_any_busy.Goals as goal

pub returns-then-is_busy : goal.returns-then-is_busy
returns-then-is_busy c =
    let x : Unfinished = record { id = c.nth-progress.result.0; request = c.nth-progress.result.2.now; progress = c.nth-progress.result.1 } in (
      omega (arith, c.loop-k-test.true, c.count-k-end.ensures),
      found_here is_busy c.args.queue.now.requests c.loop-k.k x c.loop-k.invariant c.nth-progress.ensures (sym c.is_busy.ensures ∙ c.if-is_busy.true),
    )

pub loop-k-preserved : goal.loop-k-preserved
loop-k-preserved c =
    let x : Unfinished = record { id = c.nth-progress.result.0; request = c.nth-progress.result.2.now; progress = c.nth-progress.result.1 } in
    not_here is_busy c.args.queue.now.requests c.loop-k.k x c.loop-k.invariant c.nth-progress.ensures (sym c.is_busy.ensures ∙ c.if-is_busy.false)
