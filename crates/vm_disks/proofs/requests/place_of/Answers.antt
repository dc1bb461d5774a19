use Rattle.std.proofs.Common.{◌==◌, eq-eqb, arith}
use Rattle.std.proofs.lemmas.Bool.{ne_eqb}
use Rattle.blk_queue.specs.declared.progress.Unfinished.{Unfinished}
use Rattle.vm_disks.proofs.Lookup.{found_here, not_here}
use Rattle.vm_disks.proofs.requests.place_of.Goals as goal

pub returns-then-other-id : goal.returns-then-other-id
returns-then-other-id c =
    let x : Unfinished = record { id = c.nth-other.result.0; request = c.nth-other.result.2.now; progress = c.nth-other.result.1 } in (
      omega (arith, c.loop-k-test.true, c.count-k-end.ensures),
      found_here (λ (y : Unfinished). y.id == c.args.id) c.args.queue.now.requests c.loop-k.k x c.loop-k.invariant c.nth-other.ensures (eq-eqb x.id c.args.id c.if-other-id.true),
    )

pub loop-k-preserved : goal.loop-k-preserved
loop-k-preserved c =
    let x : Unfinished = record { id = c.nth-other.result.0; request = c.nth-other.result.2.now; progress = c.nth-other.result.1 } in
    not_here (λ (y : Unfinished). y.id == c.args.id) c.args.queue.now.requests c.loop-k.k x c.loop-k.invariant c.nth-other.ensures (ne_eqb x.id c.args.id c.if-other-id.false)
