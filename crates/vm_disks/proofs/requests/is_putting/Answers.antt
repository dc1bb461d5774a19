use Rattle.std.specs.Prelude.{◌&&◌}
use Rattle.blk_queue.specs.declared.progress.Unfinished.{Unfinished}
use Rattle.blk_queue.specs.Progress.{is_dropped, puts}
use Rattle.vm_state.specs.Requests.{is_busy_by}
use Rattle.vm_disks.proofs.Lookup.{but_then, but_else}
use Rattle.vm_disks.proofs.requests.is_putting.Goals as goal

pub returns-then-can_put : goal.returns-then-can_put
returns-then-can_put c =
    but_then c.args.queue.now c.args.id (λ (x : Unfinished). is_busy_by c.args.by x && puts x) is_dropped c.can_put.result c.is_dropped.result c.is_sound.ensures c.can_put.ensures c.if-can_put.true c.is_dropped.ensures

pub returns-else-can_put : goal.returns-else-can_put
returns-else-can_put c =
    but_else c.args.queue.now c.args.id (λ (x : Unfinished). is_busy_by c.args.by x && puts x) is_dropped c.can_put.result c.is_sound.ensures c.can_put.ensures c.if-can_put.false
