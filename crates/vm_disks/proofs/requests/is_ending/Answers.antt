use Rattle.blk_queue.specs.Progress.{ends}
use Rattle.vm_state.specs.Requests.{is_busy_by}
use Rattle.vm_disks.proofs.Lookup.{both_then, both_else}
use Rattle.vm_disks.proofs.requests.is_ending.Goals as goal

pub returns-then-is_busy_by : goal.returns-then-is_busy_by
returns-then-is_busy_by c =
    both_then c.args.queue.now c.args.id (is_busy_by c.args.by) ends c.is_busy_by.result c.can_finish.result c.is_sound.ensures c.is_busy_by.ensures c.if-is_busy_by.true c.can_finish.ensures

pub returns-else-is_busy_by : goal.returns-else-is_busy_by
returns-else-is_busy_by c = both_else c.args.queue.now c.args.id (is_busy_by c.args.by) ends c.is_busy_by.result c.is_sound.ensures c.is_busy_by.ensures c.if-is_busy_by.false
