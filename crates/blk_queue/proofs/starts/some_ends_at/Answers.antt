use Rattle.std.proofs.Common.{sym, arith}
use Rattle.blk_queue.proofs.Runs.{stops_at}
use Rattle.blk_queue.proofs.starts.some_ends_at.Goals as goal

pub returns-then-mark-sector : goal.returns-then-mark-sector
returns-then-mark-sector c = sym (stops_at c.args.marks.now c.args.sector c.loop-mark.mark-index (record { start = 0; count = 0; id = 0 }) c.requires c.loop-mark.invariant (omega arith) c.if-mark-sector.true)
