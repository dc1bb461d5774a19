use Rattle.std.proofs.Common.{ap, arith}
use Rattle.blk_queue.specs.Queue.{Queue}
use Rattle.blk_queue.specs.Steps.{emptied}
use Rattle.blk_queue.proofs.Sound.{sound_emptied}
use Rattle.blk_queue.proofs.queue.BlkQueue.reset.Goals as goal

pub invariant_of-self : goal.invariant_of-self
unfolding emptied
invariant_of-self c =
    (omega (arith, c.empty.ensures.capacity), rw c.empty.ensures.rest (sound_emptied (record { next = c.self.inside.next; requests = c.self.inside.list.items }) c.self.invariant.1), c.empty.ensures.indexed)

pub returns : goal.returns
unfolding emptied
returns c = rw c.empty.ensures.rest (ap (λ (q : Queue). emptied q) c.self.view_is)
