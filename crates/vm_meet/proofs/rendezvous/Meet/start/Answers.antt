use Rattle.vm_meet.proofs.Turns.{opens}
use Rattle.vm_meet.proofs.rendezvous.Meet.start.Goals as goal

pub invariant_of-self : goal.invariant_of-self
invariant_of-self c = opens c.args.kind c.args.by c.args.named c.empty.result c.empty.ensures c.requires
