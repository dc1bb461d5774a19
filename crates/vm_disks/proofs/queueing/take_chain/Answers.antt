use Rattle.vm_disks.proofs.Taken.{pulled_request}
use Rattle.vm_disks.proofs.queueing.take_chain.Goals as goal

pub accept-requires-clause-request : goal.accept-requires-clause-request
accept-requires-clause-request c = pulled_request c.args.ram.now.memory c.args.drive.now.window c.in-Request.request c.in-Request.ensures.answer
