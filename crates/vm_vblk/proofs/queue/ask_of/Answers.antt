use Rattle.std.proofs.Common.{subst, sym}
use Rattle.vblk_req.specs.declared.ask.Ask.{Ask}
use Rattle.vm_vblk.specs.Queue.{AskFits}
use Rattle.vm_vblk.proofs.Asked.{asked_fits}
use Rattle.vm_vblk.proofs.queue.ask_of.Goals as goal

pub returns-clause-fits : goal.returns-clause-fits
returns-clause-fits g c =
    let m = g.B.Bytes.memory c.args.bytes.now in
    subst (λ (a : Ask). AskFits m a) (sym c.request.ensures.value) (asked_fits m c.args.chain.now.head c.args.chain.now.descriptors.items c.read.new.into c.args.sectors c.args.ro c.requires)
