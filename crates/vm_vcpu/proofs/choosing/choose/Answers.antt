use Rattle.vm_vcpu.proofs.Lists.{may_choose}
use Rattle.vm_vcpu.proofs.choosing.choose.Goals as goal

pub add_first-requires-clause-home : goal.add_first-requires-clause-home
add_first-requires-clause-home g c e is = (may_choose c.args.board.now.state c.args.cpu c.args.by e c.requires.pass c.requires.there is).home
