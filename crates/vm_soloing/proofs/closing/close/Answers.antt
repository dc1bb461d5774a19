use Rattle.std.proofs.Common.{Result, sym, subst}
use Rattle.std.specs.Option.{option_copied}
use Rattle.vm_control.specs.declared.control.OutFault.{OutFault}
use Rattle.vm_soloing.specs.Closing.{Closes}
use Rattle.vm_soloing.proofs.closing.close.Goals as goal

pub returns-in-Ok-clause-closes : goal.returns-in-Ok-clause-closes
returns-in-Ok-clause-closes g c =
    subst (λ (r : Result (Unit {0}) OutFault). Closes (g.H.Host.seen c.args.host.now) (g.H.Host.seen c.end_well.new.host) (option_copied c.args.name) c.args.history.now c.args.run.now.state r c.end_well.result)
    (sym c.in-Ok.is) c.end_well.ensures.saves
