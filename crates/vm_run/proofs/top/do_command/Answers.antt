use Rattle.std.proofs.Common.{Option, sym, subst}
use Rattle.vm_outcome.specs.declared.outcome.Kept.{Kept}
use Rattle.vm_run.specs.Answer.{Does}
use Rattle.vm_run.proofs.Tops.{told_does}
use Rattle.vm_run.proofs.top.do_command.Goals as goal

pub conclude-requires : goal.conclude-requires
conclude-requires g c = c.carry_out-finish.ensures.run

pub returns : goal.returns
returns g c =
    let finish = c.carry_out-finish.result in
    subst (λ (k : Option Kept). Does g.H.Host.seen g.S.Sink.seen g.L.Sink.seen c.args.command.now c.args.host.now c.carry_out-finish.new.host c.args.console.now c.carry_out-finish.new.console c.args.log.now c.conclude.new.log c.conclude.result.ending k) (sym c.conclude.ensures.kept)
    (told_does g.H.Host.seen g.S.Sink.seen g.L.Sink.seen c.args.command.now c.args.host.now c.carry_out-finish.new.host c.args.console.now c.carry_out-finish.new.console
    c.args.log.now c.conclude.new.log finish.ending finish.kept c.carry_out-finish.ensures c.conclude.result.ending c.conclude.ensures.told)
