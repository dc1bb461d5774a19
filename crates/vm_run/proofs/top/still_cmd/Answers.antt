use Rattle.std.proofs.Common.{Option, sym, subst, ◌∙◌}
use Rattle.vm_outcome.specs.declared.outcome.Ending.{Ending}
use Rattle.vm_outcome.specs.declared.outcome.Kept.{Kept}
use Rattle.vm_run.specs.Answer.{Does}
use Rattle.vm_run.proofs.Tops.{told_does}
use Rattle.vm_run.proofs.top.still_cmd.Goals as goal

pub conclude-requires : goal.conclude-requires
conclude-requires g c = c.carry_out_still-finish.ensures.run

pub returns-clause-does : goal.returns-clause-does
returns-clause-does g c =
    let finish = c.carry_out_still-finish.result in
    subst (λ (e : Ending). Does g.H.Host.seen g.S.Sink.seen g.L.Sink.seen c.args.command.now c.args.host.now c.carry_out_still-finish.new.host c.args.console.now c.carry_out_still-finish.new.console c.args.log.now c.conclude.new.log e c.of.result.kept) (sym c.of.ensures.ending)
    (subst (λ (k : Option Kept). Does g.H.Host.seen g.S.Sink.seen g.L.Sink.seen c.args.command.now c.args.host.now c.carry_out_still-finish.new.host c.args.console.now c.carry_out_still-finish.new.console c.args.log.now c.conclude.new.log c.conclude.result.ending k) (sym (c.of.ensures.kept ∙ c.conclude.ensures.kept))
    (told_does g.H.Host.seen g.S.Sink.seen g.L.Sink.seen c.args.command.now c.args.host.now c.carry_out_still-finish.new.host c.args.console.now c.carry_out_still-finish.new.console
    c.args.log.now c.conclude.new.log finish.ending finish.kept c.carry_out_still-finish.ensures c.conclude.result.ending c.conclude.ensures.told))
