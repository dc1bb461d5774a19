use Rattle.std.proofs.Common.{sym, subst}
use Rattle.vm_cmd.specs.declared.command.Command.{Command}
use Rattle.vm_run.specs.Works.{Works}
use Rattle.vm_run.proofs.Commands.{run_works}
use Rattle.vm_run.proofs.working.carry_out.Goals as goal

pub returns-in-Run : goal.returns-in-Run
returns-in-Run g c =
    let e = c.run.ensures in
    subst (λ (x : Command). Works g.H.Host.seen g.S.Sink.seen x c.args.host.now c.run.new.host c.args.console.now c.run.new.console c.run.result.ending c.run.result.kept) (sym c.in-Run.is)
    (run_works g.H.Host.seen g.S.Sink.seen c.args.host.now c.run.new.host c.args.console.now c.run.new.console c.run.result.ending c.run.result.kept
    e.causes e.run e.named e.console e.silent c.in-Run.words e.answers e.start e.begins e.refuses e.orderly e.files e.disks e.sound_images e.doubted)
