use Rattle.std.proofs.Common.{refl}
use Rattle.vm_soloing.proofs.Crews.{begun_run}
use Rattle.vm_soloing.proofs.running.unopened.Goals as goal

pub returns-clause-kept : goal.returns-clause-kept
returns-clause-kept c =
    (begun_run c.args.start (record { start = c.args.start; journal = c.new.result; run = c.args.run }) c.requires.sound refl c.new.ensures c.requires.begun, c.new.ensures)
