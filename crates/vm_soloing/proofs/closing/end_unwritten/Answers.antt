use Rattle.vm_outcome.specs.Ends.{result_status}
use Rattle.vm_soloing.proofs.Closings.{unwritten_causes}
use Rattle.vm_soloing.proofs.closing.end_unwritten.Goals as goal

pub returns-clause-causes : goal.returns-clause-causes
returns-clause-causes g c =
    unwritten_causes (result_status c.keep_journal-kept.result) (g.H.Host.seen c.args.host.now) (g.H.Host.seen c.keep_journal-kept.new.host) c.keep_journal-kept.ensures.causes
