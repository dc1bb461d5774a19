use Rattle.std.proofs.Common.{refl}
use Rattle.std.specs.Option.{option_copied}
use Rattle.vm_outcome.specs.Telling.{has_doubt}
use Rattle.vm_soloing.specs.Closing as closing
use Rattle.vm_soloing.proofs.Closings.{unsaved_causes, well_causes}
use Rattle.vm_soloing.proofs.closing.end_well.Goals as goal

pub returns-in-Ok-clause-saves : goal.returns-in-Ok-clause-saves
returns-in-Ok-clause-saves g c = closing.saved c.ending_of.ensures c.in-Ok.ensures.saved

pub returns-in-Ok-clause-causes : goal.returns-in-Ok-clause-causes
returns-in-Ok-clause-causes g c =
    well_causes c.args.run.now.state.ended (has_doubt c.args.run.now.state) c.ending_of.result (g.H.Host.seen c.args.host.now) (g.H.Host.seen c.keep_journal.new.host)
    c.ending_of.ensures c.in-Ok.ensures.causes

pub returns-in-Err-clause-saves : goal.returns-in-Err-clause-saves
returns-in-Err-clause-saves g c = closing.unsaved c.in-Err.refusal refl c.in-Err.ensures.unsaved

pub returns-in-Err-clause-causes : goal.returns-in-Err-clause-causes
returns-in-Err-clause-causes g c =
    unsaved_causes (option_copied c.args.name) (g.H.Host.seen c.args.host.now) (g.H.Host.seen c.keep_journal.new.host) c.in-Err.refusal c.in-Err.ensures.unsaved c.in-Err.ensures.causes
