use Rattle.std.proofs.Common.{Option, Some, sym, subst, ◌∙◌}
use Rattle.vm_blkwork.specs.declared.outside.Out.{Out}
use Rattle.vm_blkwork.specs.Outside.{GoneOutside}
use Rattle.vm_blkwork.proofs.Boards.{has_some}
use Rattle.vm_blkwork.proofs.Fitting.{can_call, gone_fits}
use Rattle.vm_blkwork.proofs.worker.Worker.outside.Goals as goal

pub call_once-requires : goal.call_once-requires
call_once-requires g c = λ e.
    can_call g.I.Image.seen c.requires.start c.requires.journal c.args.self.now c.in-Some.out c.requires.fits
    (has_some g.I.Image.seen c.requires.start c.requires.journal c.args.self.now c.in-Some.out (sym c.take.ensures.value ∙ c.in-Some.is) c.requires.fits) e

pub returns-in-Some-clause-fits : goal.returns-in-Some-clause-fits
returns-in-Some-clause-fits g c = λ start journal f.
    gone_fits g.I.Image.seen start journal c.args.self.now (Some c.call_once.new.self)
    (subst (λ (o : Option (Out g.row.I.Denot)). GoneOutside g.I.Image.seen o (Some c.call_once.new.self)) (sym (sym c.take.ensures.value ∙ c.in-Some.is)) c.call_once.ensures) f
