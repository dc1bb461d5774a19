use Rattle.std.proofs.Common.{refl}
use Rattle.vm_status.specs.Lines.{line_of}
use Rattle.vm_status.specs.declared.refusal.Refusal.TheVariants.{Memory}
use Rattle.vm_outcome.specs.Telling as telling
use Rattle.vm_outcome.proofs.Frames.{takes_line}
use Rattle.vm_outcome.proofs.telling.tell_run.Goals as goal

pub returns-in-Err : goal.returns-in-Err
returns-in-Err g c =
    telling.spent refl (takes_line (line_of Memory) (g.L.Sink.seen c.args.log.now) (g.L.Sink.seen c.write_line-told.new.sink) c.write_line-told.result
    c.write_line-told.ensures.whole c.write_line-told.ensures.part c.write_line-told.ensures.cause)
