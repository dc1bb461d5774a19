use Rattle.vm_assembling.proofs.Assemblies.{wrote, not_read}
use Rattle.vm_assembling.proofs.assembling.asm.Goals as goal

pub returns-in-Ok-clause-answers : goal.returns-in-Ok-clause-answers
returns-in-Ok-clause-answers g c =
    wrote c.args.file.now c.args.out.now c.finish.result.ending (g.H.Host.seen c.args.host.now) (g.H.Host.seen c.image_from.new.host) (g.H.Host.seen c.write_image.new.host)
    c.in-Ok.image c.write_image.result c.in-Ok.ensures.reads c.in-Ok.ensures.leaves.told c.write_image.ensures.written c.write_image.ensures.unwritten
    c.finish.ensures.done c.finish.ensures.refused

pub returns-in-Err-clause-answers : goal.returns-in-Err-clause-answers
returns-in-Err-clause-answers g c =
    not_read c.args.file.now c.args.out.now c.finish-in-Err.result.ending (g.H.Host.seen c.args.host.now) (g.H.Host.seen c.image_from.new.host)
    c.in-Err.refusal c.in-Err.ensures.reads c.in-Err.ensures.causes c.in-Err.ensures.leaves c.finish-in-Err.ensures.refused
