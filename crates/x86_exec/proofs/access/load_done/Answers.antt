use Rattle.std.proofs.Common.{refl}
use Rattle.x86_op.specs.declared.access.Way.TheVariants as way
use Rattle.x86_exec.proofs.Done.{plainly_loaded}
use Rattle.x86_exec.proofs.access.load_done.Goals as goal

pub returns : goal.returns
returns g c =
    plainly_loaded c.args.ctx.now c.args.insn.now c.args.len (g.B.Bytes.memory c.args.bytes.now) (record { way = way.Load; at = c.args.at; len = c.args.size })
    c.load-read.result c.compute.new.ctx c.requires.memory refl c.requires.divides c.load-read.ensures c.compute.ensures.ctx
