use Rattle.std.proofs.Common.{refl}
use Rattle.x86_op.specs.declared.access.Way.TheVariants as way
use Rattle.x86_exec.proofs.Done.{plainly_stored}
use Rattle.x86_exec.proofs.access.store_done.Goals as goal

pub returns-clause-done : goal.returns-clause-done
returns-clause-done g c =
    plainly_stored c.args.ctx.now c.args.insn.now c.args.len (g.B.Bytes.memory c.args.bytes.now) (record { way = way.Store; at = c.args.at; len = c.args.size })
    c.compute-number.result c.compute-number.new.ctx (g.B.Bytes.memory c.store.new.bytes) c.requires.memory refl c.requires.divides
    c.compute-number.ensures.ctx c.compute-number.ensures.stored c.store.ensures.memory
