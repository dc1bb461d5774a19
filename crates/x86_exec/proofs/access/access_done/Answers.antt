use Rattle.std.proofs.Common.{sym}
use Rattle.x86_exec.proofs.Done.{not_there, divides_not, left_alone, stored_there}
use Rattle.x86_exec.proofs.access.access_done.Goals as goal

pub returns-then-not-is_in_memory-clause-done : goal.returns-then-not-is_in_memory-clause-done
returns-then-not-is_in_memory-clause-done g c =
    not_there c.args.ctx.now c.args.insn.now c.args.len (g.B.Bytes.memory c.args.bytes.now) c.args.access.now (sym c.if-not-is_in_memory.ensures.is)

pub returns-then-faults-clause-done : goal.returns-then-faults-clause-done
returns-then-faults-clause-done g c =
    divides_not c.args.ctx.now c.args.insn.now c.args.len (g.B.Bytes.memory c.args.bytes.now) c.args.access.now c.read_from-read.result
    (sym c.if-not-is_in_memory.ensures.is) c.read_from-read.ensures (sym c.if-faults.ensures)

pub returns-then-stores-clause-done : goal.returns-then-stores-clause-done
returns-then-stores-clause-done g c =
    stored_there c.args.ctx.now c.args.insn.now c.args.len (g.B.Bytes.memory c.args.bytes.now) c.args.access.now c.read_from-read.result c.compute-number.result c.compute-number.new.ctx
    (g.B.Bytes.memory c.store.new.bytes) (sym c.if-not-is_in_memory.ensures.is) c.read_from-read.ensures (sym c.if-faults.ensures) (sym c.if-stores.ensures)
    c.compute-number.ensures.ctx c.compute-number.ensures.stored c.store.ensures.memory

pub returns-else-stores-clause-done : goal.returns-else-stores-clause-done
returns-else-stores-clause-done g c =
    left_alone c.args.ctx.now c.args.insn.now c.args.len (g.B.Bytes.memory c.args.bytes.now) c.args.access.now c.read_from-read.result c.compute-number.new.ctx
    (sym c.if-not-is_in_memory.ensures.is) c.read_from-read.ensures (sym c.if-faults.ensures) (sym c.if-stores.ensures) c.compute-number.ensures.ctx
